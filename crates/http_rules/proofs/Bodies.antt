-- No rule changes the body behind a head.
use Rattle.std.proofs.Common.{◌≡◌, ℕ, suc, List, [], ◌∷◌, Bool, true, false, cond, map, refl, sym, ap, subst, ◌∙◌, length}
use Rattle.std.specs.Prelude.{Option, Some, None, Result, Ok, Err, nat_le, slice_get, not, ◌&&◌, decimal}
use Rattle.std.specs.List.{AllByRecursion, list_any}
use Rattle.http_model.specs.declared.Why.{Why}
use Rattle.http_model.specs.declared.Why.TheVariants.{Room, Bytes}
use Rattle.http_model.specs.Head.{Head, Field, Message, StartLine, RequestLine, StatusLine}
use Rattle.session_model.specs.Env.{Pass, Reply, Deny, Fail, env_with_head, env_with_vars}
use Rattle.px_bytes.specs.Blanks.{trimmed}
use Rattle.px_bytes.specs.Values.{values_of}
use Rattle.px_pattern.specs.Pattern.{Pattern}
use Rattle.log_format.specs.declared.fmt.Fmt.{Fmt}
use Rattle.http_rules.specs.declared.rule.action.Action.{Action}
use Rattle.http_rules.specs.declared.rule.action.Action.TheVariants as actions
use Rattle.http_rules.specs.declared.rule.rule.Rule.{Rule}
use Rattle.http_rules.specs.declared.action.part.TargetPart.{TargetPart}
use Rattle.http_rules.specs.Action.Given.{Env, text_on}
use Rattle.http_rules.specs.Action.Edits.{Step, edited, by_text, by_value, are_value_bytes, fits_with}
use Rattle.http_rules.specs.Action.Lines.{made_of, made_of_status, with_line, is_target, sent_to, may_become, stated, is_bodiless_text}
use Rattle.http_rules.specs.Action.Lines as lines
use Rattle.http_rules.specs.Action.Replacing.{places, matches, replaced, by_match, with_value, made_of_field, replace_whole, replaced_values, replace_values}
use Rattle.http_rules.specs.Action.Replies.{redirected, returned}
use Rattle.http_model.specs.Fields.{add_field, set_field}
use Rattle.http_rules.specs.declared.action.part.TargetPart.TheVariants as parts
use Rattle.http_rules.specs.Action.Steps.{add_step, set_step, without_meant, method_step, part_step, query_step, replace_part, steps_of}
use Rattle.http_rules.specs.Action.Acts.{left_by, Act, Next, Stop, Replies, Denies, Fails, after_step, run_steps, replying, act}
use Rattle.http_rules.specs.Rules.{Comes, answers, mode_after, runs, behind, by_rule, walk, rules_of}

-- ---- steps in turn

abbrev KeepsAct : Env → Act → Type 0
KeepsAct env (Next next) = next.body ≡ env.body
KeepsAct env Stop = Unit {0}
KeepsAct env (Replies m) = Unit {0}
KeepsAct env (Denies code) = Unit {0}
KeepsAct env (Fails why left) = left.body ≡ env.body

further : (env next : Env) (act : Act) → next.body ≡ env.body → KeepsAct next act → KeepsAct env act
further env next (Next last) same x = x ∙ same
further env next Stop same x = tt
further env next (Replies m) same x = tt
further env next (Denies code) same x = tt
further env next (Fails why left) same x = x ∙ same

one_step : (env : Env) (others : Env → Act) (r : Result Env Why) → ((next : Env) → KeepsAct next (others next)) → KeepsAct env (after_step env r others)
one_step env others (Ok next) rest = further env (left_by env next) (others (left_by env next)) refl (rest (left_by env next))
one_step env others (Err why) rest = refl

in_turn : (steps : List Step) (env : Env) → KeepsAct env (run_steps steps env)
in_turn [] env = refl
in_turn (step ∷ steps) env = one_step env (run_steps steps) (step env) (λ next. in_turn steps next)

reply_keeps : (env : Env) (r : Result Message Why) → KeepsAct env (replying env r)
reply_keeps env (Ok m) = tt
reply_keeps env (Err why) = refl

act_keeps : (size : ℕ) (action : Action) (env : Env) → KeepsAct env (act size action env)
unfolding act
act_keeps size actions.Allow env = tt
act_keeps size (actions.Deny code) env = tt
act_keeps size (actions.Redirect to code drop_query append_slash) env = reply_keeps env (redirected size to code drop_query append_slash env)
act_keeps size (actions.Return status content_type payload hdrs) env = reply_keeps env (returned size status content_type payload hdrs env)
act_keeps size action env = in_turn (steps_of size action env) env

-- ---- rules in turn

abbrev pub KeepsComes : Env → Comes → Type 0
KeepsComes env (Pass left) = left.body ≡ env.body
KeepsComes env (Reply m left) = left.body ≡ env.body
KeepsComes env (Deny code left) = left.body ≡ env.body
KeepsComes env (Fail why left) = left.body ≡ env.body

on_to : (env next : Env) (comes : Comes) → next.body ≡ env.body → KeepsComes next comes → KeepsComes env comes
on_to env next (Pass left) same x = x ∙ same
on_to env next (Reply m left) same x = x ∙ same
on_to env next (Deny code left) same x = x ∙ same
on_to env next (Fail why left) same x = x ∙ same

behind_keeps : (strict : Bool) (action : Action) (env : Env) (done : Act) (others : Bool → Env → Comes) → KeepsAct env done → ((mode : Bool) (next : Env) → KeepsComes next (others mode next)) → KeepsComes env (behind strict action env done others)
behind_keeps strict action env (Next next) others x rest = on_to env next (others (mode_after strict action) next) x (rest (mode_after strict action) next)
behind_keeps strict action env Stop others x rest = refl
behind_keeps strict action env (Replies m) others x rest = refl
behind_keeps strict action env (Denies code) others x rest = refl
behind_keeps strict action env (Fails why left) others x rest = by (not strict && not (answers action))
  where
    by : (t : Bool) → KeepsComes env (cond t (others strict left) (Fail why left))
    by true = on_to env left (others strict left) x (rest strict left)
    by false = x

chosen : (env : Env) (t : Bool) (a b : Comes) → KeepsComes env a → KeepsComes env b → KeepsComes env (cond t a b)
chosen env true a b x y = x
chosen env false a b x y = y

pub walk_keeps : (size : ℕ) (rules : List Rule) (strict : Bool) (env : Env) → KeepsComes env (walk size rules strict env)
walk_keeps size [] strict env = refl
walk_keeps size (rule ∷ rules) strict env =
    chosen env (runs size rule.cond env) (behind strict rule.action env (act size rule.action env) (walk size rules)) (walk size rules strict env)
    (behind_keeps strict rule.action env (act size rule.action env) (walk size rules) (act_keeps size rule.action env) (λ mode next. walk_keeps size rules mode next))
    (walk_keeps size rules strict env)

pub passes_body : (size : ℕ) (rules : List Rule) (env left : Env) → rules_of size rules env ≡ Pass left → left.body ≡ env.body
passes_body size rules env left is = subst (λ (c : Comes). KeepsComes env c) is (walk_keeps size rules true env)
