-- An action that makes one edit leaves the variables.
use Rattle.std.proofs.Common.{◌≡◌, ℕ, List, [], ◌∷◌, Bool, true, false, cond, map, refl, ◌∙◌}
use Rattle.std.specs.Prelude.{Option, Some, None, Result, Ok, Err, nat_le, slice_get, length, decimal}
use Rattle.std.specs.List.{list_any}
use Rattle.std.proofs.lemmas.Bool.{false≢true}
use Rattle.http_model.specs.Block.{Block}
use Rattle.http_model.specs.declared.Why.{Why}
use Rattle.http_model.specs.declared.Why.TheVariants.{Room, Bytes}
use Rattle.http_model.specs.Fields.{add_field, set_field}
use Rattle.http_model.specs.Head.{Head, Field, Message, StartLine, RequestLine, StatusLine}
use Rattle.px_bytes.specs.Blanks.{trimmed}
use Rattle.px_bytes.specs.Values.{values_of}
use Rattle.px_pattern.specs.Pattern.{Pattern}
use Rattle.log_format.specs.declared.fmt.Fmt.{Fmt}
use Rattle.session_model.specs.Env.{env_with_head}
use Rattle.http_rules.specs.declared.rule.action.Action.{Action}
use Rattle.http_rules.specs.declared.rule.action.Action.TheVariants as actions
use Rattle.http_rules.specs.declared.action.part.TargetPart.{TargetPart}
use Rattle.http_rules.specs.declared.action.part.TargetPart.TheVariants as parts
use Rattle.http_rules.specs.Action.Given.{Env, text_on}
use Rattle.http_rules.specs.Action.Edits.{Step, edited, by_text, by_value, are_value_bytes, fits_with}
use Rattle.http_rules.specs.Action.Hosts.{stands_behind, reset, hosts_agree, reuri}
use Rattle.http_rules.specs.Action.Lines as lines
use Rattle.http_rules.specs.Action.Lines.{made_of, on_request, made_of_status, with_line, is_target, sent_to, retargeted, with_part, with_query, part_of, may_become, sent_by, remethoded, stated, restated, reason_by}
use Rattle.http_rules.specs.Action.Replacing.{places, matches, replaced, by_match, with_value, made_of_field, replace_whole, replaced_values, are_short, by_matches, replace_values}
use Rattle.http_rules.specs.Action.Replies.{redirected, returned}
use Rattle.http_rules.specs.Action.Steps.{add_step, set_step, del_step, without_meant, method_step, part_step, uri_step, query_step, replace_part, steps_of, line_step}
use Rattle.http_rules.specs.Action.Acts.{left_by, Act, Next, Stop, Replies, Denies, Fails, after_step, run_steps, replying, act}
use Rattle.px_explain.specs.Wanted.{is_one_edit}

-- ---- one step

-- where it is made, the variables are those before it
abbrev Keeps : Env → Result Env Why → Type 0
Keeps env (Ok next) = next.vars ≡ env.vars
Keeps env (Err why) = Unit {0}

either : (env : Env) (t : Bool) (a b : Result Env Why) → Keeps env a → Keeps env b → Keeps env (cond t a b)
either env true a b x y = x
either env false a b x y = y

edit : (size : ℕ) (env : Env) (head : Head) → Keeps env (edited size env head)
edit size env head = either env (fits_with size env.body head) (Ok (env_with_head env head)) (Err Room) refl tt

texted : (size : ℕ) (env : Env) (text : List ℕ) (make : List ℕ → Result Env Why) → Keeps env (make text) → Keeps env (by_text size text make)
texted size env text make h = either env (nat_le (length text) size) (make text) (Err Bytes) h tt

valued : (size : ℕ) (env : Env) (text : List ℕ) (make : List ℕ → Head) → Keeps env (by_value size env text make)
valued size env text make = either env (are_value_bytes text) (edited size env (make (trimmed text))) (Err Bytes) (edit size env (make (trimmed text))) tt

lined : (line : StartLine) (env : Env) (make : (method target version : List ℕ) → Result Env Why) → ((method target version : List ℕ) → Keeps env (make method target version)) → Keeps env (made_of line env make)
lined (RequestLine method target version) env make h = h method target version
lined (StatusLine version status reason) env make h = refl

targeted : (size : ℕ) (env : Env) (method target version : List ℕ) → Keeps env (sent_to size env method target version)
targeted size env method target version =
    either env (is_target target) (edited size env (with_line env.head (RequestLine method target version))) (Err Bytes) (edit size env (with_line env.head (RequestLine method target version))) tt

methoded : (size : ℕ) (env : Env) (method text target version : List ℕ) → Keeps env (sent_by size env method text target version)
methoded size env method text target version =
    either env (may_become method text) (edited size env (with_line env.head (RequestLine text target version))) (Err Bytes) (edit size env (with_line env.head (RequestLine text target version))) tt

-- ---- the steps of actions

adds : (size : ℕ) (name : List ℕ) (fmt : Fmt) (env : Env) → Keeps env (add_step size name fmt env)
adds size name fmt env =
    texted size env (text_on size env fmt) (λ text. by_value size env text (λ value. add_field name value env.head))
    (valued size env (text_on size env fmt) (λ value. add_field name value env.head))

resets : (size : ℕ) (env : Env) (name text : List ℕ) → Keeps env (reset size env name text)
resets size env name text =
    either env (stands_behind env.head.line (name, trimmed text)) (by_value size env text (λ value. set_field name value env.head)) (Err Bytes)
    (valued size env text (λ value. set_field name value env.head)) tt

sets : (size : ℕ) (name : List ℕ) (fmt : Fmt) (env : Env) → Keeps env (set_step size name fmt env)
sets size name fmt env = texted size env (text_on size env fmt) (λ text. reset size env name text) (resets size env name (text_on size env fmt))

methods : (size : ℕ) (fmt : Fmt) (env : Env) → Keeps env (method_step size fmt env)
methods size fmt env =
    let text = text_on size env fmt in
    texted size env text (remethoded size env) (lined env.head.line env (λ method target version. sent_by size env method text target version) (λ method target version. methoded size env method text target version))

targets : (size : ℕ) (env : Env) (make : List ℕ → List ℕ) → Keeps env (retargeted size env make)
targets size env make =
    lined env.head.line env (λ method target version. sent_to size env method (make target) version) (λ method target version. targeted size env method (make target) version)

sets_part : (size : ℕ) (part : TargetPart) (fmt : Fmt) (env : Env) → Keeps env (part_step size part fmt env)
sets_part size part fmt env =
    texted size env (text_on size env fmt) (λ text. retargeted size env (λ target. with_part part target text)) (targets size env (λ target. with_part part target (text_on size env fmt)))

reuris : (size : ℕ) (env : Env) (text : List ℕ) → Keeps env (reuri size env text)
reuris size env text =
    lined env.head.line env (λ method target version. cond (hosts_agree text env.head.fields) (sent_to size env method (with_part parts.Uri target text) version) (Err Bytes))
    (λ method target version.
    either env (hosts_agree text env.head.fields) (sent_to size env method (with_part parts.Uri target text) version) (Err Bytes) (targeted size env method (with_part parts.Uri target text) version) tt)

sets_uri : (size : ℕ) (fmt : Fmt) (env : Env) → Keeps env (uri_step size fmt env)
sets_uri size fmt env = texted size env (text_on size env fmt) (λ text. reuri size env text) (reuris size env (text_on size env fmt))

sets_query : (size : ℕ) (fmt : Fmt) (env : Env) → Keeps env (query_step size fmt env)
sets_query size fmt env =
    texted size env (text_on size env fmt) (λ text. retargeted size env (λ target. with_query target text)) (targets size env (λ target. with_query target (text_on size env fmt)))

restates : (size : ℕ) (env : Env) (code : ℕ) (reason : List ℕ) (line : StartLine) → Keeps env (made_of_status line env (λ version status old. stated size env code reason version status))
restates size env code reason (RequestLine method target version) = refl
restates size env code reason (StatusLine version status old) =
    either env _ (edited size env (with_line env.head (StatusLine version (decimal code) reason))) (Err Bytes) (edit size env (with_line env.head (StatusLine version (decimal code) reason))) tt

-- ---- replacements

matched : (size : ℕ) (env : Env) (pat : Pattern) (fmt : Fmt) (text : List ℕ) (make : List ℕ → Result Env Why) → ((made : List ℕ) → Keeps env (make made)) → Keeps env (by_match size env pat fmt text make)
matched size env pat fmt text make h =
    let template = text_on size env fmt in
    either env (matches pat text) (by_text size template (λ t. by_text size (replaced pat t text) make)) (Ok env)
    (texted size env template (λ t. by_text size (replaced pat t text) make) (texted size env (replaced pat template text) make (h (replaced pat template text)))) refl

listed : (size : ℕ) (env : Env) (pat : Pattern) (fmt : Fmt) (field : List ℕ) (make : List ℕ → Result Env Why) → ((made : List ℕ) → Keeps env (make made)) → Keeps env (by_matches size env pat fmt field make)
listed size env pat fmt field make h =
    let template = text_on size env fmt in
    either env (list_any (matches pat) (values_of field)) (by_text size template (λ t. cond (are_short size pat t field) (make (replaced_values pat t field)) (Err Bytes))) (Ok env)
    (texted size env template (λ t. cond (are_short size pat t field) (make (replaced_values pat t field)) (Err Bytes))
    (either env (are_short size pat template field) (make (replaced_values pat template field)) (Err Bytes) (h (replaced_values pat template field)) tt)) refl

replaces_part : (size : ℕ) (part : TargetPart) (pat : Pattern) (fmt : Fmt) (env : Env) → Keeps env (replace_part size part pat fmt env)
replaces_part size part pat fmt env =
    lined env.head.line env
    (λ method target version. by_match size env pat fmt (part_of part target) (λ text. sent_to size env method (with_part part target text) version))
    (λ method target version.
    matched size env pat fmt (part_of part target) (λ text. sent_to size env method (with_part part target text) version) (λ text. targeted size env method (with_part part target text) version))

on_a_field : (field : Option Field) (env : Env) (make : Field → Result Env Why) → ((f : Field) → Keeps env (make f)) → Keeps env (made_of_field field env make)
on_a_field None env make h = refl
on_a_field (Some field) env make h = h field

replaces_whole : (size : ℕ) (pat : Pattern) (fmt : Fmt) (at : ℕ) (env : Env) → Keeps env (replace_whole size pat fmt at env)
replaces_whole size pat fmt at env =
    on_a_field (slice_get env.head.fields at) env
    (λ field. by_match size env pat fmt field.1 (λ text. by_value size env text (with_value env.head at field)))
    (λ field. matched size env pat fmt field.1 (λ text. by_value size env text (with_value env.head at field)) (λ text. valued size env text (with_value env.head at field)))

replaces_values : (size : ℕ) (pat : Pattern) (fmt : Fmt) (at : ℕ) (env : Env) → Keeps env (replace_values size pat fmt at env)
replaces_values size pat fmt at env =
    on_a_field (slice_get env.head.fields at) env
    (λ field. by_matches size env pat fmt field.1 (λ text. by_value size env text (with_value env.head at field)))
    (λ field. listed size env pat fmt field.1 (λ text. by_value size env text (with_value env.head at field)) (λ text. valued size env text (with_value env.head at field)))

-- ---- steps in turn

abbrev pub KeepsAct : Env → Act → Type 0
KeepsAct env (Next next) = next.vars ≡ env.vars
KeepsAct env Stop = Unit {0}
KeepsAct env (Replies m) = Unit {0}
KeepsAct env (Denies code) = Unit {0}
KeepsAct env (Fails why left) = left.vars ≡ env.vars

further : (env next : Env) (done : Act) → next.vars ≡ env.vars → KeepsAct next done → KeepsAct env done
further env next (Next last) same x = x ∙ same
further env next Stop same x = tt
further env next (Replies m) same x = tt
further env next (Denies code) same x = tt
further env next (Fails why left) same x = x ∙ same

abbrev Each : List Step → Type 0
Each [] = Unit {0}
Each (step ∷ steps) = ((env : Env) → Keeps env (step env)) × Each steps

one_step : (env : Env) (others : Env → Act) (r : Result Env Why) → Keeps env r → ((next : Env) → KeepsAct next (others next)) → KeepsAct env (after_step env r others)
one_step env others (Ok next) kept rest = further env (left_by env next) (others (left_by env next)) kept (rest (left_by env next))
one_step env others (Err why) kept rest = refl

in_turn : (steps : List Step) (env : Env) → Each steps → KeepsAct env (run_steps steps env)
in_turn [] env each = refl
in_turn (step ∷ steps) env each = one_step env (run_steps steps) (step env) (each.0 env) (λ next. in_turn steps next each.1)

each_at : (step : ℕ → Step) (ats : List ℕ) → ((at : ℕ) (env : Env) → Keeps env (step at env)) → Each (map step ats)
each_at step [] h = tt
each_at step (at ∷ ats) h = (h at, each_at step ats h)

each_of : (size : ℕ) (action : Action) (env : Env) (blocks : List Block) → is_one_edit action blocks ≡ true → Each (steps_of size action env)
unfolding steps_of line_step
each_of size actions.Allow env blocks one = tt
each_of size (actions.Deny code) env blocks one = tt
each_of size (actions.AddHeader name fmt) env blocks one = (adds size name fmt, tt)
each_of size (actions.SetHeader name fmt) env blocks one = (sets size name fmt, tt)
each_of size (actions.DelHeader by) env blocks one = (λ e. edit size e (without_meant by e.head), tt)
each_of size (actions.ReplaceHeader name pat fmt) env blocks one = each_at (replace_whole size pat fmt) (places name env.head.fields 0) (replaces_whole size pat fmt)
each_of size (actions.ReplaceValue name pat fmt) env blocks one = each_at (replace_values size pat fmt) (places name env.head.fields 0) (replaces_values size pat fmt)
each_of size (actions.SetStatus code reason) env blocks one = (λ e. restates size e code (reason_by code reason) e.head.line, tt)
each_of size (actions.Redirect to code drop_query append_slash) env blocks one = tt
each_of size (actions.Return status content_type payload hdrs) env blocks one = tt
each_of size (actions.SetVar scope name expr) env blocks one = absurd (false≢true one)
each_of size (actions.UnsetVar scope name) env blocks one = absurd (false≢true one)
each_of size (actions.StrictMode on) env blocks one = tt
each_of size (actions.SetMethod fmt) env blocks one = (methods size fmt, tt)
each_of size (actions.SetPath fmt) env blocks one = (sets_part size parts.Path fmt, tt)
each_of size (actions.SetPathq fmt) env blocks one = (sets_part size parts.Pathq fmt, tt)
each_of size (actions.SetUri fmt) env blocks one = (sets_uri size fmt, tt)
each_of size (actions.SetQuery fmt) env blocks one = (sets_query size fmt, tt)
each_of size (actions.ReplacePath pat fmt) env blocks one = (replaces_part size parts.Path pat fmt, tt)
each_of size (actions.ReplacePathq pat fmt) env blocks one = (replaces_part size parts.Pathq pat fmt, tt)
each_of size (actions.ReplaceUri pat fmt) env blocks one = (replaces_part size parts.Uri pat fmt, tt)

reply_keeps : (env : Env) (r : Result Message Why) → KeepsAct env (replying env r)
reply_keeps env (Ok m) = tt
reply_keeps env (Err why) = refl

pub act_keeps : (size : ℕ) (action : Action) (env : Env) (blocks : List Block) → is_one_edit action blocks ≡ true → KeepsAct env (act size action env)
unfolding act
act_keeps size actions.Allow env blocks one = tt
act_keeps size (actions.Deny code) env blocks one = tt
act_keeps size (actions.Redirect to code drop_query append_slash) env blocks one = reply_keeps env (redirected size to code drop_query append_slash env)
act_keeps size (actions.Return status content_type payload hdrs) env blocks one = reply_keeps env (returned size status content_type payload hdrs env)
act_keeps size action env blocks one = in_turn (steps_of size action env) env (each_of size action env blocks one)
