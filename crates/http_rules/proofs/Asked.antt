-- A run of rules that comes to one which answers by itself.
use Rattle.std.proofs.Common.{◌≡◌, ℕ, suc, List, [], Bool, true, false, cond, drop, refl, sym, ap, ◌∙◌, subst}
use Rattle.std.specs.Prelude.{Result, Ok, Err, ◌||◌, slice_get, Some, not, ◌&&◌}
use Rattle.std.specs.List.{AllByRecursion}
use Rattle.std.proofs.lemmas.Bool.{false≢true}
use Rattle.acl_eval.proofs.PublicLaws.{not_this_one}
use Rattle.http_model.specs.declared.Why.{Why}
use Rattle.http_model.specs.Block.{Block}
use Rattle.http_model.specs.Head.{Message}
use Rattle.http_rules.specs.declared.rule.action.Direction.TheVariants as directions
use Rattle.http_rules.specs.Rule.Actions.{stands_in, name_of}
use Rattle.http_rules.specs.Rule.Actions.{action_holds_pattern, cond_holds_pattern, rule_holds_pattern, rules_hold_pattern}
use Rattle.http_rules.specs.Rule.Valid.{IsGoodAction, IsGoodRule}
use Rattle.session_model.specs.Env.{Pass, Reply, Deny, Fail}
use Rattle.px_sample.specs.Variables.{Variables}
use Rattle.http_rules.specs.declared.rule.action.Action.{Action}
use Rattle.http_rules.specs.declared.rule.action.Action.TheVariants as actions
use Rattle.http_rules.specs.declared.rule.rule.Rule.{Rule}
use Rattle.http_rules.specs.Action.Given.{Env}
use Rattle.http_rules.specs.declared.action.side.Side.{Side}
use Rattle.http_rules.specs.declared.action.stepped.Stepped.{Stepped}
use Rattle.http_rules.specs.declared.action.stepped.Stepped.TheVariants.{Done, Failed}
use Rattle.http_rules.specs.Action.Acts.{Act, Next, Stop, Replies, Denies, Fails, replying, act}
use Rattle.http_rules.specs.Action.Does.{Replied}
use Rattle.http_rules.specs.Action.Outcome.{IsAt}
use Rattle.http_rules.specs.Action.Replies.{redirected, returned}
use Rattle.http_rules.specs.Rules.{Comes, answers, runs, behind, by_rule, walk, rules_of}
use Rattle.http_rules.specs.Run.{Leaves, IsAsked, Awaits, IsAnswer, verdict_by}
use Rattle.http_rules.proofs.Runs.{Reached, at_place, first_rule}

-- what comes of an action that answers, whichever the mode and whatever stands behind it
replies_or_fails : (strict : Bool) (action : Action) (env : Env) (r : Result Message Why) (others : Bool → Env → Comes) → answers action ≡ true
    → behind strict action env (replying env r) others ≡ behind true action env (replying env r) (λ mode next. Pass next)
replies_or_fails strict action env (Ok m) others a = refl
replies_or_fails true action env (Err why) others a = refl
replies_or_fails false action env (Err why) others a = ap (λ (t : Bool). cond (not t) (others false env) (Fail why env)) a

alone : (size : ℕ) (strict : Bool) (action : Action) (env : Env) (others : Bool → Env → Comes) → answers action ≡ true
    → behind strict action env (act size action env) others ≡ behind true action env (act size action env) (λ mode next. Pass next)
unfolding act
alone size strict (actions.Redirect to code drop_query append_slash) env others a =
    replies_or_fails strict (actions.Redirect to code drop_query append_slash) env (redirected size to code drop_query append_slash env) others a
alone size strict (actions.Return status content_type payload hdrs) env others a =
    replies_or_fails strict (actions.Return status content_type payload hdrs) env (returned size status content_type payload hdrs env) others a
alone size strict action env others a = absurd (false≢true a)

-- rules that came to one which answers
pub awaits : (side : Side) (size : ℕ) (rules : List Rule) (env : Env) (at : ℕ) (rule : Rule) (strict : Bool) (old new : List Block) (vars left_vars : Variables)
    → slice_get rules at ≡ Some rule → (r : Reached side size rules env at strict old vars) → IsAsked side size rule r.now new left_vars → Awaits side size rules env rule.action new left_vars
awaits side size rules env at rule strict old new vars left_vars is r asked =
    let rest = walk size (drop (suc at) rules) in
    record {
      left = r.now;
      at_left = asked.at;
      comes =
          sym r.left ∙ first_rule size rules at rule strict r.now is
          ∙ ap (λ (t : Bool). cond t (behind strict rule.action r.now (act size rule.action r.now) rest) (rest strict r.now)) asked.runs_is
          ∙ alone size strict rule.action r.now rest asked.answers_is;
    }

-- and what its step makes of them
pub answered : (side : Side) (size : ℕ) (rules : List Rule) (env : Env) (action : Action) (step : Stepped) (blocks : List Block) (vars : Variables) (reply : List Block)
    → (a : Awaits side size rules env action blocks vars) → Replied a.left (act size action a.left) step reply → Leaves side (rules_of size rules env) (verdict_by step) blocks vars reply
answered side size rules env action step blocks vars reply a done =
    subst (λ (c : Comes). Leaves side c (verdict_by step) blocks vars reply) (sym a.comes) (by (act size action a.left) step done)
  where
    by : (o : Act) (s : Stepped) → Replied a.left o s reply → Leaves side (behind true action a.left o (λ mode next. Pass next)) (verdict_by s) blocks vars reply
    by (Replies m) Done h = (a.at_left, h)
    by (Fails why left) (Failed told) h = (h.0, subst (λ (e : Env). IsAt side e blocks vars) (sym h.1) a.at_left, h.2)
    by o s h = absurd h

-- ---- the rule that answers

pub good_answer : (rules : List Rule) (action : Action) → AllByRecursion (λ (rule : Rule). IsGoodAction rule.action) rules → IsAnswer rules action → IsGoodAction action
good_answer rules action all a = subst IsGoodAction (sym a.is) (at_place (λ (rule : Rule). IsGoodAction rule.action) rules a.at a.rule a.there all)

pub plain_answer : (rules : List Rule) (action : Action) → rules_hold_pattern rules ≡ false → IsAnswer rules action → action_holds_pattern action ≡ false
plain_answer rules action none a =
    ap action_holds_pattern a.is ∙ second (cond_holds_pattern a.rule.cond) (action_holds_pattern a.rule.action) (not_this_one rule_holds_pattern rules a.at a.rule a.there none)
  where
    second : (s t : Bool) → (s || t) ≡ false → t ≡ false
    second false t e = e
    second true t e = absurd (false≢true (sym e))

-- none of those behind the answers does
pub no_answer : (rules : List Rule) (action : Action) → AllByRecursion (IsGoodRule directions.After) rules → IsAnswer rules action → ⊥
no_answer rules action all a = by a.rule.action (ap answers (sym a.is) ∙ a.answers_is) (at_place (IsGoodRule directions.After) rules a.at a.rule a.there all).stands
  where
    by : (action : Action) → answers action ≡ true → stands_in directions.After (name_of action) ≡ true → ⊥
    by (actions.Redirect to code drop_query append_slash) x stands = false≢true stands
    by (actions.Return status content_type payload hdrs) x stands = false≢true stands
    by action x stands = false≢true x
