-- Rules one by one.
use Rattle.std.proofs.Common.{◌≡◌, ℕ, List, [], ◌∷◌, Bool, true, false, cond, refl, sym, ap, ◌∙◌, subst}
use Rattle.std.specs.Prelude.{not, ◌&&◌, ◌||◌}
use Rattle.std.proofs.lemmas.Bool.{false≢true}
use Rattle.http_model.specs.Block.{Block}
use Rattle.session_model.specs.Env.{Fail}
use Rattle.px_sample.specs.Variables.{Variables}
use Rattle.http_rules.specs.declared.rule.action.Action.{Action}
use Rattle.http_rules.specs.declared.rule.rule.Rule.{Rule}
use Rattle.http_rules.specs.declared.action.side.Side.{Side}
use Rattle.http_rules.specs.declared.action.stepped.Stepped.{Stepped}
use Rattle.http_rules.specs.declared.action.stepped.Stepped.TheVariants.{Done, Failed}
use Rattle.http_rules.specs.declared.step.Step.{Step}
use Rattle.http_rules.specs.declared.step.Step.TheVariants as steps
use Rattle.http_rules.specs.declared.turn.Turned.TheVariants as turned
use Rattle.http_rules.specs.declared.verdict.Ruled.TheVariants.{Goes, Ends}
use Rattle.http_rules.specs.declared.verdict.Verdict.{Verdict as Answered}
use Rattle.http_rules.specs.Action.Given.{Env}
use Rattle.http_rules.specs.Action.Acts.{Act, Next, Stop, Replies, Denies, Fails, act}
use Rattle.http_rules.specs.Action.Does.{Replied}
use Rattle.http_rules.specs.Action.Outcome.{IsAt}
use Rattle.http_rules.specs.Rule.Actions.{action_holds_pattern, cond_holds_pattern, rule_holds_pattern}
use Rattle.http_rules.specs.Rules.{Comes, answers, runs, behind, by_rule, walk}
use Rattle.http_rules.specs.Run.{Leaves, RuleLeaves, IsAsked, told_by, verdict_by}
use Rattle.http_rules.specs.Steps.{Course, Onward, Over, course_by, course_of, comes_behind, comes_by_steps}
use Rattle.http_rules.specs.Stepped.{StepLeaves}

-- what the rules behind an action make of it, by what is told of it
by_action : (strict : Bool) (action : Action) (env : Env) (a : Act) (others : Bool → Env → Comes) → behind strict action env a others ≡ comes_behind (course_by strict action env a) others
by_action strict action env (Next next) others = refl
by_action strict action env Stop others = refl
by_action strict action env (Replies m) others = refl
by_action strict action env (Denies code) others = refl
by_action strict action env (Fails why left) others = by (not strict && not (answers action))
  where
    by : (t : Bool) → cond t (others strict left) (Fail why left) ≡ comes_behind (cond t (Onward (steps.Skipped why) strict left) (Over (steps.Fail why) (Fail why left))) others
    by true = refl
    by false = refl

-- and behind a rule
by_course : (size : ℕ) (rule : Rule) (strict : Bool) (env : Env) (others : Bool → Env → Comes) → by_rule size rule strict env others ≡ comes_behind (course_of size rule strict env) others
by_course size rule strict env others = by (runs size rule.cond env)
  where
    by : (t : Bool) → cond t (behind strict rule.action env (act size rule.action env) others) (others strict env)
        ≡ comes_behind (cond t (course_by strict rule.action env (act size rule.action env)) (Onward steps.Passed strict env)) others
    by true = by_action strict rule.action env (act size rule.action env) others
    by false = refl

pub first : (size : ℕ) (rule : Rule) (rules : List Rule) (strict : Bool) (env : Env) → walk size (rule ∷ rules) strict env ≡ comes_behind (course_of size rule strict env) (walk size rules)
first size rule rules strict env = by_course size rule strict env (walk size rules)

-- the others may be stepped through as well
through : (c : Course) (f g : Bool → Env → Comes) → ((strict : Bool) (env : Env) → f strict env ≡ g strict env) → comes_behind c f ≡ comes_behind c g
through (Onward told mode left) f g same = same mode left
through (Over told comes) f g same = refl

pub all : (size : ℕ) (rules : List Rule) (strict : Bool) (env : Env) → comes_by_steps size rules strict env ≡ walk size rules strict env
all size [] strict env = refl
all size (rule ∷ rules) strict env =
    through (course_of size rule strict env) (comes_by_steps size rules) (walk size rules) (all size rules) ∙ sym (first size rule rules strict env)

-- the action of a rule without a pattern has none
pub plain_rule : (rule : Rule) → rule_holds_pattern rule ≡ false → action_holds_pattern rule.action ≡ false
plain_rule rule none = second (cond_holds_pattern rule.cond) (action_holds_pattern rule.action) none
  where
    second : (s t : Bool) → (s || t) ≡ false → t ≡ false
    second false t e = e
    second true t e = absurd (false≢true (sym e))

-- ---- what one rule leaves

-- it goes on
pub goes : (side : Side) (size : ℕ) (rule : Rule) (strict : Bool) (env : Env) (step : Step) (mode : Bool) (blocks : List Block) (vars : Variables) (reply : List Block)
    → RuleLeaves side size rule strict env (Goes step mode) blocks vars → reply ≡ [] → StepLeaves side (course_of size rule strict env) (turned.Goes step mode) blocks vars reply
goes side size rule strict env step mode blocks vars reply on none =
    subst (λ (c : Course). StepLeaves side c (turned.Goes step mode) blocks vars reply) (sym on.course) (refl, refl, on.at_next, none)

-- it decides
pub ends : (side : Side) (size : ℕ) (rule : Rule) (strict : Bool) (env : Env) (verdict : Answered) (blocks : List Block) (vars : Variables) (reply : List Block)
    → RuleLeaves side size rule strict env (Ends verdict) blocks vars → reply ≡ [] → StepLeaves side (course_of size rule strict env) (turned.Ends (told_by verdict) verdict) blocks vars reply
ends side size rule strict env verdict blocks vars reply over none =
    subst (λ (c : Course). StepLeaves side c (turned.Ends (told_by verdict) verdict) blocks vars reply) (sym over.course)
    (refl, subst (λ (bs : List Block). Leaves side over.comes verdict blocks vars bs) (sym none) over.leaves)

-- it answers by itself
pub replies : (side : Side) (size : ℕ) (rule : Rule) (strict : Bool) (env : Env) (step : Stepped) (blocks : List Block) (vars : Variables) (reply : List Block)
    → IsAsked side size rule env blocks vars → Replied env (act size rule.action env) step reply
    → StepLeaves side (course_of size rule strict env) (turned.Ends (told_by (verdict_by step)) (verdict_by step)) blocks vars reply
replies side size rule strict env step blocks vars reply asked did =
    subst (λ (c : Course). StepLeaves side c (turned.Ends (told_by (verdict_by step)) (verdict_by step)) blocks vars reply)
    (sym (ap (λ (t : Bool). cond t (course_by strict rule.action env (act size rule.action env)) (Onward steps.Passed strict env)) asked.runs_is))
    (by (act size rule.action env) step did)
  where
    decides : (strict answering : Bool) → answering ≡ true → (not strict && not answering) ≡ false
    decides true answering is = refl
    decides false answering is = ap not is

    by : (a : Act) (s : Stepped) → Replied env a s reply → StepLeaves side (course_by strict rule.action env a) (turned.Ends (told_by (verdict_by s)) (verdict_by s)) blocks vars reply
    by (Replies m) Done h = (refl, (asked.at, h))
    by (Fails why left) (Failed told) h =
        subst (λ (c : Course). StepLeaves side c (turned.Ends (told_by (verdict_by (Failed told))) (verdict_by (Failed told))) blocks vars reply)
        (sym (ap (λ (t : Bool). cond t (Onward (steps.Skipped why) strict left) (Over (steps.Fail why) (Fail why left))) (decides strict (answers rule.action) asked.answers_is)))
        (ap steps.Fail h.0, (h.0, subst (λ (e : Env). IsAt side e blocks vars) (sym h.1) asked.at, h.2))
    by a s h = absurd h
