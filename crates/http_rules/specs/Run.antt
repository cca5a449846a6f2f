-- What a run of rules leaves in arrays and variables.
use Rattle.std.specs.Prelude.{◌≡◌, ℕ, List, [], Bool, true, not, ◌&&◌, slice_get, Some, if◌then◌else◌}
use Rattle.http_model.specs.Block.{Block}
use Rattle.http_model.specs.Head.{message_blocks}
use Rattle.session_model.specs.Env.{Verdict, Pass, Reply, Deny, Fail}
use Rattle.px_sample.specs.Variables.{Variables}
use Rattle.http_rules.specs.declared.rule.action.Action.{Action}
use Rattle.http_rules.specs.declared.rule.rule.Rule.{Rule}
use Rattle.http_rules.specs.declared.action.act.Acted.{Acted}
use Rattle.http_rules.specs.declared.action.act.Acted.TheVariants as acted
use Rattle.http_rules.specs.declared.action.stepped.Stepped.{Stepped}
use Rattle.http_rules.specs.declared.action.stepped.Stepped.TheVariants.{Done, Failed}
use Rattle.http_rules.specs.Action.Acts.{act}
use Rattle.http_rules.specs.Action.Given.{Env}
use Rattle.http_rules.specs.Action.Outcome.{IsAt}
use Rattle.http_rules.specs.declared.action.side.Side.{Side}
pub use Rattle.http_rules.specs.Action.Written.{IsHead}
use Rattle.http_rules.specs.declared.verdict.Verdict.{Verdict as Answer}
use Rattle.http_rules.specs.declared.verdict.Verdict.TheVariants as verdicts
use Rattle.http_rules.specs.declared.verdict.Ruled.{Ruled}
use Rattle.http_rules.specs.declared.verdict.Ruled.TheVariants.{Goes, Ends, Answers}
use Rattle.http_rules.specs.declared.step.Step.{Step}
use Rattle.http_rules.specs.declared.step.Step.TheVariants as steps
use Rattle.http_rules.specs.declared.verdict.Ended.{Ended}
use Rattle.http_rules.specs.declared.verdict.Ended.TheVariants.{With, Answering}
use Rattle.http_rules.specs.Rules.{Comes, by_rule, answers, mode_after, runs, behind, rules_of}
use Rattle.http_rules.specs.Steps.{Onward, Over, course_of}

-- The verdict is this one. What stands in the array and in the variables is the environment of that moment, after a failure the
-- one in front of the failing step; a reply stands in its own array, which is empty otherwise.
abbrev pub Leaves : Side → Comes → Answer → List Block → Variables → List Block → Type 0
Leaves side (Pass left) verdicts.Pass blocks vars reply = IsAt side left blocks vars × (reply ≡ [])
Leaves side (Reply m left) verdicts.Reply blocks vars reply = IsAt side left blocks vars × (reply ≡ message_blocks m)
Leaves side (Deny code left) (verdicts.Deny told) blocks vars reply = (told ≡ code) × IsAt side left blocks vars × (reply ≡ [])
Leaves side (Fail why left) (verdicts.Fail told) blocks vars reply = (told ≡ why) × IsAt side left blocks vars × (reply ≡ [])
Leaves side (Pass left) verdicts.Reply blocks vars reply = ⊥
Leaves side (Pass left) (verdicts.Deny told) blocks vars reply = ⊥
Leaves side (Pass left) (verdicts.Fail told) blocks vars reply = ⊥
Leaves side (Reply m left) verdicts.Pass blocks vars reply = ⊥
Leaves side (Reply m left) (verdicts.Deny told) blocks vars reply = ⊥
Leaves side (Reply m left) (verdicts.Fail told) blocks vars reply = ⊥
Leaves side (Deny code left) verdicts.Pass blocks vars reply = ⊥
Leaves side (Deny code left) verdicts.Reply blocks vars reply = ⊥
Leaves side (Deny code left) (verdicts.Fail told) blocks vars reply = ⊥
Leaves side (Fail why left) verdicts.Pass blocks vars reply = ⊥
Leaves side (Fail why left) verdicts.Reply blocks vars reply = ⊥
Leaves side (Fail why left) (verdicts.Deny told) blocks vars reply = ⊥

-- what an action's outcome means under a mode
abbrev pub ruled_by : (strict : Bool) → Action → Acted → Ruled
ruled_by strict action acted.Next = Goes steps.Next (mode_after strict action)
ruled_by strict action acted.Stop = Ends verdicts.Pass
ruled_by strict action (acted.Deny code) = Ends (verdicts.Deny code)
ruled_by strict action (acted.Failed why) = if not strict && not (answers action) then Goes (steps.Skipped why) strict else Ends (verdicts.Fail why)

-- how a verdict is told of the rule that decided
abbrev pub told_by : Answer → Step
told_by verdicts.Pass = steps.Stop
told_by verdicts.Reply = steps.Reply
told_by (verdicts.Deny code) = steps.Deny code
told_by (verdicts.Fail why) = steps.Fail why

-- one rule goes on, so the others decide on the environment that it leaves
pub record GoesOn (side : Side) (size : ℕ) (rule : Rule) (strict : Bool) (env : Env) (step : Step) (mode : Bool) (blocks : List Block) (vars : Variables) : Type 0 where
  pub next : Env
  pub at_next : IsAt side next blocks vars
  pub course : course_of size rule strict env ≡ Onward step mode next
  pub others : (rest : Bool → Env → Comes) → by_rule size rule strict env rest ≡ rest mode next

-- one rule decides, whatever stands behind it
pub record EndsRules (side : Side) (size : ℕ) (rule : Rule) (strict : Bool) (env : Env) (verdict : Answer) (blocks : List Block) (vars : Variables) : Type 0 where
  pub comes : Comes
  pub leaves : Leaves side comes verdict blocks vars []
  pub course : course_of size rule strict env ≡ Over (told_by verdict) comes
  pub whatever : (rest : Bool → Env → Comes) → by_rule size rule strict env rest ≡ comes

-- one rule runs on this environment and answers by itself
pub record IsAsked (side : Side) (size : ℕ) (rule : Rule) (env : Env) (blocks : List Block) (vars : Variables) : Type 0 where
  pub answers_is : answers rule.action ≡ true
  pub at : IsAt side env blocks vars
  pub runs_is : runs size rule.cond env ≡ true

-- what one rule came to
abbrev pub RuleLeaves : Side → (size : ℕ) → Rule → (strict : Bool) → Env → Ruled → List Block → Variables → Type 0
RuleLeaves side size rule strict env (Goes step mode) blocks vars = GoesOn side size rule strict env step mode blocks vars
RuleLeaves side size rule strict env (Ends verdict) blocks vars = EndsRules side size rule strict env verdict blocks vars
RuleLeaves side size rule strict env Answers blocks vars = IsAsked side size rule env blocks vars

-- Rules came to one that answers by itself, on the environment that they left: the verdict is what it makes of that. Such an action
-- never goes on, so what stands behind it does not matter.
pub record Awaits (side : Side) (size : ℕ) (rules : List Rule) (env : Env) (action : Action) (blocks : List Block) (vars : Variables) : Type 0 where
  pub left : Env
  pub at_left : IsAt side left blocks vars
  pub comes : rules_of size rules env ≡ behind true action left (act size action left) (λ mode next. Pass next)

-- what a list of rules came to, before a reply is made
abbrev pub EndsAt : Side → (size : ℕ) → List Rule → Env → Ended → List Block → Variables → Type 0
EndsAt side size rules env (With verdict) blocks vars = Leaves side (rules_of size rules env) verdict blocks vars []
EndsAt side size rules env (Answering action) blocks vars = Awaits side size rules env action.now blocks vars

-- the action is that of one of the rules, and answers by itself
pub record IsAnswer (rules : List Rule) (action : Action) : Type 0 where
  pub at : ℕ
  pub rule : Rule
  pub there : slice_get rules at ≡ Some rule
  pub is : action ≡ rule.action
  pub answers_is : answers action ≡ true

abbrev pub AnswersAt : List Rule → Ended → Type 0
AnswersAt rules (With verdict) = Unit {0}
AnswersAt rules (Answering action) = IsAnswer rules action.now

-- what the step of an action that answers means for the rules
abbrev pub verdict_by : Stepped → Answer
verdict_by Done = verdicts.Reply
verdict_by (Failed why) = verdicts.Fail why
