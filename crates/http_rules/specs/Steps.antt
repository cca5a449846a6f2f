-- Rules one by one: what each comes to, how it is told, and which are told of.
use Rattle.std.specs.Prelude.{ℕ, List, [], ◌∷◌, Bool, true, not, ◌&&◌, if◌then◌else◌}
use Rattle.session_model.specs.Env.{Pass, Reply, Deny, Fail}
use Rattle.http_rules.specs.declared.rule.action.Action.{Action}
use Rattle.http_rules.specs.declared.rule.rule.Rule.{Rule}
use Rattle.http_rules.specs.declared.step.Step.{Step}
use Rattle.http_rules.specs.declared.step.Step.TheVariants as steps
use Rattle.http_rules.specs.Action.Given.{Env}
use Rattle.http_rules.specs.Action.Acts.{Act, Next, Stop, Replies, Denies, Fails, act}
use Rattle.http_rules.specs.Rules.{Comes, answers, mode_after, runs}

-- The next rule runs, under this mode and on this environment; or no other one does, and the rules come to this.
pub data Course : Type 0 where
  Onward : Step → (strict : Bool) → Env → Course
  Over : Step → Comes → Course

-- What a rule that runs comes to, by what its action makes of the environment. A failure is passed over while the mode is off, but not
-- that of an action which answers by itself.
abbrev pub course_by : (strict : Bool) → Action → Env → Act → Course
course_by strict action env (Next next) = Onward steps.Next (mode_after strict action) next
course_by strict action env Stop = Over steps.Stop (Pass env)
course_by strict action env (Replies m) = Over steps.Reply (Reply m env)
course_by strict action env (Denies code) = Over (steps.Deny code) (Deny code env)
course_by strict action env (Fails why left) = if not strict && not (answers action) then Onward (steps.Skipped why) strict left else Over (steps.Fail why) (Fail why left)

-- what one rule comes to under a mode; it is passed where its condition doesn't hold
abbrev pub course_of : (size : ℕ) → Rule → (strict : Bool) → Env → Course
course_of size rule strict env =
    if runs size rule.cond env then course_by strict rule.action env (act size rule.action env) else Onward steps.Passed strict env

-- what rules come to behind one of them
abbrev pub comes_behind : Course → (Bool → Env → Comes) → Comes
comes_behind (Onward told strict next) others = others strict next
comes_behind (Over told comes) others = comes

-- what rules come to, one by one
abbrev pub comes_by_steps : (size : ℕ) → List Rule → (strict : Bool) → Env → Comes
comes_by_steps size [] strict env = Pass env
comes_by_steps size (rule ∷ rules) strict env = comes_behind (course_of size rule strict env) (comes_by_steps size rules)

-- the rules that are told of behind one of them, which is: none where no other one runs
abbrev pub steps_behind : Course → (Bool → Env → List Step) → List Step
steps_behind (Onward told strict next) others = told ∷ others strict next
steps_behind (Over told comes) others = told ∷ []

-- what is told of rules under a mode, one step for each that is reached
abbrev pub steps_from : (size : ℕ) → List Rule → (strict : Bool) → Env → List Step
steps_from size [] strict env = []
steps_from size (rule ∷ rules) strict env = steps_behind (course_of size rule strict env) (steps_from size rules)

-- what is told of a list of rules, in whose beginning a failure decides
abbrev pub steps_of : (size : ℕ) → List Rule → Env → List Step
steps_of size rules env = steps_from size rules true env
