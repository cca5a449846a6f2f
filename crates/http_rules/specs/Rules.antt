-- What rules make of an environment, in their order, with the mode of failures.
use Rattle.std.specs.Prelude.{ℕ, List, [], ◌∷◌, Bool, true, not, ◌&&◌, Option, Some, None, if◌then◌else◌}
use Rattle.px_sample.specs.Variables.{Variables}
use Rattle.session_model.specs.Env.{Verdict, Pass, Reply, Deny, Fail, Amended, Edited, Plain}
use Rattle.acl_eval.specs.declared.condition.Cond.{Cond}
use Rattle.http_rules.specs.declared.rule.action.Action.{Action}
use Rattle.http_rules.specs.declared.rule.action.Action.TheVariants as actions
use Rattle.http_rules.specs.declared.rule.rule.Rule.{Rule}
use Rattle.http_rules.specs.Action.Given.{Env, holds_on}
use Rattle.http_rules.specs.Action.Acts.{Act, Next, Stop, Replies, Denies, Fails, act}
pub use Rattle.http_rules.specs.Action.Answering.{answers}

-- the mode behind an action
abbrev pub mode_after : (strict : Bool) → Action → Bool
mode_after strict (actions.StrictMode on) = on
mode_after strict action = strict

-- what rules come to, with the variables of the four scopes
abbrev pub Comes : Type 0
Comes = Verdict Variables

-- a rule without a condition always runs
abbrev pub runs : (size : ℕ) → Option Cond → Env → Bool
runs size None env = true
runs size (Some cond) env = holds_on size env cond

-- What rules come to behind one of them: what the others make of its environment, or its result. A failure is passed over
-- while the mode is off, and undoes nothing.
abbrev pub behind : (strict : Bool) → Action → Env → Act → (Bool → Env → Comes) → Comes
behind strict action env (Next next) others = others (mode_after strict action) next
behind strict action env Stop others = Pass env
behind strict action env (Replies m) others = Reply m env
behind strict action env (Denies code) others = Deny code env
behind strict action env (Fails why left) others = if not strict && not (answers action) then others strict left else Fail why left

-- one rule, and those behind it
abbrev pub by_rule : (size : ℕ) → Rule → (strict : Bool) → Env → (Bool → Env → Comes) → Comes
by_rule size rule strict env others =
    if runs size rule.cond env then behind strict rule.action env (act size rule.action env) others else others strict env

-- what rules make of an environment, in their order and under a mode; the first that does not go on decides
abbrev pub walk : (size : ℕ) → List Rule → (strict : Bool) → Env → Comes
walk size [] strict env = Pass env
walk size (rule ∷ rules) strict env = by_rule size rule strict env (walk size rules)

-- the mode begins as on: a failure decides
abbrev pub rules_of : (size : ℕ) → List Rule → Env → Comes
rules_of size rules env = walk size rules true env

-- the edited head and the variables, or plain where rules neither passed
abbrev pub amended_by : Comes → Amended Variables
amended_by (Pass left) = Edited left.head left.vars
amended_by (Reply m left) = Plain
amended_by (Deny code left) = Plain
amended_by (Fail why left) = Plain

-- what the rules on all that the client is sent come to; they neither reply nor deny
abbrev pub after_of : (size : ℕ) → List Rule → Env → Amended Variables
after_of size rules env = amended_by (rules_of size rules env)
