-- What is told of the rules of one list: their lines, the blocks that each of them leaves, and what one would have needed that failed for want of room.
use Rattle.std.specs.Prelude.{ℕ, ◌+◌, List, [], ◌∷◌, Bool, true, false}
use Rattle.http_model.specs.Block.{Block}
use Rattle.http_model.specs.Head.{front_blocks}
use Rattle.session_model.specs.Env.{Pass, Reply, Deny, Fail}
use Rattle.http_rules.specs.declared.rule.action.Action.{Action}
use Rattle.http_rules.specs.declared.rule.rule.Rule.{Rule}
use Rattle.http_rules.specs.declared.action.side.Side.{Side}
use Rattle.http_rules.specs.declared.step.Step.{Step}
use Rattle.http_rules.specs.declared.turn.Turned.{Turned}
use Rattle.http_rules.specs.declared.turn.Turned.TheVariants as turns
use Rattle.http_rules.specs.declared.verdict.Verdict.{Verdict}
use Rattle.http_rules.specs.declared.verdict.Verdict.TheVariants as verdicts
use Rattle.http_rules.specs.Action.Given.{Env}
use Rattle.http_rules.specs.Rules.{Comes, rules_of}
use Rattle.http_rules.specs.Run.{Leaves}
use Rattle.http_rules.specs.Steps.{Course, Onward, Over, course_of}
use Rattle.px_explain.specs.declared.trace.Which.{Which}
use Rattle.px_explain.specs.declared.trace.TraceLine.{TraceLine}
use Rattle.px_explain.specs.declared.telling.RuleList.{RuleList}
use Rattle.px_explain.specs.declared.walk.Teller.{Teller}
use Rattle.px_explain.specs.Entry.{TraceEntry}
use Rattle.px_explain.specs.Shown.{Adds}
use Rattle.px_explain.specs.Wanted.{wanted_by}

-- the line of the rule at an index, whose number is one more
abbrev pub line_of : Which → (at : ℕ) → Step → TraceLine
line_of which at step = record { which = which; rule = at + 1; step = step }

-- the lines of these steps, which are those of the rules from an index on
abbrev pub lines_from : Which → (at : ℕ) → List Step → List TraceLine
lines_from which at [] = []
lines_from which at (step ∷ steps) = line_of which at step ∷ lines_from which (at + 1) steps

-- the environment in which rules end; after a failure it is the one in front of the failing step
abbrev pub end_of : Comes → Env
end_of (Pass env) = env
end_of (Reply m env) = env
end_of (Deny code env) = env
end_of (Fail why env) = env

-- what is told of the rule at an index, which leaves this environment in an array of this size
abbrev pub entry_of : Which → (at size : ℕ) → Action → Step → Env → TraceEntry
entry_of which at size action step env =
    record { line = line_of which at step; wanted = wanted_by step size action env; size = size; left = front_blocks env.head env.body }

-- what is told of the rule at an index, and of those behind it
abbrev pub entries_behind : Which → (at size : ℕ) → Action → Course → (Bool → Env → List TraceEntry) → List TraceEntry
entries_behind which at size action (Onward step strict next) others = entry_of which at size action step next ∷ others strict next
entries_behind which at size action (Over step comes) others = entry_of which at size action step (end_of comes) ∷ []

-- what is told of rules under a mode, the first of which stands at an index
abbrev pub entries_from : Which → (at size : ℕ) → List Rule → (strict : Bool) → Env → List TraceEntry
entries_from which at size [] strict env = []
entries_from which at size (rule ∷ rules) strict env =
    entries_behind which at size rule.action (course_of size rule strict env) (entries_from which (at + 1) size rules)

-- an entry for each rule of a list that is reached, in their order
abbrev pub told : Which → (size : ℕ) → List Rule → Env → List TraceEntry
told which size rules env = entries_from which 0 size rules true env

-- A list of rules was run on this environment: these entries are told behind those before, and the arrays and the variables hold what the rules come to.
pub record ToldOf (list : RuleList) (side : Side) (size : ℕ) (env : Env) (before : Teller) (verdict : Verdict) (teller : Teller) (blocks reply : List Block) : Type 0 where
  pub lines : Adds before.trail teller.trail (told list.which size list.rules.now env)
  pub leaves : Leaves side (rules_of size list.rules.now env) verdict blocks teller.vars reply

-- how the turn of a rule is told
abbrev pub step_in : Turned → Step
step_in (turns.Goes step mode) = step
step_in (turns.Ends step verdict) = step

abbrev pub is_pass : Verdict → Bool
is_pass verdicts.Pass = true
is_pass verdicts.Reply = false
is_pass (verdicts.Deny code) = false
is_pass (verdicts.Fail why) = false
