use Rattle.std.proofs.Common.{◌≡◌}
use Rattle.http_rules.specs.Action.Given.{Env}
use Rattle.http_rules.specs.Action.Outcome.{IsScratch, IsAt, IsFront}
use Rattle.http_rules.proofs.Runs.{Reached}
use Rattle.http_rules.proofs.run.run_rules.Given as goal

-- the rules that are left make of what stands in the array what all make of the environment at the start
abbrev pub invariant-loop-at : goal.invariant-loop-at
invariant-loop-at l = record {
  reached : (env : Env) → IsAt l.side env l.initial.msg.blocks l.initial.vars → Reached l.side l.initial.msg.size l.rules env l.at l.strict l.msg.blocks l.vars;
  front : IsFront l.msg.blocks;
  size : l.msg.size ≡ l.initial.msg.size;
  scratch : IsScratch l.initial.msg.size l.scratch;
}
