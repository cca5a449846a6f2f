use Rattle.std.proofs.Common.{◌≡◌, ◌-◌, length}
use Rattle.http_rules.specs.Action.Given.{Env}
use Rattle.http_rules.specs.Action.Turns.{run_from, HadTurns}
use Rattle.http_rules.specs.Action.Outcome.{IsScratch, IsAt}
use Rattle.http_rules.proofs.action.replacing.replace_fields.Given as goal

-- the fields so far had their turn
abbrev pub invariant-loop-at : goal.invariant-loop-at
invariant-loop-at l = record {
  turns : (env : Env) → IsAt l.setting.side env l.initial.msg.blocks l.setting.vars.now
      → HadTurns l.setting.side (run_from l.fields.extent l.initial.msg.size l.fields.name.now l.fields.by.pat.now l.fields.by.fmt.now 0 env) l.fields.extent l.initial.msg.size l.fields.name.now l.fields.by.pat.now l.fields.by.fmt.now (l.at - 1) l.msg.blocks l.setting.vars.now;
  size : l.msg.size ≡ l.initial.msg.size;
  len : length l.msg.blocks ≡ length l.initial.msg.blocks;
  scratch : IsScratch l.initial.msg.size l.scratch;
}
