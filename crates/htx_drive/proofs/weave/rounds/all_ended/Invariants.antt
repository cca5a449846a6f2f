use Rattle.std.proofs.Common.{◌≡◌, drop}
use Rattle.htx_drive.specs.Weave.Rounds.{unended}
use Rattle.htx_drive.proofs.weave.rounds.all_ended.Given as goal

-- none so far goes on
abbrev pub invariant-loop-conn : goal.invariant-loop-conn
invariant-loop-conn g l = unended (drop l.conn-index l.conns) ≡ unended l.conns
