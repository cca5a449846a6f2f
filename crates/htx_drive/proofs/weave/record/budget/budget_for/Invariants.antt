use Rattle.std.proofs.Common.{◌≡◌, ◌+◌, drop, sum_by}
use Rattle.rec_format.specs.Recorded.{Visit}
use Rattle.rec_format.specs.Read.{visits}
use Rattle.htx_drive.specs.Replay.Memory.{needed_by}
use Rattle.htx_drive.specs.Weave.Memory.{needed_by_all}
use Rattle.htx_drive.proofs.weave.record.budget.budget_for.Given as goal

abbrev pub invariant-loop-conn : goal.invariant-loop-conn
invariant-loop-conn l =
    l.budget + sum_by (λ (v : Visit). needed_by v l.bufsize) (visits (drop l.conn-index l.conns)) ≡ needed_by_all (visits l.conns) l.bufsize
