use Rattle.std.proofs.Common.{◌≡◌, ◌+◌, drop, sum_by}
use Rattle.rec_format.specs.Read.{servers}
use Rattle.htx_drive.specs.Replay.Memory.{size_of}
use Rattle.htx_drive.proofs.replay.budget.servers_size.Given as goal

abbrev pub invariant-loop-entry : goal.invariant-loop-entry
invariant-loop-entry l = l.size + sum_by size_of (servers (drop l.entry-index l.entries)) ≡ sum_by size_of (servers l.entries)
