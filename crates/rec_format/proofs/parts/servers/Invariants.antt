use Rattle.std.proofs.Common.{◌≡◌}
use Rattle.rec_format.specs.Read.{servers}
use Rattle.rec_format.specs.Recorded.{servers_of}
use Rattle.rec_format.specs.Parts.{behind_servers}
use Rattle.rec_format.proofs.parts.servers.Given as goal

abbrev pub invariant-loop-alloc : goal.invariant-loop-alloc
invariant-loop-alloc l = servers_of l.fn.total l.fn.most l.fn.text ≡ behind_servers (servers l.servers.items) (servers_of l.fn.total l.room l.rest)

abbrev pub decreases-loop-alloc : goal.decreases-loop-alloc
decreases-loop-alloc l = l.room
