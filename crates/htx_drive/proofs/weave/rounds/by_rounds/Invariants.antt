use Rattle.std.proofs.Common.{◌≡◌, ◌+◌, [], length}
use Rattle.px_link.specs.Net.{address_of}
use Rattle.px_pool.specs.Seats.{count_sets}
use Rattle.htx_drive.specs.Weave.Rounds.{unended}
use Rattle.htx_drive.specs.Weave.All.{MayGoOn, LeadsAll}
use Rattle.htx_drive.proofs.weave.rounds.by_rounds.Given as goal

abbrev pub invariant-rounds : goal.invariant-rounds
invariant-rounds g l =
    record {
      may : MayGoOn g.C.Machine.seen g.C.Machine.sound g.N.Net.seen l.pool l.conns;
      len : length l.conns ≡ length l.initial.conns;
      sets : count_sets l.pool ≡ count_sets l.initial.pool;
      at : LeadsAll g.C.Machine.meaning g.C.Machine.stands g.C.Machine.seen g.C.Machine.sound g.L.Link.seen g.L.Link.wrote g.N.Net.seen (address_of l.to) [] [] l.initial.conns l.conns l.initial.pool l.pool l.initial.resources.left l.resources.left;
    }

-- each round lowers what is left, or the number of those that have not ended
abbrev pub decreases-rounds : goal.decreases-rounds
decreases-rounds g l = l.resources.left + unended l.conns
