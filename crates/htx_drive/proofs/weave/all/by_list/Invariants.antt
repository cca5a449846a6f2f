use Rattle.std.proofs.Common.{◌≡◌, length}
use Rattle.px_link.specs.Net.{address_of}
use Rattle.px_pool.specs.Seats.{count_sets}
use Rattle.htx_drive.specs.Weave.All.{AreWithin, MayGoOn, LeadsAll}
use Rattle.htx_drive.proofs.weave.all.by_list.Given as goal

abbrev pub invariant-turns : goal.invariant-turns
invariant-turns g l =
    record {
      within : AreWithin (length l.conns) (g.W.Weft.left l.weft);
      may : MayGoOn g.C.Machine.seen g.C.Machine.sound g.N.Net.seen l.pool l.conns;
      len : length l.conns ≡ length l.initial.conns;
      sets : count_sets l.pool ≡ count_sets l.initial.pool;
      at : LeadsAll g.C.Machine.meaning g.C.Machine.stands g.C.Machine.seen g.C.Machine.sound g.L.Link.seen g.L.Link.wrote g.N.Net.seen (address_of l.to) (g.W.Weft.left l.initial.weft) (g.W.Weft.left l.weft) l.initial.conns l.conns l.initial.pool l.pool l.initial.resources.left l.resources.left;
    }

abbrev pub decreases-turns : goal.decreases-turns
decreases-turns g l = length (g.W.Weft.left l.weft)
