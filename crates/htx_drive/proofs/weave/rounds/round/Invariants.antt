use Rattle.std.proofs.Common.{◌≡◌, [], length}
use Rattle.std.specs.Prelude.{◌⊎◌}
use Rattle.px_link.specs.Net.{address_of}
use Rattle.px_pool.specs.Seats.{count_sets}
use Rattle.htx_drive.specs.Weave.Rounds.{AllMovedOn}
use Rattle.htx_drive.specs.Weave.All.{MayGoOn, LeadsAll}
use Rattle.htx_drive.proofs.WeaveLemmas.Rounds.{Rests}
use Rattle.htx_drive.proofs.weave.rounds.round.Given as goal

abbrev pub invariant-loop-place : goal.invariant-loop-place
invariant-loop-place g l =
    record {
      may : MayGoOn g.C.Machine.seen g.C.Machine.sound g.N.Net.seen l.pool l.conns;
      len : length l.conns ≡ length l.initial.conns;
      sets : count_sets l.pool ≡ count_sets l.initial.pool;
      at : LeadsAll g.C.Machine.meaning g.C.Machine.stands g.C.Machine.seen g.C.Machine.sound g.L.Link.seen g.L.Link.wrote g.N.Net.seen (address_of l.to) [] [] l.initial.conns l.conns l.initial.pool l.pool l.initial.resources.left l.resources.left;
      lowers : AllMovedOn l.initial.conns l.conns l.initial.resources.left l.resources.left ⊎ Rests l.place l.initial.pool l.pool l.initial.conns l.conns l.initial.resources.left l.resources.left;
    }
