use Rattle.std.proofs.Common.{refl, ◌∙◌, sym, subst}
use Rattle.lane.proofs.DirectionLemmas.HeadLemmas.{reads_anew}
use Rattle.lane.specs.Direction.State.{LaneState}
use Rattle.lane.specs.contracts.direction.lane.Lane.{the_view}
use Rattle.lane.specs.Direction.Sends.{IsSound}
use Rattle.lane.proofs.direction.lane.Lane.next.Goals as goal

pub returns-clause-reading : goal.returns-clause-reading
returns-clause-reading c =
    let l = the_view c.self.inside in
    let was_sound = subst (λ (s : LaneState). IsSound s) (sym c.self.view_is) c.requires.sound in
    λ side.
    let s = was_sound in
    reads_anew side _ c.stays_scanned.ensures.none
    (record {
      sized = record { least = s.sized.least; msg = c.clear.ensures.size ∙ s.sized.msg; out = c.clear-2.ensures.size ∙ s.sized.out; input = s.sized.input; output = s.sized.output; sieve = s.sized.sieve; filters = s.sized.filters };
      most = s.most;
      reserve = s.reserve;
      held = s.held;
    }) c.clear-2.ensures.blocks refl refl refl c.clear.ensures.blocks
