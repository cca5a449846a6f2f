use Rattle.std.proofs.Common.{◌≡◌, ◌∙◌, ap, arith, ◌++◌, [], sym, subst}
use Rattle.htx_model.specs.Blocks.{load}
use Rattle.lane.proofs.DirectionLemmas.RoomLemmas.{payload-le}
use Rattle.lane.proofs.DirectionLemmas.CarryLemmas.{carries_over}
use Rattle.lane.specs.Direction.Sends.{put_out, IsSized}
use Rattle.lane.specs.Direction.State.{LaneState}
use Rattle.lane.specs.contracts.direction.lane.Lane.{the_view}
use Rattle.lane.proofs.direction.lane.Lane.hand_over.Goals as goal

pub returns-clause-leads : goal.returns-clause-leads
returns-clause-leads c =
    let l = the_view c.self.inside in
    let was_empty = subst (λ (s : LaneState). s.out.blocks ≡ []) (sym c.self.view_is) c.requires.empty in
    rw (← c.self.view_is) (λ p s. record {
      used = s.used;
      found = s.found;
      section = s.section;
      passed = s.passed;
      sized = record {
        least = s.sized.least;
        msg = c.xfer.ensures.from_size ∙ s.sized.msg;
        out = c.xfer.ensures.to_size ∙ s.sized.out;
        input = s.sized.input;
        output = s.sized.output;
        sieve = s.sized.sieve;
        filters = s.sized.filters;
      };
      has_read = s.has_read;
      bytes = s.bytes;
      has_passed = s.has_passed;
      source = s.source;
      text = λ d. carries_over l.source l.writer p.sent (p.sent.given ++ s.passed) s.section (put_out l p)
          l.out.blocks c.xfer.new.to.blocks l.msg.blocks c.xfer.new.from.blocks was_empty c.xfer.ensures.flow (s.text d);
    })

pub returns-clause-all : goal.returns-clause-all
returns-clause-all c =
    let l = the_view c.self.inside in
    let was_sized = subst (λ (s : LaneState). IsSized s) (sym c.self.view_is) c.requires.sized in
    let was_empty = subst (λ (s : LaneState). s.out.blocks ≡ []) (sym c.self.view_is) c.requires.empty in
    let none : load l.out.blocks ≡ 0 = ap load was_empty in
    let sized = was_sized in
    let light = payload-le l.msg.blocks in
    c.xfer.ensures.all (omega arith) (omega arith)
