use Rattle.std.proofs.Common.{refl, [], sym, subst}
use Rattle.lane.proofs.DirectionLemmas.StepLemmas.{these_now}
use Rattle.lane.proofs.DirectionLemmas.CarryLemmas.{carries_head, head_front}
use Rattle.lane.specs.Direction.State.{LaneState}
use Rattle.lane.specs.contracts.direction.lane.Lane.{the_view}
use Rattle.lane.specs.Direction.Sends.{IsReady}
use Rattle.lane.proofs.direction.lane.Lane.send.Goals as goal

pub returns-clause-stands : goal.returns-clause-stands
returns-clause-stands c =
    let l = the_view c.self.inside in
    let was_ready = subst (λ (s : LaneState). IsReady s) (sym c.self.view_is) c.requires.ready in
    rw (← c.self.view_is) (λ filters head these is.
    let sized = was_ready.sound.sized in
    record {
      sends = record {
        used = [];
        found = [];
        section = [];
        passed = [];
        sized = record { least = sized.least; msg = sized.msg; out = sized.out; input = sized.input; output = sized.output; sieve = c.reset.ensures.size l.limits.bufsize sized.sieve; filters = (sized.filters.0, these_now c.reset.new.sieve sized.filters.0 (c.reset.ensures.passed sized.filters.0 sized.filters.1)) };
        has_read = c.new-self-inside.ensures;
        bytes = refl;
        has_passed = c.reset.ensures.passed filters these;
        source = c.reset.ensures.goes c.new-self-inside.result l.ended l.input.items;
        text = λ d. carries_head c.new-self-inside-2.result (record { head = head; given = []; framing = c.args.framing; no_body = c.args.no_body; before = l.output.items }) l.output.items l.out.blocks l.msg.blocks
            c.new-self-inside-2.ensures.going c.new-self-inside-2.ensures.written refl was_ready.out (head_front l.msg.blocks head is);
      };
      over = λ e. absurd (cc);
      done = λ e. absurd (cc);
    })

pub returns-clause-filters : goal.returns-clause-filters
returns-clause-filters c =
    let l = the_view c.self.inside in
    rw (← c.self.view_is) (λ filters these. these_now c.reset.new.sieve filters (c.reset.ensures.passed filters these))

pub returns-clause-sound : goal.returns-clause-sound
returns-clause-sound c =
    let l = the_view c.self.inside in
    let was_ready = subst (λ (s : LaneState). IsReady s) (sym c.self.view_is) c.requires.ready in
    let sound = was_ready.sound in
    let sized = sound.sized in
    record {
      sized = record { least = sized.least; msg = sized.msg; out = sized.out; input = sized.input; output = sized.output; sieve = c.reset.ensures.size l.limits.bufsize sized.sieve; filters = (sized.filters.0, these_now c.reset.new.sieve sized.filters.0 (c.reset.ensures.passed sized.filters.0 sized.filters.1)) };
      most = sound.most;
      reserve = sound.reserve;
      held = sound.held;
    }
