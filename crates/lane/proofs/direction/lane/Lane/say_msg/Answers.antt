use Rattle.std.proofs.Common.{refl, [], inl, sym, subst, List, ℕ, ◌≡◌}
use Rattle.std.proofs.lemmas.List.{append-nil}
use Rattle.http_model.specs.declared.Framing.TheVariants as framing
use Rattle.lane.specs.Direction.Sent.{Sent}
use Rattle.lane.specs.Direction.Carried.{Carries}
use Rattle.http_model.specs.declared.Source.TheVariants as source
use Rattle.lane.proofs.DirectionLemmas.StepLemmas.{these_now, nothing_over}
use Rattle.lane.proofs.DirectionLemmas.CarryLemmas.{carries_head, carries_closed}
use Rattle.lane.proofs.DirectionLemmas.ShowLemmas.{absent_over}
use Rattle.lane.specs.Direction.State.{LaneState}
use Rattle.lane.specs.contracts.direction.lane.Lane.{the_view}
use Rattle.lane.specs.Direction.Sends.{IsSound}
use Rattle.lane.proofs.direction.lane.Lane.say_msg.Goals as goal

pub returns-clause-stands : goal.returns-clause-stands
returns-clause-stands c =
    let l = the_view c.self.inside in
    let was_sound = subst (λ (s : LaneState). IsSound s) (sym c.self.view_is) c.requires.sound in
    let was_empty = subst (λ (s : LaneState). s.out.blocks ≡ []) (sym c.self.view_is) c.requires.empty in
    rw (← c.self.view_is) (λ filters head body these is.
    let sized = was_sound.sized in
    let s : Sent = record { head = head; given = body; framing = framing.ToClose; no_body = c.args.no_body; before = l.output.items } in
    record {
      sends = record {
        used = [];
        found = [];
        section = [];
        passed = [];
        sized = record { least = sized.least; msg = sized.msg; out = sized.out; input = sized.input; output = sized.output; sieve = c.reset.ensures.size l.limits.bufsize sized.sieve; filters = (sized.filters.0, these_now c.reset.new.sieve sized.filters.0 (c.reset.ensures.passed sized.filters.0 sized.filters.1)) };
        has_read = c.new-self-inside.ensures;
        bytes = refl;
        has_passed = c.reset.ensures.passed filters these;
        source = (inl (absent_over l.limits c.new-self-inside.result c.new-self-inside.ensures), nothing_over filters);
        text = λ d. subst (λ (b : List ℕ). Carries source.Whole c.new-self-inside-2.result s b [] l.output.items l.out.blocks l.msg.blocks) (sym (append-nil body))
            (carries_closed c.new-self-inside-2.result s body l.output.items l.out.blocks l.msg.blocks
            (carries_head c.new-self-inside-2.result s l.output.items l.out.blocks l.msg.blocks
            c.new-self-inside-2.ensures.going c.new-self-inside-2.ensures.written refl was_empty is));
      };
      over = λ e. absurd (cc);
      done = λ e. absurd (cc);
    })

pub returns-clause-filters : goal.returns-clause-filters
returns-clause-filters c =
    let l = the_view c.self.inside in
    rw (← c.self.view_is) (λ filters these. these_now c.reset.new.sieve filters (c.reset.ensures.passed filters these))

pub returns-clause-sound : goal.returns-clause-sound
returns-clause-sound c =
    let l = the_view c.self.inside in
    let was_sound = subst (λ (s : LaneState). IsSound s) (sym c.self.view_is) c.requires.sound in
    let sound = was_sound in
    let sized = sound.sized in
    record {
      sized = record { least = sized.least; msg = sized.msg; out = sized.out; input = sized.input; output = sized.output; sieve = c.reset.ensures.size l.limits.bufsize sized.sieve; filters = (sized.filters.0, these_now c.reset.new.sieve sized.filters.0 (c.reset.ensures.passed sized.filters.0 sized.filters.1)) };
      most = sound.most;
      reserve = sound.reserve;
      held = sound.held;
    }
