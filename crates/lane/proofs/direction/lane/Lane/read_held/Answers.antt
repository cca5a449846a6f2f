use Rattle.std.proofs.Common.{◌∙◌, subst, Bool, refl, ◌≡◌, ◌≢◌, sym}
use Rattle.lane.proofs.DirectionLemmas.HoldLemmas.{Took, sends_held, held_rests, took_nearer, took_these}
use Rattle.lane.specs.Direction.State.{LaneState}
use Rattle.lane.specs.contracts.direction.lane.Lane.{the_view}
use Rattle.lane.specs.Direction.Sends.{IsSized}
use Rattle.lane.specs.Direction.Filtering.{SieveRests}
use Rattle.http_model.specs.declared.Source.TheVariants as source
use Rattle.std.specs.Prelude.{None}
use Rattle.lane.proofs.direction.lane.Lane.read_held.Goals as goal

pub returns-clause-leads : goal.returns-clause-leads
returns-clause-leads c =
    let l = the_view c.self.inside in
    let was_rests = subst (λ (s : LaneState). SieveRests s.sieve) (sym c.self.view_is) c.requires.rests in
    let was_going = subst (λ (s : LaneState). s.source ≡ source.Going) (sym c.self.view_is) c.requires.going in
    let was_some = subst (λ (s : LaneState). s.sieve ≢ None) (sym c.self.view_is) c.requires.some in
    rw (← c.self.view_is) (λ p s.
    let x : Took l c.hold.new.input c.hold.new.reader c.hold.new.sieve c.hold.result =
    record { holds = c.hold.ensures.holds; capacity = c.hold.ensures.capacity; fits = c.hold.ensures.sieve; rests = was_rests; going = was_going; some = was_some } in
    sends_held l p c.hold.new.input c.hold.new.reader c.hold.new.sieve c.hold.result x s)

pub returns-clause-keeps : goal.returns-clause-keeps
returns-clause-keeps c =
    let l = the_view c.self.inside in
    let was_rests = subst (λ (s : LaneState). SieveRests s.sieve) (sym c.self.view_is) c.requires.rests in
    let was_going = subst (λ (s : LaneState). s.source ≡ source.Going) (sym c.self.view_is) c.requires.going in
    let was_some = subst (λ (s : LaneState). s.sieve ≢ None) (sym c.self.view_is) c.requires.some in
    rw (← c.self.view_is) (let x : Took l c.hold.new.input c.hold.new.reader c.hold.new.sieve c.hold.result =
    record { holds = c.hold.ensures.holds; capacity = c.hold.ensures.capacity; fits = c.hold.ensures.sieve; rests = was_rests; going = was_going; some = was_some } in
    record {
      limits = refl;
      ended = refl;
      stage = refl;
      dropped = refl;
      capacity = refl;
      input_capacity = c.hold.ensures.capacity;
      shrinks = c.hold.ensures.shrinks;
      filters = took_these l c.hold.new.input c.hold.new.reader c.hold.new.sieve c.hold.result x;
    })

pub returns-clause-sized : goal.returns-clause-sized
returns-clause-sized c =
    let l = the_view c.self.inside in
    let was_sized = subst (λ (s : LaneState). IsSized s) (sym c.self.view_is) c.requires.sized in
    let was_rests = subst (λ (s : LaneState). SieveRests s.sieve) (sym c.self.view_is) c.requires.rests in
    let was_going = subst (λ (s : LaneState). s.source ≡ source.Going) (sym c.self.view_is) c.requires.going in
    let was_some = subst (λ (s : LaneState). s.sieve ≢ None) (sym c.self.view_is) c.requires.some in
    let x : Took l c.hold.new.input c.hold.new.reader c.hold.new.sieve c.hold.result =
    record { holds = c.hold.ensures.holds; capacity = c.hold.ensures.capacity; fits = c.hold.ensures.sieve; rests = was_rests; going = was_going; some = was_some } in
    let z = was_sized in
    record {
      least = z.least;
      msg = z.msg;
      out = z.out;
      input = c.hold.ensures.capacity ∙ z.input;
      output = z.output;
      sieve = c.hold.ensures.sieve;
      filters = (z.filters.0, took_these l c.hold.new.input c.hold.new.reader c.hold.new.sieve c.hold.result x z.filters.0 z.filters.1);
    }

pub returns-clause-nearer : goal.returns-clause-nearer
returns-clause-nearer c =
    let l = the_view c.self.inside in
    let was_rests = subst (λ (s : LaneState). SieveRests s.sieve) (sym c.self.view_is) c.requires.rests in
    let was_going = subst (λ (s : LaneState). s.source ≡ source.Going) (sym c.self.view_is) c.requires.going in
    let was_some = subst (λ (s : LaneState). s.sieve ≢ None) (sym c.self.view_is) c.requires.some in
    rw (← c.self.view_is) (λ more.
    let x : Took l c.hold.new.input c.hold.new.reader c.hold.new.sieve c.hold.result =
    record { holds = c.hold.ensures.holds; capacity = c.hold.ensures.capacity; fits = c.hold.ensures.sieve; rests = was_rests; going = was_going; some = was_some } in
    took_nearer l c.hold.new.input c.hold.new.reader c.hold.new.sieve (subst (λ (b : Bool). Took l c.hold.new.input c.hold.new.reader c.hold.new.sieve b) more x))

pub returns-clause-waits : goal.returns-clause-waits
returns-clause-waits c =
    let l = the_view c.self.inside in
    let was_rests = subst (λ (s : LaneState). SieveRests s.sieve) (sym c.self.view_is) c.requires.rests in
    let was_going = subst (λ (s : LaneState). s.source ≡ source.Going) (sym c.self.view_is) c.requires.going in
    let was_some = subst (λ (s : LaneState). s.sieve ≢ None) (sym c.self.view_is) c.requires.some in
    rw (← c.self.view_is) (λ p s no_more.
    let x : Took l c.hold.new.input c.hold.new.reader c.hold.new.sieve c.hold.result =
    record { holds = c.hold.ensures.holds; capacity = c.hold.ensures.capacity; fits = c.hold.ensures.sieve; rests = was_rests; going = was_going; some = was_some } in
    held_rests l p c.hold.new.input c.hold.new.reader c.hold.new.sieve (subst (λ (b : Bool). Took l c.hold.new.input c.hold.new.reader c.hold.new.sieve b) no_more x) s)
