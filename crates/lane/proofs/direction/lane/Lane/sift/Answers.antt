use Rattle.std.proofs.Common.{ℕ, refl, sym, subst, [], ◌≡◌}
use Rattle.lane.specs.Direction.Filtering.{SieveFits}
use Rattle.lane.specs.declared.direction.sift.Came.TheVariants as came
use Rattle.lane.proofs.DirectionLemmas.SiftLemmas.{Steps, sends_given, sends_waiting, sends_ended}
use Rattle.lane.proofs.DirectionLemmas.StepLemmas.{step_sized, step_keeps, step_more, step_waits, step_ends}
use Rattle.lane.specs.Direction.State.{LaneState}
use Rattle.lane.specs.contracts.direction.lane.Lane.{the_view}
use Rattle.lane.specs.Direction.Sends.{IsSized}
use Rattle.http_model.specs.declared.Source.TheVariants as source
use Rattle.lane.proofs.direction.lane.Lane.sift.Goals as goal

pub sift-requires-clause-sieve : goal.sift-requires-clause-sieve
sift-requires-clause-sieve c =
    let l = the_view c.self.inside in
    let was_sized = subst (λ (s : LaneState). IsSized s) (sym c.self.view_is) c.requires.sized in
    subst (λ (n : ℕ). SieveFits n l.sieve) (sym was_sized.msg) was_sized.sieve

pub returns-in-More-clause-leads : goal.returns-in-More-clause-leads
returns-in-More-clause-leads c =
    let l = the_view c.self.inside in
    let was_empty = subst (λ (s : LaneState). s.msg.blocks ≡ []) (sym c.self.view_is) c.requires.empty in
    let was_going = subst (λ (s : LaneState). s.source ≡ source.Going) (sym c.self.view_is) c.requires.going in
    rw (← c.self.view_is) (λ p s.
    let x : Steps l c.sift.new.sieve c.sift.new.to came.More = record { comes = c.in-More.ensures.comes; fits = c.in-More.ensures.sieve; size = c.in-More.ensures.size; empty = was_empty; going = was_going } in
    sends_given l.sieve l p c.sift.new.sieve c.sift.new.to refl x s)

pub returns-in-More-clause-sized : goal.returns-in-More-clause-sized
returns-in-More-clause-sized c =
    let l = the_view c.self.inside in
    let was_sized = subst (λ (s : LaneState). IsSized s) (sym c.self.view_is) c.requires.sized in
    let was_empty = subst (λ (s : LaneState). s.msg.blocks ≡ []) (sym c.self.view_is) c.requires.empty in
    let was_going = subst (λ (s : LaneState). s.source ≡ source.Going) (sym c.self.view_is) c.requires.going in
    let x : Steps l c.sift.new.sieve c.sift.new.to came.More = record { comes = c.in-More.ensures.comes; fits = c.in-More.ensures.sieve; size = c.in-More.ensures.size; empty = was_empty; going = was_going } in
    step_sized l c.sift.new.sieve c.sift.new.to came.More l.source x was_sized

pub returns-in-More-clause-keeps : goal.returns-in-More-clause-keeps
returns-in-More-clause-keeps c =
    let l = the_view c.self.inside in
    let was_empty = subst (λ (s : LaneState). s.msg.blocks ≡ []) (sym c.self.view_is) c.requires.empty in
    let was_going = subst (λ (s : LaneState). s.source ≡ source.Going) (sym c.self.view_is) c.requires.going in
    rw (← c.self.view_is) (let x : Steps l c.sift.new.sieve c.sift.new.to came.More = record { comes = c.in-More.ensures.comes; fits = c.in-More.ensures.sieve; size = c.in-More.ensures.size; empty = was_empty; going = was_going } in
    step_keeps l c.sift.new.sieve c.sift.new.to came.More l.source x)

pub returns-in-More-clause-nearer : goal.returns-in-More-clause-nearer
returns-in-More-clause-nearer c =
    let l = the_view c.self.inside in
    let was_sized = subst (λ (s : LaneState). IsSized s) (sym c.self.view_is) c.requires.sized in
    let was_empty = subst (λ (s : LaneState). s.msg.blocks ≡ []) (sym c.self.view_is) c.requires.empty in
    let was_going = subst (λ (s : LaneState). s.source ≡ source.Going) (sym c.self.view_is) c.requires.going in
    rw (← c.self.view_is) (λ _.
    let x : Steps l c.sift.new.sieve c.sift.new.to came.More = record { comes = c.in-More.ensures.comes; fits = c.in-More.ensures.sieve; size = c.in-More.ensures.size; empty = was_empty; going = was_going } in
    (step_more l c.sift.new.sieve c.sift.new.to x was_sized).0)

pub returns-in-More-clause-reads : goal.returns-in-More-clause-reads
returns-in-More-clause-reads c =
    let l = the_view c.self.inside in
    let was_sized = subst (λ (s : LaneState). IsSized s) (sym c.self.view_is) c.requires.sized in
    let was_empty = subst (λ (s : LaneState). s.msg.blocks ≡ []) (sym c.self.view_is) c.requires.empty in
    let was_going = subst (λ (s : LaneState). s.source ≡ source.Going) (sym c.self.view_is) c.requires.going in
    rw (← c.self.view_is) (let x : Steps l c.sift.new.sieve c.sift.new.to came.More = record { comes = c.in-More.ensures.comes; fits = c.in-More.ensures.sieve; size = c.in-More.ensures.size; empty = was_empty; going = was_going } in
    (step_more l c.sift.new.sieve c.sift.new.to x was_sized).1)

pub returns-in-Waits-clause-leads : goal.returns-in-Waits-clause-leads
returns-in-Waits-clause-leads c =
    let l = the_view c.self.inside in
    let was_empty = subst (λ (s : LaneState). s.msg.blocks ≡ []) (sym c.self.view_is) c.requires.empty in
    let was_going = subst (λ (s : LaneState). s.source ≡ source.Going) (sym c.self.view_is) c.requires.going in
    rw (← c.self.view_is) (λ p s.
    let x : Steps l c.sift.new.sieve c.sift.new.to came.Waits = record { comes = c.in-Waits.ensures.comes; fits = c.in-Waits.ensures.sieve; size = c.in-Waits.ensures.size; empty = was_empty; going = was_going } in
    sends_waiting l.sieve l p c.sift.new.sieve c.sift.new.to refl x s)

pub returns-in-Waits-clause-sized : goal.returns-in-Waits-clause-sized
returns-in-Waits-clause-sized c =
    let l = the_view c.self.inside in
    let was_sized = subst (λ (s : LaneState). IsSized s) (sym c.self.view_is) c.requires.sized in
    let was_empty = subst (λ (s : LaneState). s.msg.blocks ≡ []) (sym c.self.view_is) c.requires.empty in
    let was_going = subst (λ (s : LaneState). s.source ≡ source.Going) (sym c.self.view_is) c.requires.going in
    let x : Steps l c.sift.new.sieve c.sift.new.to came.Waits = record { comes = c.in-Waits.ensures.comes; fits = c.in-Waits.ensures.sieve; size = c.in-Waits.ensures.size; empty = was_empty; going = was_going } in
    step_sized l c.sift.new.sieve c.sift.new.to came.Waits l.source x was_sized

pub returns-in-Waits-clause-keeps : goal.returns-in-Waits-clause-keeps
returns-in-Waits-clause-keeps c =
    let l = the_view c.self.inside in
    let was_empty = subst (λ (s : LaneState). s.msg.blocks ≡ []) (sym c.self.view_is) c.requires.empty in
    let was_going = subst (λ (s : LaneState). s.source ≡ source.Going) (sym c.self.view_is) c.requires.going in
    rw (← c.self.view_is) (let x : Steps l c.sift.new.sieve c.sift.new.to came.Waits = record { comes = c.in-Waits.ensures.comes; fits = c.in-Waits.ensures.sieve; size = c.in-Waits.ensures.size; empty = was_empty; going = was_going } in
    step_keeps l c.sift.new.sieve c.sift.new.to came.Waits l.source x)

pub returns-in-Waits-clause-rests : goal.returns-in-Waits-clause-rests
returns-in-Waits-clause-rests c =
    let l = the_view c.self.inside in
    let was_sized = subst (λ (s : LaneState). IsSized s) (sym c.self.view_is) c.requires.sized in
    let was_empty = subst (λ (s : LaneState). s.msg.blocks ≡ []) (sym c.self.view_is) c.requires.empty in
    let was_going = subst (λ (s : LaneState). s.source ≡ source.Going) (sym c.self.view_is) c.requires.going in
    rw (← c.self.view_is) (λ _.
    let x : Steps l c.sift.new.sieve c.sift.new.to came.Waits = record { comes = c.in-Waits.ensures.comes; fits = c.in-Waits.ensures.sieve; size = c.in-Waits.ensures.size; empty = was_empty; going = was_going } in
    let w = step_waits l c.sift.new.sieve c.sift.new.to x was_sized in
    (w.0, w.1, refl))

pub returns-in-Waits-clause-reads : goal.returns-in-Waits-clause-reads
returns-in-Waits-clause-reads c =
    let l = the_view c.self.inside in
    let was_sized = subst (λ (s : LaneState). IsSized s) (sym c.self.view_is) c.requires.sized in
    let was_empty = subst (λ (s : LaneState). s.msg.blocks ≡ []) (sym c.self.view_is) c.requires.empty in
    let was_going = subst (λ (s : LaneState). s.source ≡ source.Going) (sym c.self.view_is) c.requires.going in
    rw (← c.self.view_is) (let x : Steps l c.sift.new.sieve c.sift.new.to came.Waits = record { comes = c.in-Waits.ensures.comes; fits = c.in-Waits.ensures.sieve; size = c.in-Waits.ensures.size; empty = was_empty; going = was_going } in
    (step_waits l c.sift.new.sieve c.sift.new.to x was_sized).2)

pub returns-in-Ends-clause-leads : goal.returns-in-Ends-clause-leads
returns-in-Ends-clause-leads c =
    let l = the_view c.self.inside in
    let was_empty = subst (λ (s : LaneState). s.msg.blocks ≡ []) (sym c.self.view_is) c.requires.empty in
    let was_going = subst (λ (s : LaneState). s.source ≡ source.Going) (sym c.self.view_is) c.requires.going in
    rw (← c.self.view_is) (λ p s.
    let x : Steps l c.sift.new.sieve c.sift.new.to (came.Ends c.in-Ends.source) = record { comes = c.in-Ends.ensures.comes; fits = c.in-Ends.ensures.sieve; size = c.in-Ends.ensures.size; empty = was_empty; going = was_going } in
    sends_ended l.sieve c.in-Ends.source l p c.sift.new.sieve c.sift.new.to refl x s)

pub returns-in-Ends-clause-sized : goal.returns-in-Ends-clause-sized
returns-in-Ends-clause-sized c =
    let l = the_view c.self.inside in
    let was_sized = subst (λ (s : LaneState). IsSized s) (sym c.self.view_is) c.requires.sized in
    let was_empty = subst (λ (s : LaneState). s.msg.blocks ≡ []) (sym c.self.view_is) c.requires.empty in
    let was_going = subst (λ (s : LaneState). s.source ≡ source.Going) (sym c.self.view_is) c.requires.going in
    let x : Steps l c.sift.new.sieve c.sift.new.to (came.Ends c.in-Ends.source) = record { comes = c.in-Ends.ensures.comes; fits = c.in-Ends.ensures.sieve; size = c.in-Ends.ensures.size; empty = was_empty; going = was_going } in
    step_sized l c.sift.new.sieve c.sift.new.to (came.Ends c.in-Ends.source) c.in-Ends.source x was_sized

pub returns-in-Ends-clause-keeps : goal.returns-in-Ends-clause-keeps
returns-in-Ends-clause-keeps c =
    let l = the_view c.self.inside in
    let was_empty = subst (λ (s : LaneState). s.msg.blocks ≡ []) (sym c.self.view_is) c.requires.empty in
    let was_going = subst (λ (s : LaneState). s.source ≡ source.Going) (sym c.self.view_is) c.requires.going in
    rw (← c.self.view_is) (let x : Steps l c.sift.new.sieve c.sift.new.to (came.Ends c.in-Ends.source) = record { comes = c.in-Ends.ensures.comes; fits = c.in-Ends.ensures.sieve; size = c.in-Ends.ensures.size; empty = was_empty; going = was_going } in
    step_keeps l c.sift.new.sieve c.sift.new.to (came.Ends c.in-Ends.source) c.in-Ends.source x)

pub returns-in-Ends-clause-nearer : goal.returns-in-Ends-clause-nearer
returns-in-Ends-clause-nearer c =
    let l = the_view c.self.inside in
    let was_sized = subst (λ (s : LaneState). IsSized s) (sym c.self.view_is) c.requires.sized in
    let was_empty = subst (λ (s : LaneState). s.msg.blocks ≡ []) (sym c.self.view_is) c.requires.empty in
    let was_going = subst (λ (s : LaneState). s.source ≡ source.Going) (sym c.self.view_is) c.requires.going in
    rw (← c.self.view_is) (λ _.
    let x : Steps l c.sift.new.sieve c.sift.new.to (came.Ends c.in-Ends.source) = record { comes = c.in-Ends.ensures.comes; fits = c.in-Ends.ensures.sieve; size = c.in-Ends.ensures.size; empty = was_empty; going = was_going } in
    (step_ends l c.sift.new.sieve c.sift.new.to c.in-Ends.source x was_sized).0)

pub returns-in-Ends-clause-reads : goal.returns-in-Ends-clause-reads
returns-in-Ends-clause-reads c =
    let l = the_view c.self.inside in
    let was_sized = subst (λ (s : LaneState). IsSized s) (sym c.self.view_is) c.requires.sized in
    let was_empty = subst (λ (s : LaneState). s.msg.blocks ≡ []) (sym c.self.view_is) c.requires.empty in
    let was_going = subst (λ (s : LaneState). s.source ≡ source.Going) (sym c.self.view_is) c.requires.going in
    rw (← c.self.view_is) (let x : Steps l c.sift.new.sieve c.sift.new.to (came.Ends c.in-Ends.source) = record { comes = c.in-Ends.ensures.comes; fits = c.in-Ends.ensures.sieve; size = c.in-Ends.ensures.size; empty = was_empty; going = was_going } in
    (step_ends l c.sift.new.sieve c.sift.new.to c.in-Ends.source x was_sized).1)
