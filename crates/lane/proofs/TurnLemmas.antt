-- What stands in the first array becomes the last that answers, behind an interim head.
use Rattle.std.proofs.Common.{◌≡◌, ℕ, List, Bool, true, sym, ap, ◌∙◌, subst}
use Rattle.htx_model.specs.Blocks.{flow}
use Rattle.http_model.specs.Head.{Head, front_blocks}
use Rattle.body_filter.specs.declared.filter_spec.FilterSpec.{FilterSpec}
use Rattle.h1_write.specs.Spelled.{is_done}
use Rattle.lane.specs.Direction.Filtering.{AreThese}
use Rattle.lane.specs.Direction.Sends.{Stands, IsSound, said}
use Rattle.lane.specs.Direction.Shown.{Goes}
use Rattle.lane.specs.declared.direction.stage.Stage.TheVariants as stage
use Rattle.lane.specs.declared.direction.lane.Lane.{Lane}
use Rattle.lane.specs.Answering.{Exchange, Answers, IsSoundAnswer, with_put}
use Rattle.lane.specs.declared.phase.Phase.TheVariants as phase
use Rattle.lane.specs.declared.response_lane.ResponseLane.{ResponseLane}
use Rattle.lane.proofs.AnswerLemmas.{made, at_turning, sound_turning, shows_more, shown_all, turned}
use Rattle.lane.proofs.InterimLemmas.{came_same}

-- the rest of the interim head was put out
pub record ShowsOn (old new : Lane) : Type 0 where
  pub goes : Goes old new
  pub same : new ≡ record old { writer = new.writer; out = new.out; output = new.output }
  pub sound : IsSound old → IsSound new
  pub done : is_done new.writer ≡ true

-- what was left of it stands nowhere
pub record Hides (old new : Lane) : Type 0 where
  pub same : new ≡ record old { out = new.out }
  pub sound : IsSound old → IsSound new

-- the message of the first array begins
pub record SaysMsg (old new : Lane) (no_body : Bool) : Type 0 where
  pub stands : (filters : List FilterSpec) (head : Head) (body : List ℕ) → AreThese old.sieve filters → flow old.msg.blocks ≡ front_blocks head body → Stands new (said old filters head body no_body)
  pub sound : IsSound new
  pub stage : new.stage ≡ stage.Sending
  pub ended : new.ended ≡ old.ended
  pub output : new.output ≡ old.output
  pub dropped : new.dropped ≡ old.dropped
  pub limits : new.limits ≡ old.limits

pub turns_now : (old : ResponseLane) (shown hidden new : Lane) (p : Exchange) (no_body : Bool) → IsSoundAnswer old → old.phase ≡ phase.Turning no_body → (s : ShowsOn old.lane shown) → Hides shown hidden → SaysMsg hidden new no_body
    → Answers old p → Answers (made new phase.Answering old.begun) (with_put p s.goes.put)
turns_now old shown hidden new p no_body sound at s h m a =
    let none = (sound_turning old no_body sound at).1 in
    let t = at_turning old p no_body at a in
    let goes = shows_more old.lane shown p t.0 s.goes s.same s.sound in
    let whole = shown_all shown (with_put p s.goes.put) goes s.done in
    let msg : flow hidden.msg.blocks ≡ front_blocks t.3.0 t.3.1 = ap (λ (l : Lane). flow l.msg.blocks) (h.same ∙ ap (λ (l : Lane). record l { out = hidden.out }) s.same) ∙ t.3.3 in
    let sized = (h.sound (s.sound sound.sound)).sized in
    let limits = m.limits ∙ ap (λ (l : Lane). l.limits) h.same ∙ ap (λ (l : Lane). l.limits) s.same in
    let ended = m.ended ∙ ap (λ (l : Lane). l.ended) h.same ∙ ap (λ (l : Lane). l.ended) s.same in
    let kept = m.dropped ∙ ap (λ (l : Lane). l.dropped) h.same ∙ ap (λ (l : Lane). l.dropped) s.same ∙ sound.kept in
    subst (λ (b : Bool). Answers (made new phase.Answering b) (with_put p s.goes.put)) (sym none)
    (turned hidden new (with_put p s.goes.put) sized.filters.0 t.3.0 t.3.1 no_body t.3.2 (m.stands sized.filters.0 t.3.0 t.3.1 sized.filters.1 msg) m.sound kept m.stage m.output t.2.0
    (came_same old.lane new (record { limits = limits; ended = ended }) p.asked p.read p.bytes t.2.0 t.2.1) whole)
