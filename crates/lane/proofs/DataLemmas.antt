-- Data that goes to the client at once, as if it was pushed and put out.
use Rattle.std.proofs.Common.{◌≡◌, ℕ, ◌+◌, ◌≤◌, inl, List, ◌++◌, Bool, true, false, refl, sym, ap, ◌∙◌, subst, length, length-append, arith}
use Rattle.wire_buf.specs.Buffer.{Buffer}
use Rattle.http_model.specs.declared.Source.TheVariants as source
use Rattle.h1_head.specs.declared.answer.Side.{Side}
use Rattle.h1_head.specs.declared.answer.Side.TheVariants.{Response}
use Rattle.lane.specs.Answering.{Answers, IsOpen, IsSoundAt, IsSoundAnswer, PushedSo, PutSo, PassedSo, HasBegun, with_put, shows_last}
use Rattle.lane.specs.Direction.Sends.{Past, Stands, IsSound, IsReading, IsStraight, with_more}
use Rattle.lane.specs.declared.direction.stage.Stage.TheVariants as stage
use Rattle.lane.specs.declared.direction.lane.Lane.{Lane}
use Rattle.lane.specs.declared.phase.Phase.{Phase}
use Rattle.lane.specs.declared.phase.Phase.TheVariants as phase
use Rattle.lane.specs.declared.response_lane.ResponseLane.{ResponseLane}
use Rattle.lane.specs.Direction.Filtering.{AreThese}
use Rattle.lane.proofs.DirectionLemmas.StallLemmas.{stands_open}
use Rattle.lane.proofs.AnswerLemmas.{made, at_last, last_more}
use Rattle.lane.proofs.TakeLemmas.{take_answers, sound_at}

-- what the shared part says of it
pub record GoesStraight (old : Lane) (bytes : List ℕ) (new : Lane) : Type 0 where
  pub straight : IsStraight old
  pub stands : (p : Past) → Stands (with_more old bytes) p → Stands new p
  pub same : new ≡ record old { output = new.output; reader = new.reader; source = new.source }
  pub sound : IsSound new
  pub window : new.output.capacity ≡ old.output.capacity
  pub put : List ℕ
  pub grows : new.output.items ≡ old.output.items ++ put

-- the lane with these bytes more
abbrev pub pushed_lane : ResponseLane → List ℕ → ResponseLane
pushed_lane old bytes = made (with_more old.lane bytes) old.phase old.begun

not_reading : (side : Side) (l new : Lane) → IsStraight l → IsReading side l → IsReading side new
not_reading side l new straight r = absurd (let both : stage.Reading ≡ stage.Sending = sym r.stage ∙ straight.stage in cc both)

sound_more : (l : Lane) (bytes : List ℕ) → length l.input.items + length bytes ≤ l.input.capacity → IsSound l → IsSound (with_more l bytes)
sound_more l bytes fits s =
    let all : length (l.input.items ++ bytes) ≡ length l.input.items + length bytes = length-append l.input.items bytes in
    record {
      sized = record { least = s.sized.least; msg = s.sized.msg; out = s.sized.out; input = s.sized.input; output = s.sized.output; sieve = s.sized.sieve; filters = s.sized.filters };
      most = s.most;
      reserve = s.reserve;
      held = omega arith;
    }

pub pushed_so : (old : ResponseLane) (bytes : List ℕ) → IsOpen old → length old.lane.input.items + length bytes ≤ old.lane.input.capacity → IsStraight old.lane → PushedSo old bytes (pushed_lane old bytes)
pushed_so old bytes open_ fits straight =
    let input : Buffer ℕ = record old.lane.input { items = old.lane.input.items ++ bytes } in
    record {
      answers = λ p a. take_answers old.phase old input bytes p open_ refl (not_reading (Response p.asked) old.lane (with_more old.lane bytes) straight) (sound_more old.lane bytes fits)
          (λ q s. stands_open old.lane q input old.lane.ended bytes open_ refl refl s) a;
      input = refl;
      stage = refl;
      window = refl;
      begun = refl;
      ended = refl;
      phase = refl;
      source = refl;
      limits = refl;
      sound = λ s. record {
        sound = sound_more old.lane bytes fits s.sound;
        kept = s.kept;
        at = sound_at old.phase old (pushed_lane old bytes) refl refl refl refl (λ asked. not_reading (Response asked) old.lane (with_more old.lane bytes) straight) s.at;
      };
      filters = λ filters has. has;
    }

pub put_so : (old : ResponseLane) (bytes : List ℕ) (new : Lane) (begun_ : Bool) → IsSoundAnswer old → old.phase ≡ phase.Answering → (g : GoesStraight old.lane bytes new)
    → ((text : List ℕ) → HasBegun old.begun text → HasBegun begun_ (text ++ g.put)) → (old.begun ≡ true → begun_ ≡ true) → PutSo (pushed_lane old bytes) (made new old.phase begun_)
put_so old bytes new begun_ sound at g begins keeps =
    let mid : ResponseLane = pushed_lane old bytes in
    let limits = ap (λ (l : Lane). l.limits) g.same in
    let ended = ap (λ (l : Lane). l.ended) g.same in
    let kept : new.dropped ≡ false = ap (λ (l : Lane). l.dropped) g.same ∙ g.straight.kept in
    let same_stage = ap (λ (l : Lane). l.stage) g.same in
    let sending : new.stage ≡ stage.Sending = same_stage ∙ g.straight.stage in
    record {
      answers = record {
        put = g.put;
        window = g.grows;
        answers = λ p a. subst (λ (ph : Phase). Answers (made new ph begun_) (with_put p g.put)) (sym at)
            (last_more mid new begun_ g.put p (at_last mid p at a) (record { limits = limits; ended = ended }) g.stands g.sound kept g.grows (inl sending) begins);
      };
      begun = keeps;
      last = λ h. h;
      whole = λ h e. absurd (let both : source.Whole ≡ source.Going = sym e ∙ g.straight.going in cc both);
      heads = λ h. absurd (let both : true ≡ false = sym (ap shows_last at) ∙ h in cc both);
      ended = ended;
      shrinks =
          let less : length new.input.items ≡ length old.lane.input.items = ap (λ (l : Lane). length l.input.items) g.same in
          let all : length (old.lane.input.items ++ bytes) ≡ length old.lane.input.items + length bytes = length-append old.lane.input.items bytes in
          omega arith;
      limits = limits;
      window_size = g.window;
      sound = record { sound = g.sound; kept = kept; at = subst (λ (ph : Phase). IsSoundAt ph (made new old.phase begun_)) (sym at) (inl sending) };
      filters = λ filters has. subst (λ (l : Lane). AreThese l.sieve filters) (sym g.same) has;
      stage = same_stage;
      phase = refl;
    }

pub passed_so : (old : ResponseLane) (bytes : List ℕ) (new : Lane) (begun_ : Bool) → IsOpen old → IsSoundAnswer old → length old.lane.input.items + length bytes ≤ old.lane.input.capacity → old.phase ≡ phase.Answering
    → (g : GoesStraight old.lane bytes new) → ((text : List ℕ) → HasBegun old.begun text → HasBegun begun_ (text ++ g.put)) → (old.begun ≡ true → begun_ ≡ true)
    → PassedSo old bytes (made new old.phase begun_)
passed_so old bytes new begun_ open_ sound fits at g begins keeps =
    (pushed_lane old bytes, pushed_so old bytes open_ fits g.straight, put_so old bytes new begun_ sound at g begins keeps)
