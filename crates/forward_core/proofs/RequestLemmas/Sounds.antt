-- What calls keep of where the lane stands, and what is seen of it.
use Rattle.std.proofs.Common.{◌≡◌, ◌≢◌, ℕ, ◌⊎◌, List, [], ◌++◌, Bool, true, refl, ap, sym, ◌∙◌, subst, length, ◌+◌, ◌-◌, arith}
use Rattle.std.specs.Prelude.{Option, Some, None, is_none}
use Rattle.std.proofs.lemmas.List.{length-append}
use Rattle.http_model.specs.declared.Ending.{Ending}
use Rattle.px_sample.specs.Buffer.{Buffer}
use Rattle.lane.specs.Direction.Sends.{Past, IsSound as IsWell, Stands, IsReading}
use Rattle.lane.specs.declared.direction.stage.Stage.{Stage}
use Rattle.lane.specs.declared.direction.stage.Stage.TheVariants as stage
use Rattle.h1_head.specs.declared.answer.Side.TheVariants as side
use Rattle.lane.specs.Direction.State.{LaneState}
use Rattle.forward_core.specs.declared.request.place.Place.{Place}
use Rattle.forward_core.specs.declared.request.place.Place.TheVariants as place
use Rattle.forward_core.specs.Request.Seen.{seen, unread_at, to_read, source_at, sent_at}
use Rattle.forward_core.specs.Request.Stands.{SoundAt}

pub none_is : (o : Option Ending) → is_none o ≡ true → o ≡ None
none_is None e = refl
none_is (Some how) e = absurd (cc)

-- ---- where the lane stands

pub sound_keeps : (at : Place) (old new : LaneState) → (IsReading side.Request old → IsReading side.Request new) → (old.output.items ≡ [] → new.output.items ≡ []) → new.stage ≡ old.stage → new.dropped ≡ old.dropped
    → ((p : Past) → Stands old p → (q : Past) × Stands new q) → SoundAt at old → SoundAt at new
sound_keeps place.Reading old new reads empties stays dropped sends s = (reads s.0, empties s.1)
sound_keeps place.Sending old new reads empties stays dropped sends s =
    let q = sends s.past s.sends in
    record { past = q.0; sends = q.1; stage = subst (λ (st : Stage). (st ≡ stage.Sending) ⊎ (st ≡ stage.Done)) (sym stays) s.stage; drops = λ d. empties (s.drops (sym dropped ∙ d)) }
sound_keeps place.Idle old new reads empties stays dropped sends s = empties s
sound_keeps place.Replied old new reads empties stays dropped sends s = empties s

pub sound_drops : (at : Place) (old new : LaneState) → old.output.items ≢ [] → new.output.items ≡ [] → new.stage ≡ old.stage → ((p : Past) → Stands old p → Stands new p) → SoundAt at old → SoundAt at new
sound_drops place.Reading old new some empty stays sends s = absurd (some s.1)
sound_drops place.Sending old new some empty stays sends s =
    record { past = s.past; sends = sends s.past s.sends; stage = subst (λ (st : Stage). (st ≡ stage.Sending) ⊎ (st ≡ stage.Done)) (sym stays) s.stage; drops = λ d. empty }
sound_drops place.Idle old new some empty stays sends s = empty
sound_drops place.Replied old new some empty stays sends s = empty

-- ---- what is seen

pub room_same : (old new : LaneState) → IsWell old → IsWell new → new.limits ≡ old.limits → new.input.items ≡ old.input.items → new.input.capacity - length new.input.items ≡ old.input.capacity - length old.input.items
room_same old new was now limits input =
    let most : new.input.capacity ≡ old.input.capacity = now.sized.input ∙ ap (λ l. l.bufsize) limits ∙ sym was.sized.input in
    λ i. most i - length (input i)

-- where these bytes came behind the others
pub room_less : (old new : LaneState) (bytes : List ℕ) → IsWell old → IsWell new → new.limits ≡ old.limits → new.input.items ≡ old.input.items ++ bytes
    → new.input.capacity - length new.input.items ≡ old.input.capacity - length old.input.items - length bytes
room_less old new bytes was now limits input =
    let most : new.input.capacity ≡ old.input.capacity = now.sized.input ∙ ap (λ l. l.bufsize) limits ∙ sym was.sized.input in
    let long : length new.input.items ≡ length old.input.items + length bytes = ap length input ∙ length-append old.input.items bytes in
    omega (arith, most, long)

-- and those of them that are to be read
pub unread_more : (at : Place) (old new : LaneState) (bytes : List ℕ) → new.input.items ≡ old.input.items ++ bytes → unread_at at new.input.items ≡ unread_at at old.input.items + to_read at (length bytes)
unread_more place.Reading old new bytes input = ap length input ∙ length-append old.input.items bytes
unread_more place.Sending old new bytes input = ap length input ∙ length-append old.input.items bytes
unread_more place.Idle old new bytes input = refl
unread_more place.Replied old new bytes input = ap length input ∙ length-append old.input.items bytes

pub seen_as : (old new : LaneState) (at : Place) (line : Buffer) (awaits untouched still was now open_ dropped : Bool) (room unread : ℕ) (window : List ℕ)
    → is_none new.ended ≡ open_ → new.input.capacity - length new.input.items ≡ room → unread_at at new.input.items ≡ unread → new.output.items ≡ window
    → new.source ≡ old.source → new.stage ≡ old.stage → new.dropped ≡ dropped → new.msg ≡ old.msg
    → seen (record { lane = new; place = at; line = line; awaits = awaits; at_rest = now; untouched = still })
    ≡ record (seen (record { lane = old; place = at; line = line; awaits = awaits; at_rest = was; untouched = untouched })) { is_open = open_; room = room; unread = unread; window = window; dropped = dropped; at_rest = now }
seen_as old new at line awaits untouched still was now open_ dropped room unread window is_open is_room is_unread is_window source stays is_dropped array =
    λ i. record {
      is_open = is_open i;
      room = is_room i;
      unread = is_unread i;
      window = is_window i;
      source = source_at at (source i);
      sent = sent_at at (stays i);
      dropped = is_dropped i;
      awaits = awaits;
      at_rest = now;
      list = (array i).blocks;
      line = line.bytes;
    }

-- what is seen once the text that waits is dropped
pub seen_dropped : (old new : LaneState) (at : Place) (line : Buffer) (awaits untouched was now : Bool) → IsWell old → IsWell new → new.limits ≡ old.limits → new.input.items ≡ old.input.items
    → new.ended ≡ old.ended → new.output.items ≡ [] → new.source ≡ old.source → new.stage ≡ old.stage → new.dropped ≡ true → new.msg.blocks ≡ []
    → seen (record { lane = new; place = at; line = line; awaits = awaits; at_rest = now; untouched = untouched })
    ≡ record (seen (record { lane = old; place = at; line = line; awaits = awaits; at_rest = was; untouched = untouched })) { window = []; dropped = true; at_rest = now; list = [] }
seen_dropped old new at line awaits untouched was now well_old well_new limits input ended output source stays dropping blocks =
    let room = room_same old new well_old well_new limits input in
    λ i. record {
      is_open = is_none (ended i);
      room = room i;
      unread = unread_at at (input i);
      window = output i;
      source = source_at at (source i);
      sent = sent_at at (stays i);
      dropped = dropping i;
      awaits = awaits;
      at_rest = now;
      list = blocks i;
      line = line.bytes;
    }
