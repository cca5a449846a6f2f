-- What a step of the request direction keeps.
use Rattle.std.proofs.Common.{◌≡◌, ◌≢◌, ℕ, ◌<◌, ◌≤◌, ◌⊎◌, inl, inr, List, [], ◌∷◌, ◌++◌, Bool, true, false, refl, ap, sym, ◌∙◌, subst, length, ◌-◌, arith}
use Rattle.std.specs.Prelude.{is_none}
use Rattle.std.proofs.lemmas.List.{append-nil}
use Rattle.session_core.specs.History.{Coming}
use Rattle.session_core.specs.Leads.{KeepsRequest, StaysSettled}
use Rattle.session_core.specs.Sided.{Asking, Reply, IsSettled}
use Rattle.http_model.specs.declared.Source.{Source}
use Rattle.http_model.specs.declared.Source.TheVariants as source
use Rattle.px_sample.specs.Buffer.{Buffer}
use Rattle.px_sample.specs.Variables.{Variables}
use Rattle.http_rules.specs.declared.config.Config.{Config}
use Rattle.lane.specs.Direction.Sends.{Past, GoesOn, Stands}
use Rattle.lane.specs.declared.direction.stage.Stage.{Stage}
use Rattle.lane.specs.declared.direction.stage.Stage.TheVariants as stage
use Rattle.lane.specs.Direction.State.{LaneState}
use Rattle.forward_core.specs.declared.request.place.Place.{Place}
use Rattle.forward_core.specs.declared.request.place.Place.TheVariants as place
use Rattle.forward_core.specs.Request.Seen.{seen, unread_at, source_at, sent_at, is_done}
use Rattle.forward_core.specs.Request.Stands.{SoundAt, StandsAt}
use Rattle.forward_core.specs.Request.Steps.{Puts}
use Rattle.forward_core.proofs.RequestLemmas.Events.{Keeps, steps}

-- what the lane says of a step
pub record Steps (old new : LaneState) : Type 0 where
  pub keeps : Keeps old new
  pub most : new.input.capacity ≡ old.input.capacity
  pub dropped : new.dropped ≡ old.dropped
  pub drops : old.dropped ≡ true → new.output.items ≡ old.output.items
  pub shrinks : length new.input.items ≤ length old.input.items
  pub settled : old.source ≢ source.Going → new.source ≡ old.source
  pub sends : (p : Past) → Stands old p → Stands new p
  pub at : (new.stage ≡ stage.Sending) ⊎ (new.stage ≡ stage.Done)
  pub goes_on : (p : Past) → Stands old p → new.stage ≡ stage.Sending → GoesOn new

-- ---- where the lane stands

pub step_sound : (at : Place) (old new : LaneState) → at ≡ place.Sending → Steps old new → SoundAt at old → SoundAt at new
step_sound place.Reading old new e t s = absurd (cc)
step_sound place.Sending old new e t s = record { past = s.past; sends = t.sends s.past s.sends; stage = t.at; drops = λ d. (let was : old.dropped ≡ true = sym t.dropped ∙ d in t.drops was ∙ s.drops was) }
step_sound place.Idle old new e t s = absurd (cc)
step_sound place.Replied old new e t s = absurd (cc)

pub step_stands : (at : Place) (cfg : Config) (old new : LaneState) (vars : Variables) (came_ : Coming) (asking : Asking Variables) (to_server put : List ℕ) (reply : Reply Variables) → at ≡ place.Sending → Steps old new
    → new.output.items ≡ old.output.items ++ put → StandsAt at cfg old vars came_ asking to_server reply → StandsAt at cfg new vars came_ asking (to_server ++ put) reply
step_stands place.Reading cfg old new vars came_ asking to_server put reply e t out h = absurd (cc)
step_stands place.Sending cfg old new vars came_ asking to_server put reply e t out h = steps cfg old new vars came_ asking to_server put t.keeps out t.dropped t.drops t.sends h
step_stands place.Idle cfg old new vars came_ asking to_server put reply e t out h = absurd (cc)
step_stands place.Replied cfg old new vars came_ asking to_server put reply e t out h = absurd (cc)

-- ---- what is seen

settles : (was now : Source) → (was ≢ source.Going → now ≡ was) → StaysSettled was now
settles source.Going now h = tt
settles source.Whole now h = h (λ e. cc)
settles (source.Cut code) now h = h (λ e. cc)

still : (so : Source) → StaysSettled so so
still source.Going = tt
still source.Whole = refl
still (source.Cut code) = refl

is_settled : (so : Source) → so ≢ source.Going → IsSettled so
is_settled source.Going h = absurd (h refl)
is_settled source.Whole h = tt
is_settled (source.Cut code) h = tt

done_is : (st : Stage) → is_done st ≡ true → st ≡ stage.Done
done_is stage.Reading e = absurd (cc)
done_is stage.Head e = absurd (cc)
done_is stage.Sending e = absurd (cc)
done_is stage.Done e = refl

undone : (st : Stage) → is_done st ≡ false → (st ≡ stage.Sending) ⊎ (st ≡ stage.Done) → st ≡ stage.Sending
undone st e (inl is) = is
undone st e (inr is) = absurd (let both : true ≡ false = sym (ap is_done is) ∙ e in cc both)

-- all is sent only of a source that has ended
pub sent_settled : (at : Place) (lane : LaneState) → SoundAt at lane → sent_at at lane.stage ≡ true → IsSettled (source_at at lane.source)
sent_settled place.Reading lane s e = tt
sent_settled place.Sending lane s e = is_settled lane.source (s.sends.done (done_is lane.stage e))
sent_settled place.Idle lane s e = tt
sent_settled place.Replied lane s e = tt

abbrev pub SeenWaits : Place → LaneState → Type 0
SeenWaits at lane = (lane.output.items ≢ []) ⊎ ((source_at at lane.source ≡ source.Going) × (is_none lane.ended ≡ true) × (0 < lane.input.capacity - length lane.input.items))

some_text : (xs : List ℕ) → 0 < length xs → xs ≢ []
some_text [] h e = omega (arith, h)
some_text (x ∷ xs) h e = cc

goes_on_so : (at : Place) (lane : LaneState) → at ≡ place.Sending → GoesOn lane → SeenWaits at lane
goes_on_so at lane e (inl some) = inl (some_text lane.output.items some)
goes_on_so at lane e (inr (going, room, open_)) = inr (ap (λ (a : Place). source_at a lane.source) e ∙ going, ap is_none open_, omega (arith, room))

step_waits : (at : Place) (old new : LaneState) → at ≡ place.Sending → Steps old new → SoundAt at old → sent_at at new.stage ≡ false → SeenWaits at new
step_waits place.Reading old new e t s h = absurd (cc)
step_waits place.Sending old new e t s h = goes_on_so place.Sending new refl (t.goes_on s.past s.sends (undone new.stage h t.at))
step_waits place.Idle old new e t s h = absurd (cc)
step_waits place.Replied old new e t s h = absurd (cc)

step_settles : (at : Place) (old new : LaneState) → at ≡ place.Sending → Steps old new → StaysSettled (source_at at old.source) (source_at at new.source)
step_settles place.Reading old new e t = absurd (cc)
step_settles place.Sending old new e t = settles old.source new.source t.settled
step_settles place.Idle old new e t = absurd (cc)
step_settles place.Replied old new e t = absurd (cc)

step_unread : (at : Place) (old new : LaneState) → at ≡ place.Sending → Steps old new → unread_at at new.input.items ≤ unread_at at old.input.items
step_unread place.Reading old new e t = absurd (cc)
step_unread place.Sending old new e t = t.shrinks
step_unread place.Idle old new e t = absurd (cc)
step_unread place.Replied old new e t = absurd (cc)

pub step_keeps : (at : Place) (line : Buffer) (awaits untouched was : Bool) (old new : LaneState) → at ≡ place.Sending → Steps old new → SoundAt at old
    → KeepsRequest (seen (record { lane = old; place = at; line = line; awaits = awaits; at_rest = was; untouched = untouched })) (seen (record { lane = new; place = at; line = line; awaits = awaits; at_rest = true; untouched = untouched }))
step_keeps at line awaits untouched was old new e t s = record {
  is_open = ap is_none t.keeps.ended;
  dropped = t.dropped;
  drops = λ d. t.drops (sym t.dropped ∙ d);
  awaits = refl;
  line = refl;
  rests = refl;
  stays = step_settles at old new e t;
  unread = step_unread at old new e t;
  settled = λ sent. sent_settled at new (step_sound at old new e t s) sent;
  waits = λ sent. step_waits at old new e t s sent;
}

-- ---- where nothing is to go out

-- no text is put out
pub nothing_put : (at : Place) (line : Buffer) (awaits untouched was now : Bool) (lane : LaneState)
    → Puts (record { lane = lane; place = at; line = line; awaits = awaits; at_rest = was; untouched = untouched }) (record { lane = lane; place = at; line = line; awaits = awaits; at_rest = now; untouched = untouched })
nothing_put at line awaits untouched was now lane = record {
  put = [];
  window = sym (append-nil lane.output.items);
  stands = λ cfg vars came_ asking to_server reply h. record {
    is_for = h.is_for;
    at = subst (λ (text : List ℕ). StandsAt at cfg lane vars came_ asking text reply) (sym (append-nil to_server)) h.at;
    ending = h.ending;
    line = h.line;
    untouched = h.untouched;
  };
}

rest_waits : (at : Place) (lane : LaneState) → (at ≡ place.Sending → lane.stage ≢ stage.Sending) → SoundAt at lane → sent_at at lane.stage ≡ false → SeenWaits at lane
rest_waits place.Reading lane over s h = absurd (cc)
rest_waits place.Sending lane over s h = absurd (over refl (undone lane.stage h s.stage))
rest_waits place.Idle lane over s h = absurd (cc)
rest_waits place.Replied lane over s h = absurd (cc)

pub rest_keeps : (at : Place) (line : Buffer) (awaits untouched was : Bool) (lane : LaneState) → (at ≡ place.Sending → lane.stage ≢ stage.Sending) → SoundAt at lane
    → KeepsRequest (seen (record { lane = lane; place = at; line = line; awaits = awaits; at_rest = was; untouched = untouched })) (seen (record { lane = lane; place = at; line = line; awaits = awaits; at_rest = true; untouched = untouched }))
rest_keeps at line awaits untouched was lane over s = record {
  is_open = refl;
  dropped = refl;
  drops = λ d. refl;
  awaits = refl;
  line = refl;
  rests = refl;
  stays = still (source_at at lane.source);
  unread = omega arith;
  settled = λ sent. sent_settled at lane s sent;
  waits = λ sent. rest_waits at lane over s sent;
}
