-- Heads of a server are read.
use Rattle.std.proofs.Common.{◌≡◌, ◌≢◌, ◌⊎◌, inl, inr, ℕ, List, [], ◌∷◌, ◌++◌, Bool, true, false, refl, sym, ap, ◌∙◌, subst, append_assoc, length, arith, map, if◌then◌else◌}
use Rattle.std.specs.Prelude.{Some, is_none}
use Rattle.std.proofs.lemmas.List.{append-nil, map-append}
use Rattle.http_model.specs.Head.{Head}
use Rattle.http_model.specs.Finish.{finish_interim}
use Rattle.http_model.specs.Reading.{Received}
use Rattle.body_filter.specs.declared.filter_spec.FilterSpec.{FilterSpec}
use Rattle.px_sample.specs.Variables.{Variables}
use Rattle.http_rules.specs.declared.config.Config.{Config}
use Rattle.http_rules.specs.Lives.{answering}
use Rattle.session_core.specs.History.{Coming}
use Rattle.session_core.specs.Sided.{Asking, asker_in, Saying}
use Rattle.lane.specs.declared.direction.stage.Stage.{Stage}
use Rattle.lane.specs.declared.direction.stage.Stage.TheVariants as stage
use Rattle.http_model.specs.declared.Source.TheVariants as source
use Rattle.lane.specs.Answering.{Exchange, Answers, HasFilters, IsSoundAnswer, IsSoundAt, IsAmongHeads, MayGoOn, NotYet, ended_of, limits_of, phase_of, stage_of, source_of, shows_last, output_of, framing_of, declared_of, passes, drops, with_put}
use Rattle.lane.specs.declared.phase.Phase.{Phase}
use Rattle.lane.specs.declared.phase.Phase.TheVariants as phase
use Rattle.lane.specs.declared.response_lane.ResponseLane.{ResponseLane}
use Rattle.forward_core.specs.Answer.Seen.{seen}
use Rattle.forward_core.specs.Answer.Stands.{IsAsker, IsFor, IsInHand, StandsAt, AnswerStands, FitsAt, IsSoundSide}
use Rattle.forward_core.specs.Answer.HeadsRead.{HeardAt}
use Rattle.forward_core.specs.Answer.Hearing.{IsBetween, IsRead, HeadSays, Hears, WaitsForHead}
use Rattle.forward_core.specs.declared.answer.hearing.Heard.{Heard}
use Rattle.forward_core.specs.declared.answer.place.Place.{Place}
use Rattle.forward_core.specs.declared.answer.place.Place.TheVariants as place
use Rattle.forward_core.specs.declared.answer.side.AnswerSide.{AnswerSide}
use Rattle.forward_core.proofs.AnswerLemmas.Events.{for_new}
use Rattle.forward_core.proofs.AnswerLemmas.HeardLemmas.{heard_puts, heard_heads, has_read}
use Rattle.forward_core.proofs.AnswerLemmas.Putting.{Puts, in_hand_puts}
use Rattle.forward_core.proofs.AnswerLemmas.Views.{at_place, fits_same}

-- ---- while heads are read

-- what a side stands for there
pub record InHeads (cfg : Config) (side : AnswerSide) (asking : Asking Variables) (server : Coming) (put : List ℕ) : Type 0 where
  pub asks : IsAsker side.asker (asker_in asking)
  pub for_it : IsFor cfg side.lane
  pub e : Exchange
  pub in_hand : IsInHand (asker_in asking) side.lane server put e
  pub last : e.last ≡ NotYet
  pub heard : HeardAt side.heard place.Heads cfg (asker_in asking) side.lane server

pub in_heads : (cfg : Config) (side : AnswerSide) (asking : Asking Variables) (server : Coming) (put : List ℕ) (now : Variables) (saying : Saying) → side.place ≡ place.Heads → AnswerStands cfg side asking server put now saying → InHeads cfg side asking server put
in_heads cfg side asking server put now saying heads s =
    let at : StandsAt place.Heads side.status cfg (asker_in asking) (answering asking.vars) side.lane server put now saying =
    subst (λ (p : Place). StandsAt p side.status cfg (asker_in asking) (answering asking.vars) side.lane server put now saying) heads s.at in
    record { asks = s.asks; for_it = s.for_it; e = at.0; in_hand = at.1; last = at.2; heard = subst (λ (p : Place). HeardAt side.heard p cfg (asker_in asking) side.lane server) heads s.heard }

pub stands_in : (cfg : Config) (side : AnswerSide) (asking : Asking Variables) (server : Coming) (put : List ℕ) (now : Variables) (saying : Saying) → side.place ≡ place.Heads → side.at_rest ≡ false → InHeads cfg side asking server put → AnswerStands cfg side asking server put now saying
stands_in cfg side asking server put now saying heads stirs h =
    record {
      asks = h.asks;
      for_it = h.for_it;
      at = subst (λ (p : Place). StandsAt p side.status cfg (asker_in asking) (answering asking.vars) side.lane server put now saying) (sym heads) (h.e, h.in_hand, h.last);
      heard = subst (λ (p : Place). HeardAt side.heard p cfg (asker_in asking) side.lane server) (sym heads) h.heard;
      rests = λ rest. absurd (let both : false ≡ true = sym stirs ∙ rest in cc both);
    }

-- ---- a step begins

pub stirred : (cfg : Config) (side : AnswerSide) (asking : Asking Variables) (server : Coming) (put : List ℕ) (now : Variables) (saying : Saying) → AnswerStands cfg side asking server put now saying
    → AnswerStands cfg (record side { at_rest = false }) asking server put now saying
stirred cfg side asking server put now saying s =
    record { asks = s.asks; for_it = s.for_it; at = s.at; heard = s.heard; rests = λ rest. absurd (let both : false ≡ true = rest in cc both) }

pub stirred_sound : (side : AnswerSide) → IsSoundSide side → IsSoundSide (record side { at_rest = false })
stirred_sound side s =
    record { lane = s.lane; open_is = s.open_is; at = fits_same side.place side (record side { at_rest = false }) refl refl refl refl refl s.at }

-- ---- between

first_unbegun : (ph : Phase) (lane : ResponseLane) → shows_last ph ≡ false → IsSoundAt ph lane → lane.begun ≡ false
first_unbegun phase.Heads lane e s = s.3
first_unbegun phase.Passing lane e s = s.1
first_unbegun (phase.Turning no_body) lane e s = s.1
first_unbegun phase.Answering lane e s = absurd (let both : true ≡ false = e in cc both)

-- a side whose lane goes on reading heads
pub between_on : (old new : AnswerSide) → IsBetween old → new.place ≡ old.place → new.open ≡ old.open → new.at_rest ≡ old.at_rest → ended_of new.lane ≡ ended_of old.lane → IsSoundAnswer new.lane → shows_last (phase_of new.lane) ≡ false → IsBetween new
between_on old new b places opens stirs ended sound first =
    record {
      lane = sound;
      open_is = opens ∙ b.open_is ∙ ap is_none (sym ended);
      place = places ∙ b.place;
      begun = first_unbegun new.lane.phase new.lane first sound.at;
      first = first;
      stirs = stirs ∙ b.stirs;
    }

pub between_sound : (side : AnswerSide) → IsSoundSide side → side.place ≡ place.Heads → side.at_rest ≡ false → IsBetween side
between_sound side s heads stirs =
    let f : FitsAt place.Heads side = at_place place.Heads side heads s.at in
    record { lane = s.lane; open_is = s.open_is; place = heads; begun = f.0; first = f.1; stirs = stirs }

-- where the lane sends, or reads
pub fits_sending : (side : AnswerSide) → IsBetween side → stage_of side.lane ≡ stage.Sending → FitsAt place.Heads side
fits_sending side b sends = (
  b.begun,
  b.first,
  λ done. (let both : stage.Sending ≡ stage.Done = sym sends ∙ done in cc both),
  λ head. (let both : stage.Sending ≡ stage.Head = sym sends ∙ head in cc both),
)

pub fits_reading : (side : AnswerSide) → IsBetween side → stage_of side.lane ≡ stage.Reading → FitsAt place.Heads side
fits_reading side b reads = (
  b.begun,
  b.first,
  λ done. (let both : stage.Reading ≡ stage.Done = sym reads ∙ done in cc both),
  λ head. (let both : stage.Reading ≡ stage.Head = sym reads ∙ head in cc both),
)

-- ---- waiting

-- an interim head that goes out has come whole
pub showing_whole : (ph : Phase) (lane : ResponseLane) → shows_last ph ≡ false → stage_of lane ≡ stage.Sending → IsSoundAt ph lane → source_of lane ≡ source.Whole
showing_whole phase.Heads lane e sends s = absurd (s.1 sends)
showing_whole phase.Passing lane e sends s = s.2
showing_whole (phase.Turning no_body) lane e sends s = s.2
showing_whole phase.Answering lane e sends s = absurd (let both : true ≡ false = e in cc both)

pub waits_on : (side : AnswerSide) → MayGoOn side.lane → WaitsForHead side
waits_on side (inl some) = inl (λ none. (let e : length (output_of side.lane) ≡ 0 = ap length none in omega (arith, some, e)))
waits_on side (inr (going, room, open_)) = inr (ap is_none open_, omega (arith, room))

-- ---- interim heads

-- more of an interim head is put out
pub puts_more : (cfg : Config) (old new : AnswerSide) (asking : Asking Variables) (server : Coming) (put more : List ℕ) → new.asker ≡ old.asker → new.heard ≡ old.heard → Puts old.lane new.lane more → limits_of new.lane ≡ limits_of old.lane
    → ((filters : List FilterSpec) → HasFilters old.lane filters → HasFilters new.lane filters) → InHeads cfg old asking server put → InHeads cfg new asking server (put ++ more)
puts_more cfg old new asking server put more same told t limits filters h =
    record {
      asks = subst (λ a. IsAsker a (asker_in asking)) (sym same) h.asks;
      for_it = for_new cfg old.lane new.lane limits filters h.for_it;
      e = with_put h.e more;
      in_hand = in_hand_puts (asker_in asking) old.lane new.lane server put h.e more t h.in_hand;
      last = h.last;
      heard = subst (λ (b : Bool). HeardAt b place.Heads cfg (asker_in asking) new.lane server) (sym told) (heard_puts old.heard place.Heads cfg (asker_in asking) old.lane new.lane server more t h.heard);
    }

sent_one : (eleven : Bool) (heads : List Head) (head : Head) → eleven ≡ true → (if eleven then map finish_interim heads else []) ++ finish_interim head ∷ [] ≡ (if eleven then map finish_interim (heads ++ head ∷ []) else [])
sent_one true heads head e = sym (map-append finish_interim heads (head ∷ []))
sent_one false heads head e = absurd (let both : false ≡ true = e in cc both)

sent_none : (eleven : Bool) (heads : List Head) (head : Head) → eleven ≡ false → (if eleven then map finish_interim heads else []) ≡ (if eleven then map finish_interim (heads ++ head ∷ []) else [])
sent_none false heads head e = refl
sent_none true heads head e = absurd (let both : true ≡ false = e in cc both)

-- an interim head goes to an HTTP/1.1 client
pub passes_on : (cfg : Config) (old new : AnswerSide) (asking : Asking Variables) (server : Coming) (put : List ℕ) (received : Received) → new.asker ≡ old.asker → new.heard ≡ old.heard → ended_of new.lane ≡ ended_of old.lane → limits_of new.lane ≡ limits_of old.lane
    → ((filters : List FilterSpec) → HasFilters old.lane filters → HasFilters new.lane filters) → old.asker.is_http_11 ≡ true → (r : IsRead cfg old asking server put received) → Answers new.lane (passes r.e received) → InHeads cfg new asking server put
passes_on cfg old new asking server put received same told ended limits filters eleven r a =
    record {
      asks = subst (λ a. IsAsker a (asker_in asking)) (sym same) r.asks;
      for_it = for_new cfg old.lane new.lane limits filters r.for_it;
      e = passes r.e received;
      in_hand = record {
        answers = a;
        asked = r.in_hand.asked;
        bytes = r.in_hand.bytes;
        ending = ended ∙ r.in_hand.ending;
        passed = ap (λ hs. hs ++ finish_interim received.head ∷ []) r.in_hand.passed ∙ sent_one (asker_in asking).is_http_11 r.e.read received.head (sym r.asks.is_http_11 ∙ eleven);
        put_is = r.in_hand.put_is;
      };
      last = r.last;
      heard = subst (λ (b : Bool). HeardAt b place.Heads cfg (asker_in asking) new.lane server) (sym (told ∙ r.is_heard)) (record { ending = ended ∙ r.has_read.ending; begins = r.has_read.begins });
    }

-- and nowhere where its client is HTTP/1.0
pub drops_on : (cfg : Config) (old new : AnswerSide) (asking : Asking Variables) (server : Coming) (put : List ℕ) (received : Received) → new.asker ≡ old.asker → new.heard ≡ old.heard → ended_of new.lane ≡ ended_of old.lane → limits_of new.lane ≡ limits_of old.lane
    → ((filters : List FilterSpec) → HasFilters old.lane filters → HasFilters new.lane filters) → old.asker.is_http_11 ≡ false → (r : IsRead cfg old asking server put received) → Answers new.lane (drops r.e received) → InHeads cfg new asking server put
drops_on cfg old new asking server put received same told ended limits filters ten r a =
    record {
      asks = subst (λ a. IsAsker a (asker_in asking)) (sym same) r.asks;
      for_it = for_new cfg old.lane new.lane limits filters r.for_it;
      e = drops r.e received;
      in_hand = record {
        answers = a;
        asked = r.in_hand.asked;
        bytes = r.in_hand.bytes;
        ending = ended ∙ r.in_hand.ending;
        passed = r.in_hand.passed ∙ sent_none (asker_in asking).is_http_11 r.e.read received.head (sym r.asks.is_http_11 ∙ ten);
        put_is = r.in_hand.put_is;
      };
      last = r.last;
      heard = subst (λ (b : Bool). HeardAt b place.Heads cfg (asker_in asking) new.lane server) (sym (told ∙ r.is_heard)) (record { ending = ended ∙ r.has_read.ending; begins = r.has_read.begins });
    }

-- ---- one after the other

-- what is heard behind a side that had put out so much
pub hears_behind : (cfg : Config) (old mid new : AnswerSide) (asking : Asking Variables) (server : Coming) (put more : List ℕ) (now : Variables) (saying : Saying) (says : Heard) → (seen mid).window ≡ (seen old).window ++ more
    → Hears cfg mid new asking server (put ++ more) now saying says → Hears cfg old new asking server put now saying says
hears_behind cfg old mid new asking server put more now saying says window h =
    record {
      put = more ++ h.put;
      window = h.window ∙ ap (λ xs. xs ++ h.put) window ∙ append_assoc (seen old).window more h.put;
      tells = subst (λ xs. HeadSays says cfg new asking server xs now saying) (append_assoc put more h.put) h.tells;
    }

-- ---- stages

-- what doesn't send behind an interim head reads on
pub reads_on : (lane : ResponseLane) → IsAmongHeads lane → stage_of lane ≢ stage.Sending → stage_of lane ≡ stage.Reading
reads_on lane among off = by among.stage
  where
    by : (stage_of lane ≡ stage.Sending) ⊎ (stage_of lane ≡ stage.Reading) → stage_of lane ≡ stage.Reading
    by (inl sends) = absurd (off sends)
    by (inr reads) = reads

reads_by : (st : Stage) → st ≢ stage.Sending → st ≢ stage.Done → st ≢ stage.Head → st ≡ stage.Reading
reads_by stage.Reading sends done head = refl
reads_by stage.Head sends done head = absurd (head refl)
reads_by stage.Sending sends done head = absurd (sends refl)
reads_by stage.Done sends done head = absurd (done refl)

pub reads_first : (side : AnswerSide) → FitsAt place.Heads side → stage_of side.lane ≢ stage.Sending → stage_of side.lane ≡ stage.Reading
reads_first side f off = reads_by (stage_of side.lane) off f.2 f.3

-- ---- nothing is put out

pub hears_none : (cfg : Config) (old new : AnswerSide) (asking : Asking Variables) (server : Coming) (put : List ℕ) (now : Variables) (saying : Saying) (says : Heard) → (seen new).window ≡ (seen old).window → HeadSays says cfg new asking server put now saying → Hears cfg old new asking server put now saying says
hears_none cfg old new asking server put now saying says window tells =
    record {
      put = [];
      window = window ∙ sym (append-nil (seen old).window);
      tells = subst (λ xs. HeadSays says cfg new asking server xs now saying) (sym (append-nil put)) tells;
    }

-- more was put out of an interim head
pub hears_more : (cfg : Config) (old new : AnswerSide) (asking : Asking Variables) (server : Coming) (put more : List ℕ) (now : Variables) (saying : Saying) (says : Heard) → (seen new).window ≡ (seen old).window ++ more → new.place ≡ place.Heads → new.at_rest ≡ false
    → InHeads cfg new asking server (put ++ more) → (AnswerStands cfg new asking server (put ++ more) now saying → HeadSays says cfg new asking server (put ++ more) now saying) → Hears cfg old new asking server put now saying says
hears_more cfg old new asking server put more now saying says window heads stirs h tells = record { put = more; window = window; tells = tells (stands_in cfg new asking server (put ++ more) now saying heads stirs h) }

-- what is heard from a side with the same window
pub hears_from : (cfg : Config) (old mid new : AnswerSide) (asking : Asking Variables) (server : Coming) (put : List ℕ) (now : Variables) (saying : Saying) (says : Heard) → (seen mid).window ≡ (seen old).window
    → Hears cfg mid new asking server put now saying says → Hears cfg old new asking server put now saying says
hears_from cfg old mid new asking server put now saying says window h = record { put = h.put; window = h.window ∙ ap (λ xs. xs ++ h.put) window; tells = h.tells }

-- ---- a head is read

-- a lane that stands for the same exchange
pub stands_by : (cfg : Config) (old new : AnswerSide) (asking : Asking Variables) (server : Coming) (put : List ℕ) → new.asker ≡ old.asker → new.heard ≡ old.heard → ended_of new.lane ≡ ended_of old.lane → limits_of new.lane ≡ limits_of old.lane
    → ((filters : List FilterSpec) → HasFilters old.lane filters → HasFilters new.lane filters) → ((e : Exchange) → e.asked ≡ (asker_in asking).head_asked → Answers old.lane e → Answers new.lane e) → InHeads cfg old asking server put → InHeads cfg new asking server put
stands_by cfg old new asking server put same told ended limits filters answers h =
    record {
      asks = subst (λ a. IsAsker a (asker_in asking)) (sym same) h.asks;
      for_it = for_new cfg old.lane new.lane limits filters h.for_it;
      e = h.e;
      in_hand = record { answers = answers h.e h.in_hand.asked h.in_hand.answers; asked = h.in_hand.asked; bytes = h.in_hand.bytes; ending = ended ∙ h.in_hand.ending; passed = h.in_hand.passed; put_is = h.in_hand.put_is };
      last = h.last;
      heard = subst (λ (b : Bool). HeardAt b place.Heads cfg (asker_in asking) new.lane server) (sym told) (heard_heads old.heard cfg (asker_in asking) old.lane new.lane server ended answers h.heard);
    }

-- or for that in which this head was read
pub is_read : (cfg : Config) (old new : AnswerSide) (asking : Asking Variables) (server : Coming) (put : List ℕ) (received : Received) → new.asker ≡ old.asker → ended_of new.lane ≡ ended_of old.lane → limits_of new.lane ≡ limits_of old.lane
    → ((filters : List FilterSpec) → HasFilters old.lane filters → HasFilters new.lane filters) → (h : InHeads cfg old asking server put) → Answers new.lane (record h.e { pending = Some received })
    → IsSoundAnswer new.lane → shows_last (phase_of new.lane) ≡ false → stage_of new.lane ≡ stage.Head → new.heard ≡ true
    → framing_of new.lane ≡ received.framing → declared_of new.lane ≡ received.declared → IsRead cfg new asking server put received
is_read cfg old new asking server put received same ended limits filters h a sound first head told framing declared =
    let for : IsFor cfg new.lane = for_new cfg old.lane new.lane limits filters h.for_it in
    let e : Exchange = record h.e { pending = Some received } in
    let in_hand : IsInHand (asker_in asking) new.lane server put e =
    record { answers = a; asked = h.in_hand.asked; bytes = h.in_hand.bytes; ending = ended ∙ h.in_hand.ending; passed = h.in_hand.passed; put_is = h.in_hand.put_is } in
    record {
      asks = subst (λ a. IsAsker a (asker_in asking)) (sym same) h.asks;
      for_it = for;
      e = e;
      in_hand = in_hand;
      last = h.last;
      pending = refl;
      framing = framing;
      declared = declared;
      is_heard = told;
      has_read = has_read cfg (asker_in asking) new.lane server put e sound first head for in_hand;
    }
