-- Behind a call of work nothing is held back.
use Rattle.std.proofs.Common.{◌≡◌, ◌⊎◌, inl, inr, Bool, true, false, if◌then◌else◌, List, ℕ, Option, Some, None, sym, ap, ◌∙◌, subst, refl}
use Rattle.px_sample.specs.Variables.{Variables}
use Rattle.http_rules.specs.declared.config.Config.{Config}
use Rattle.http_rules.specs.Lives.{answering}
use Rattle.forward_core.specs.Meaning.Product.{meaning_of}
use Rattle.session_model.specs.Stream.{Stream}
use Rattle.session_core.specs.History.{Past, Coming, Continues}
use Rattle.session_core.specs.InHand.{ReadsInHand, ServesInHand}
use Rattle.session_core.specs.Place.{IsPlaced, place_serving, Serves, Says, Reads}
use Rattle.session_core.specs.Sided.{Sided, asker_in, RequestAsks, IsUncut}
use Rattle.session_core.specs.Stands.{Serves as ServesSo}
use Rattle.session_core.specs.Waits.{Settled, RequestWaits, AnswerWaitsAt, is_turned}
use Rattle.session_core.specs.declared.Phase.{Phase}
use Rattle.session_core.specs.declared.Phase.TheVariants as phase
use Rattle.http_model.specs.declared.Source.{Source}
use Rattle.http_model.specs.declared.Source.TheVariants as source
use Rattle.session_core.specs.declared.Told.TheVariants as told
use Rattle.session_core.specs.declared.machine.At.{At}
use Rattle.lane.specs.Answering.{source_of, has_begun}
use Rattle.forward_core.specs.Request.Shown.{ShowsNoCut, PutsAll, NoHeadCame}
use Rattle.forward_core.specs.Answer.Resting.{AwaitsHead, PutsOutBody}
use Rattle.forward_core.specs.Answer.Seen.{seen, told_at, place_of}
use Rattle.forward_core.specs.Answer.Stands.{IsSoundSide, FitsAt, is_serving}
use Rattle.forward_core.specs.declared.answer.place.Place.{Place as Answered}
use Rattle.forward_core.specs.declared.answer.place.Place.TheVariants as answered
use Rattle.forward_core.specs.declared.answer.side.AnswerSide.{AnswerSide}
use Rattle.forward_core.specs.Joined.HeldBack.{HasWorked, IsServed, IsUncutSoFar, IsSentSoFar, AwaitsAnswer, IsAnsweredSoFar, AwaitsRequest}
use Rattle.forward_core.specs.Joined.Joined.{SessionStands, Placed, IsAt, request_of, answer_of}
use Rattle.forward_core.specs.declared.joined.directions.Directions.{Directions}

-- ---- while a server is open

abbrev pub Served : Config → ℕ → Directions → At → Past → Type 0
Served cfg size d at past = ServesInHand (meaning_of cfg) (SessionStands (cfg, size) d) (request_of d) (answer_of d) at past

-- where both directions stand, and that the request direction is at rest
pub record RestsSending (d : Directions) : Type 0 where
  pub is_at : IsAt d Serves
  pub request : (request_of d).at_rest ≡ true

pub rests_sending : (cfg : Config) (size : ℕ) (d : Directions) (at : At) (past : Past) → HasWorked cfg size d at past → at.phase ≡ phase.Serving → at.cut ≡ None → RestsSending d
rests_sending cfg size d at past h is uncut =
    let placed : Placed d (place_serving at.cut) = subst (λ (f : Phase). IsPlaced (Placed d) (answer_of d) f at.cut) is h.placed in
    let there : Placed d Serves = subst (λ (x : Option Bool). Placed d (place_serving x)) uncut placed in
    let settled : RequestWaits (request_of d) × AnswerWaitsAt at.cut (answer_of d) = subst (λ (f : Phase). Settled f at.cut (request_of d) (answer_of d)) is h.settled in
    record { is_at = there.is_at; request = settled.0.0 }

-- where both directions stand, and that the answer direction is at rest
pub record RestsAnswering (d : Directions) : Type 0 where
  pub is_at : IsAt d Serves
  pub answer : (answer_of d).at_rest ≡ true

pub rests_answering : (cfg : Config) (size : ℕ) (d : Directions) (at : At) (past : Past) → HasWorked cfg size d at past → at.phase ≡ phase.Serving → is_turned at.cut ≡ false → RestsAnswering d
rests_answering cfg size d at past h is unturned =
    let placed : Placed d (place_serving at.cut) = subst (λ (f : Phase). IsPlaced (Placed d) (answer_of d) f at.cut) is h.placed in
    let there : Placed d Serves = subst (λ (b : Bool). Placed d (if b then Says else Serves)) unturned placed in
    let settled : RequestWaits (request_of d) × AnswerWaitsAt at.cut (answer_of d) = subst (λ (f : Phase). Settled f at.cut (request_of d) (answer_of d)) is h.settled in
    record { is_at = there.is_at; answer = settled.1.0 unturned }

-- no refusal took the place of an answer that goes on: a refusal closes
unturned_by : (b : Bool) (d : Directions) → Placed d (if b then Says else Serves) → (answer_of d).told ≡ told.Going → b ≡ false
unturned_by false d placed tells = refl
unturned_by true d placed tells =
    let closes : told_at (place_of d.answer) (source_of d.answer.lane) ≡ told.Closes = ap (λ (pl : Answered). told_at pl (source_of d.answer.lane)) placed.is_at.stand.1 in
    absurd (let both : told.Closes ≡ told.Going = sym closes ∙ tells in cc both)

pub is_unturned : (cfg : Config) (size : ℕ) (d : Directions) (at : At) (past : Past) → HasWorked cfg size d at past → at.phase ≡ phase.Serving → (answer_of d).told ≡ told.Going → is_turned at.cut ≡ false
is_unturned cfg size d at past h is tells =
    let placed : Placed d (place_serving at.cut) = subst (λ (f : Phase). IsPlaced (Placed d) (answer_of d) f at.cut) is h.placed in
    unturned_by (is_turned at.cut) d placed tells

abbrev pub is_served : (cfg : Config) (size : ℕ) (d : Directions) (at : At) (past : Past) → Served cfg size d at past → IsServed cfg past
is_served cfg size d at past s =
    let p = s.sided in
    record {
      in_hand = s.in_hand;
      connect = s.connect;
      now = s.now;
      there = s.there;
      asking = p.asking;
      asks = subst (λ (v : Variables). (stream : Stream) → Continues s.in_hand.came stream → RequestAsks (meaning_of cfg) v p.asking stream) (sym s.vars)
          (subst (λ (c : Coming). (stream : Stream) → Continues c stream → RequestAsks (meaning_of cfg) p.vars p.asking stream) (sym s.came) s.asks);
    }

uncut_so : (A : Type 0) (so : Source) → IsUncut so → (so ≡ source.Going → A) → (so ≡ source.Whole) ⊎ A
uncut_so A source.Going u f = inr (f refl)
uncut_so A source.Whole u f = inl refl
uncut_so A (source.Cut code) u f = absurd u

is_uncut : (cfg : Config) (size : ℕ) (d : Directions) (at : At) (past : Past) → at.cut ≡ None → (s : Served cfg size d at past) → IsUncut (request_of d).source
is_uncut cfg size d at past uncut s = (subst (λ (x : Option Bool). ServesSo (meaning_of cfg) (request_of d) (answer_of d) s.sided x) uncut s.serves).2

-- a request that goes on was not met as cut
unmet_by : (cfg : Config) (d : Directions) (p : Sided (meaning_of cfg)) (cut : Option Bool) → ServesSo (meaning_of cfg) (request_of d) (answer_of d) p cut → (request_of d).source ≡ source.Going → cut ≡ None
unmet_by cfg d p None s going = refl
unmet_by cfg d p (Some true) s going = absurd (let both : source.Cut s.2 ≡ source.Going = sym s.3 ∙ going in cc both)
unmet_by cfg d p (Some false) s going = absurd (let both : source.Cut s.1 ≡ source.Going = sym s.2 ∙ going in cc both)

pub is_unmet : (cfg : Config) (size : ℕ) (d : Directions) (at : At) (past : Past) → (s : Served cfg size d at past) → (request_of d).source ≡ source.Going → at.cut ≡ None
is_unmet cfg size d at past s going = unmet_by cfg d s.sided at.cut s.serves going

pub uncut_so_far : (cfg : Config) (size : ℕ) (d : Directions) (at : At) (past : Past) → at.cut ≡ None → (s : Served cfg size d at past)
    → ((request_of d).source ≡ source.Going → ShowsNoCut cfg s.sided.came s.sided.asking) → IsUncutSoFar cfg (request_of d).source past
uncut_so_far cfg size d at past uncut s shows =
    let p = s.sided in
    let A : Type 0 = ShowsNoCut cfg s.in_hand.came p.asking in
    record {
      served = is_served cfg size d at past s;
      shows = uncut_so A (request_of d).source (is_uncut cfg size d at past uncut s) (λ e. subst (λ (c : Coming). ShowsNoCut cfg c p.asking) (sym s.came) (shows e));
    }

pub sent_so_far : (cfg : Config) (size : ℕ) (d : Directions) (at : At) (past : Past) → (s : Served cfg size d at past) → PutsAll cfg s.sided.came s.sided.asking s.sided.to_server → IsSentSoFar cfg (request_of d).window past
sent_so_far cfg size d at past s puts =
    let p = s.sided in
    record {
      served = is_served cfg size d at past s;
      puts = subst (λ (xs : List ℕ). PutsAll cfg s.in_hand.came p.asking xs) (sym s.to_server) (subst (λ (c : Coming). PutsAll cfg c p.asking p.to_server) (sym s.came) puts);
    }

pub awaits_answer : (cfg : Config) (size : ℕ) (d : Directions) (at : At) (past : Past) → (s : Served cfg size d at past) → AwaitsHead cfg (asker_in s.sided.asking) s.sided.server s.sided.to_client
    → AwaitsAnswer cfg (answer_of d).window past
awaits_answer cfg size d at past s awaits =
    let p = s.sided in
    record {
      served = is_served cfg size d at past s;
      put = p.to_client;
      text = s.to_client;
      awaits = subst (λ (c : Coming). AwaitsHead cfg (asker_in p.asking) c p.to_client) (sym s.stream) awaits;
    }

pub answered_so_far : (cfg : Config) (size : ℕ) (d : Directions) (at : At) (past : Past) → (s : Served cfg size d at past)
    → PutsOutBody cfg (asker_in s.sided.asking) (answering s.sided.asking.vars) s.sided.server s.sided.to_client s.sided.now → IsAnsweredSoFar cfg (answer_of d).window past
answered_so_far cfg size d at past s puts =
    let p = s.sided in
    record {
      served = is_served cfg size d at past s;
      put = p.to_client;
      text = s.to_client;
      now = p.now;
      puts = subst (λ (c : Coming). PutsOutBody cfg (asker_in p.asking) (answering p.asking.vars) c p.to_client p.now) (sym s.stream) puts;
    }

-- a response goes out
response_at : (pl : Answered) (side : AnswerSide) (body : Source) → FitsAt pl side → is_serving pl ≡ true → told_at pl body ≡ told.Going → has_begun side.lane ≡ true → pl ≡ answered.Response
response_at answered.Idle side body fits serves tells begun = absurd (let e : false ≡ true = serves in cc e)
response_at answered.Heads side body fits serves tells begun = absurd (let e : false ≡ true = sym fits.0 ∙ begun in cc e)
response_at answered.Response side body fits serves tells begun = refl
response_at answered.Closing side body fits serves tells begun = absurd (let e : told.Closes ≡ told.Going = tells in cc e)
response_at answered.Keeping side body fits serves tells begun = absurd (let e : told.Whole ≡ told.Going = tells in cc e)
response_at answered.Saying side body fits serves tells begun = absurd (let e : false ≡ true = serves in cc e)

pub is_response : (side : AnswerSide) → IsSoundSide side → is_serving (place_of side) ≡ true → (seen side).told ≡ told.Going → (seen side).begun ≡ true → place_of side ≡ answered.Response
is_response side sound serves tells begun = response_at side.place side (source_of side.lane) sound.at serves tells begun

-- ---- while a head is awaited

pub record RestsReading (d : Directions) : Type 0 where
  pub is_at : IsAt d Reads
  pub request : (request_of d).at_rest ≡ true

pub rests_reading : (cfg : Config) (size : ℕ) (d : Directions) (at : At) (past : Past) → HasWorked cfg size d at past → at.phase ≡ phase.Reading → RestsReading d
rests_reading cfg size d at past h is =
    let placed : Placed d Reads × (at.cut ≡ None) = subst (λ (f : Phase). IsPlaced (Placed d) (answer_of d) f at.cut) is h.placed in
    let settled : Settled phase.Reading at.cut (request_of d) (answer_of d) = subst (λ (f : Phase). Settled f at.cut (request_of d) (answer_of d)) is h.settled in
    record { is_at = placed.0.is_at; request = settled.0 }

pub awaits_request : (cfg : Config) (size : ℕ) (d : Directions) (at : At) (past : Past) → (s : ReadsInHand (meaning_of cfg) (SessionStands (cfg, size) d) (answer_of d) at past) → NoHeadCame cfg s.sided.came → AwaitsRequest cfg past
awaits_request cfg size d at past s awaits =
    record { in_hand = s.in_hand; no_connect = s.no_connect; awaits = subst (λ (c : Coming). NoHeadCame cfg c) (sym s.came) awaits }
