-- Steps of the request direction, and what is dropped of it.
use Rattle.std.proofs.Common.{◌≡◌, ◌≢◌, ◌⊎◌, inl, inr, ℕ, List, [], ◌++◌, Bool, true, false, not, ◌&&◌, refl, sym, ap, ◌∙◌, subst, append-nil}
use Rattle.px_sample.specs.Variables.{Variables}
use Rattle.http_rules.specs.declared.config.Config.{Config}
use Rattle.forward_core.specs.Meaning.Product.{meaning_of}
use Rattle.session_model.specs.Stream.{Stream}
use Rattle.session_model.specs.Meaning.{Meaning}
use Rattle.session_core.specs.History.{Coming, Continues}
use Rattle.session_core.specs.Sided.{Sided, Asking, Reply, RequestGoes, Requests}
use Rattle.http_model.specs.declared.Source.{Source}
use Rattle.lane.specs.Direction.Sends.{Past}
use Rattle.lane.specs.declared.direction.stage.Stage.{Stage}
use Rattle.lane.specs.Direction.State.{LaneState}
use Rattle.forward_core.specs.Request.Seen as requests
use Rattle.forward_core.specs.Request.Seen.{source_at, sent_at, window_of}
use Rattle.forward_core.specs.Request.Stands.{IsSound, SoundAt, RequestStands, StandsAt, HasPut}
use Rattle.forward_core.specs.Request.Steps.{RequestsSo}
use Rattle.forward_core.specs.declared.request.place.Place.{Place as Asked}
use Rattle.forward_core.specs.declared.request.place.Place.TheVariants as asked
use Rattle.forward_core.specs.declared.request.side.RequestSide.{RequestSide}

-- where no request goes out, what is seen of it doesn't hang on its lane, and nothing is put out
still_source : (pl : Asked) (x y : Source) → pl ≢ asked.Sending → source_at pl x ≡ source_at pl y
still_source asked.Reading x y idle = refl
still_source asked.Sending x y idle = absurd (idle refl)
still_source asked.Idle x y idle = refl
still_source asked.Replied x y idle = refl

still_sent : (pl : Asked) (x y : Stage) → pl ≢ asked.Sending → sent_at pl x ≡ sent_at pl y
still_sent asked.Reading x y idle = refl
still_sent asked.Sending x y idle = absurd (idle refl)
still_sent asked.Idle x y idle = refl
still_sent asked.Replied x y idle = refl

still_window : (pl : Asked) (lane : LaneState) → SoundAt pl lane → pl ≢ asked.Sending → lane.output.items ≡ []
still_window asked.Reading lane h idle = h.1
still_window asked.Sending lane h idle = absurd (idle refl)
still_window asked.Idle lane h idle = h
still_window asked.Replied lane h idle = h

none_put : (old new put : List ℕ) → new ≡ old ++ put → old ≡ [] → new ≡ [] → put ≡ []
none_put old new put w o n = sym (ap (λ (xs : List ℕ). xs ++ put) o) ∙ sym w ∙ n

abbrev RequestsWith : (M : Meaning) (p : Sided M) (so : Source) (sent dropped : Bool) (put : List ℕ) → Type 0
RequestsWith M p so sent dropped put = (stream : Stream) → Continues p.came stream → RequestGoes M so (sent && not dropped) dropped p.vars p.asking put stream

requests_same : (M : Meaning) (p : Sided M) (so so' : Source) (sent sent' dropped dropped' : Bool) (put put' : List ℕ)
    → so' ≡ so → sent' ≡ sent → dropped' ≡ dropped → put' ≡ put
    → ((stream : Stream) → Continues p.came stream → RequestGoes M so (sent && not dropped) dropped p.vars p.asking put stream)
    → (stream : Stream) → Continues p.came stream → RequestGoes M so' (sent' && not dropped') dropped' p.vars p.asking put' stream
requests_same M p so so' sent sent' dropped dropped' put put' a b c d h =
    subst (λ (x : Source). RequestsWith M p x sent' dropped' put') (sym a)
    (subst (λ (x : Bool). RequestsWith M p so x dropped' put') (sym b)
    (subst (λ (x : Bool). RequestsWith M p so sent x put') (sym c)
    (subst (λ (x : List ℕ). RequestsWith M p so sent dropped x) (sym d) h)))

-- a step leaves what was put out a front of the request
pub requests_on : (cfg : Config) (old new : RequestSide) (p : Sided (meaning_of cfg)) (put : List ℕ) → IsSound old → IsSound new → requests.place_of new ≡ requests.place_of old
    → new.lane.dropped ≡ old.lane.dropped → window_of new ≡ window_of old ++ put
    → (requests.place_of new ≡ asked.Sending → RequestsSo cfg new p.vars p.came p.asking (p.to_server ++ put))
    → Requests (meaning_of cfg) (requests.seen old) p → (at : (requests.place_of new ≡ asked.Sending) ⊎ (requests.place_of new ≢ asked.Sending))
    → Requests (meaning_of cfg) (requests.seen new) (record p { to_server = p.to_server ++ put })
requests_on cfg old new p put s t place drops w law was (inl sends) = law sends
requests_on cfg old new p put s t place drops w law was (inr idle) =
    let idle_old = λ (e : requests.place_of old ≡ asked.Sending). idle (place ∙ e) in
    let none : put ≡ [] = none_put (window_of old) (window_of new) put w (still_window old.place old.lane s.at idle_old) (still_window new.place new.lane t.at idle) in
    requests_same (meaning_of cfg) p (requests.source_of old) (requests.source_of new) (sent_at old.place old.lane.stage) (sent_at new.place new.lane.stage)
    old.lane.dropped new.lane.dropped p.to_server (p.to_server ++ put)
    (ap (λ (x : Asked). source_at x new.lane.source) place ∙ still_source old.place new.lane.source old.lane.source idle_old)
    (ap (λ (x : Asked). sent_at x new.lane.stage) place ∙ still_sent old.place new.lane.stage old.lane.stage idle_old)
    drops
    (ap (λ (xs : List ℕ). p.to_server ++ xs) none ∙ append-nil p.to_server)
    was

pub sends_or_not : (pl : Asked) → (pl ≡ asked.Sending) ⊎ (pl ≢ asked.Sending)
sends_or_not asked.Reading = inr (λ (e : asked.Reading ≡ asked.Sending). cc e)
sends_or_not asked.Sending = inl refl
sends_or_not asked.Idle = inr (λ (e : asked.Idle ≡ asked.Sending). cc e)
sends_or_not asked.Replied = inr (λ (e : asked.Replied ≡ asked.Sending). cc e)

-- ---- what is dropped

put_by : (b : Bool) (lane : LaneState) (past : Past) (to_server : List ℕ) → (b ≡ true → lane.output.items ≡ []) → lane.output.items ≢ [] → HasPut b lane past to_server
    → (put : List ℕ) × (put ++ lane.output.items ≡ to_server)
put_by false lane past to_server drops some h = (past.took, sym h)
put_by true lane past to_server drops some h = absurd (some (drops refl))

put_at : (pl : Asked) (cfg : Config) (lane : LaneState) (vars : Variables) (came : Coming) (asking : Asking Variables) (to_server : List ℕ) (reply : Reply Variables)
    → SoundAt pl lane → lane.output.items ≢ [] → StandsAt pl cfg lane vars came asking to_server reply → (put : List ℕ) × (put ++ lane.output.items ≡ to_server)
put_at asked.Reading cfg lane vars came asking to_server reply s some h = absurd (some s.1)
put_at asked.Sending cfg lane vars came asking to_server reply s some h = put_by lane.dropped lane h.past to_server s.drops some h.put
put_at asked.Idle cfg lane vars came asking to_server reply s some h = absurd (some s)
put_at asked.Replied cfg lane vars came asking to_server reply s some h = absurd (some s)

-- what the server took stands in front of what waits for it
pub was_put : (cfg : Config) (side : RequestSide) (vars : Variables) (came : Coming) (asking : Asking Variables) (to_server : List ℕ) (reply : Reply Variables)
    → IsSound side → window_of side ≢ [] → RequestStands cfg side vars came asking to_server reply → (put : List ℕ) × (put ++ window_of side ≡ to_server)
was_put cfg side vars came asking to_server reply s some h = put_at side.place cfg side.lane vars came asking to_server reply s.at some h.at
