-- What it says of a server's stream whether a response head was read.
use Rattle.std.proofs.Common.{◌≡◌, ◌≢◌, inl, inr, ℕ, ◌+◌, List, [], ◌∷◌, ◌++◌, Bool, true, false, refl, sym, ap, ◌∙◌, subst, length, length-append, arith}
use Rattle.std.proofs.lemmas.List.{append-nil}
use Rattle.http_model.specs.declared.Limits.{Limits}
use Rattle.http_model.specs.Head.{Head}
use Rattle.http_model.specs.Reading.{Received, Begins, Refused, Nothing}
use Rattle.h1_head.specs.Decides.{MayWait}
use Rattle.h1_head.specs.Kind.{response_heads}
use Rattle.px_sample.specs.Variables.{Variables}
use Rattle.http_rules.specs.declared.config.Config.{Config}
use Rattle.session_model.specs.Asking.{Asker}
use Rattle.session_core.specs.History.{Coming, broken}
use Rattle.session_core.specs.Sided.{Asking, asker_in, Saying}
use Rattle.session_core.proofs.PublicLaws.{continues_broken}
use Rattle.lane.specs.declared.direction.stage.Stage.TheVariants as stage
use Rattle.lane.specs.Answering.{Exchange, Answers, AnswersAt, IsSoundAnswer, stage_of, phase_of, shows_last, limits_of, input_of}
use Rattle.lane.specs.declared.phase.Phase.{Phase}
use Rattle.lane.specs.declared.phase.Phase.TheVariants as phase
use Rattle.lane.specs.declared.response_lane.ResponseLane.{ResponseLane}
use Rattle.lane.specs.AtReading.{AtReading}
use Rattle.lane.proofs.PublicLaws.{at_reading}
use Rattle.forward_core.specs.Answer.Stands.{IsFor, AnswerStands, IsSoundSide, FitsAt, HeadRests, RestsAt, is_serving}
use Rattle.forward_core.specs.Answer.HeadsRead.{BeginsWithHead, BeginsWithNone, HeadBegins, ReadsNone, IsUnread, HeardAt}
use Rattle.forward_core.specs.declared.answer.place.Place.{Place}
use Rattle.forward_core.specs.declared.answer.place.Place.TheVariants as place
use Rattle.forward_core.specs.declared.answer.side.AnswerSide.{AnswerSide}
use Rattle.forward_core.proofs.AnswerLemmas.HeardLemmas.{all_left}
use Rattle.forward_core.proofs.AnswerLemmas.RestLaws.{OneReading, waits_behind, none_begins}

-- ---- a head was read

pub head_begins : (cfg : Config) (side : AnswerSide) (asking : Asking Variables) (server : Coming) (put : List ℕ) (now : Variables) (saying : Saying) → AnswerStands cfg side asking server put now saying → side.heard ≡ true
    → HeadBegins cfg (asker_in asking) server
head_begins cfg side asking server put now saying s told =
    let h : HeardAt true side.place cfg (asker_in asking) side.lane server = subst (λ (b : Bool). HeardAt b side.place cfg (asker_in asking) side.lane server) told s.heard in
    h.begins

-- ---- none was

-- an interim head that goes out was read
none_ends : (heads : List Head) (head : Head) → heads ++ head ∷ [] ≢ []
none_ends heads head e =
    let n : length (heads ++ head ∷ []) ≡ 0 = ap length e in
    let m : length (heads ++ head ∷ []) ≡ length heads + 1 = length-append heads (head ∷ []) in
    omega (arith, n, m)

passed_some : (ph : Phase) (lane : ResponseLane) (e : Exchange) → shows_last ph ≡ false → stage_of lane ≡ stage.Sending → AnswersAt ph lane e → e.passed ≢ []
passed_some phase.Heads lane e first sends a = absurd (subst (λ st. Rattle.lane.specs.Answering.HeadsAt st lane.lane e) sends a.2)
passed_some phase.Passing lane e first sends a = λ none. none_ends a.0.before a.0.head (sym a.0.passed ∙ none)
passed_some (phase.Turning no_body) lane e first sends a = absurd (let both : true ≡ false = first in cc both)
passed_some phase.Answering lane e first sends a = absurd (let both : true ≡ false = first in cc both)

-- what is left of a stream of which none was read is all of it
unread_left : (lane : ResponseLane) (e : Exchange) → e.read ≡ [] → (r : AtReading lane e) → e.bytes ≡ r.left
unread_left lane e none r =
    sym (append-nil e.bytes) ∙ all_left e.asked lane.lane.limits e.read (e.bytes ++ []) (r.left ++ []) none (r.came [] (λ _. refl)) ∙ append-nil r.left

-- heads are read, and nothing was left undone: no head came
none_waits : (cfg : Config) (asker : Asker) (lane : ResponseLane) (server : Coming) → IsSoundAnswer lane → IsFor cfg lane → shows_last (phase_of lane) ≡ false → HeadRests asker.head_asked lane → IsUnread asker lane server → BeginsWithHead cfg asker server.bytes → ⊥
none_waits cfg asker lane server sound for first (inl shows) u h = passed_some lane.phase lane u.e first shows.0 u.answers u.passed
none_waits cfg asker lane server sound for first (inr waits) u h =
    let r : AtReading lane u.e = at_reading lane u.e sound waits.0 u.answers in
    let left : server.bytes ≡ r.left = sym u.bytes ∙ unread_left lane u.e u.read r in
    let w : MayWait (response_heads asker.head_asked) cfg.limits false r.left =
    subst (λ (l : Limits). MayWait (response_heads asker.head_asked) l false r.left) for.limits
    (waits_behind asker.head_asked (limits_of lane) r.left (input_of lane) r.same waits.2) in
    none_begins asker.head_asked cfg.limits server.bytes r.left h.0 h.1 left w h.2

not_refused : (got : Received) (rest : List ℕ) (code : ℕ) → Begins got rest ≡ Refused code → ⊥
not_refused got rest code e = cc e

not_nothing : (got : Received) (rest : List ℕ) → Begins got rest ≡ Nothing → ⊥
not_nothing got rest e = cc e

-- or there is none to be had
none_comes : OneReading → (cfg : Config) (asker : Asker) (lane : ResponseLane) (server : Coming) → ReadsNone cfg asker lane server → BeginsWithHead cfg asker server.bytes → ⊥
none_comes one cfg asker lane server n h = by (n.none (broken server) (continues_broken server))
  where
    by : BeginsWithNone cfg asker server.bytes → ⊥
    by (inl refused) = not_refused h.0 h.1 502 (one asker.head_asked cfg.limits server.bytes (Begins h.0 h.1) (Refused 502) h.2 refused)
    by (inr nothing) = not_nothing h.0 h.1 (one asker.head_asked cfg.limits server.bytes (Begins h.0 h.1) Nothing h.2 nothing)

unheard_at : (at : Place) (cfg : Config) (side : AnswerSide) (asker : Asker) (server : Coming) → OneReading → IsSoundAnswer side.lane → IsFor cfg side.lane → FitsAt at side → is_serving at ≡ true → RestsAt at asker.head_asked side.lane
    → HeardAt false at cfg asker side.lane server → BeginsWithHead cfg asker server.bytes → ⊥
unheard_at place.Idle cfg side asker server one sound for fits serves rests none h = let both : false ≡ true = serves in cc both
unheard_at place.Heads cfg side asker server one sound for fits serves rests none h = none_waits cfg asker side.lane server sound for fits.1 rests none h
unheard_at place.Response cfg side asker server one sound for fits serves rests none h = none_comes one cfg asker side.lane server none h
unheard_at place.Closing cfg side asker server one sound for fits serves rests none h = none_comes one cfg asker side.lane server none h
unheard_at place.Keeping cfg side asker server one sound for fits serves rests none h = none_comes one cfg asker side.lane server none h
unheard_at place.Saying cfg side asker server one sound for fits serves rests none h = let both : false ≡ true = serves in cc both

heard_if : (b : Bool) → (b ≡ false → ⊥) → b ≡ true
heard_if true off = refl
heard_if false off = absurd (off refl)

-- once all was done that could be, a head that came was read
pub heard_once : OneReading → (cfg : Config) (side : AnswerSide) (asking : Asking Variables) (server : Coming) (put : List ℕ) (now : Variables) (saying : Saying) → IsSoundSide side → AnswerStands cfg side asking server put now saying
    → is_serving side.place ≡ true → side.at_rest ≡ true → BeginsWithHead cfg (asker_in asking) server.bytes → side.heard ≡ true
heard_once one cfg side asking server put now saying sound s serves rest h =
    heard_if side.heard (λ told.
    unheard_at side.place cfg side (asker_in asking) server one sound.lane s.for_it sound.at serves (s.rests rest)
    (subst (λ (b : Bool). HeardAt b side.place cfg (asker_in asking) side.lane server) told s.heard) h)
