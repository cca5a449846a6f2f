-- What bytes that follow change of what is asked.
use Rattle.std.proofs.Common.{◌≡◌, ◌≢◌, ℕ, Bool, true, false, cond, List, [], ◌∷◌, ◌++◌, refl, sym, ap, subst, ◌∙◌, arith}
use Rattle.std.specs.List.{fold}
use Rattle.std.proofs.lemmas.List.{append-nil}
use Rattle.fcgi_record.specs.declared.record_kind.RecordKind.TheVariants.{Stdin}
use Rattle.fcgi_model.specs.Application.{Application}
use Rattle.fcgi_lane.specs.declared.request.state.RequestState.{RequestState}
use Rattle.fcgi_lane.specs.declared.request.state.RequestState.TheVariants as state
use Rattle.fcgi_model.specs.Records.{record_bytes, CarriesBody}
use Rattle.fcgi_model.specs.Body.{Place, Goes, leads, body_in, is_going, is_whole, InLength, InSize, BehindSize, InChunk, BehindChunk, BehindReturn, AtTrailer, InTrailer, BehindTrailer, AtLast, Whole, Broken}
use Rattle.fcgi_model.specs.Flow.{Asked, InHead, Behind, Refused, next, asked_of, body_end, IsSent}
use Rattle.fcgi_lane.specs.Request.Sending.{Continues}
use Rattle.fcgi_lane.specs.Request.Stands.{state_at, reading_of}
use Rattle.fcgi_lane.proofs.RequestLemmas.Bodies.{carries_none, carries_one, carries_both, continues_whole}
use Rattle.fcgi_lane.proofs.RequestLemmas.Feeding.{refused_stays, body_goes, body_sent}
use Rattle.fcgi_lane.proofs.RequestLemmas.Translating.{asked_more}

-- ---- behind an end

whole_stays : (bytes : List ℕ) → Goes Whole bytes Whole []
whole_stays [] = record { place = refl; found = refl }
whole_stays (b ∷ bytes) = let rest = whole_stays bytes in record { place = rest.place; found = rest.found }

broken_stays : (bytes : List ℕ) → Goes Broken bytes Broken []
broken_stays [] = record { place = refl; found = refl }
broken_stays (b ∷ bytes) = let rest = broken_stays bytes in record { place = rest.place; found = rest.found }

ended_stays : (place : Place) (bytes : List ℕ) → is_going place ≡ false → Goes place bytes place []
ended_stays Whole bytes h = whole_stays bytes
ended_stays Broken bytes h = broken_stays bytes
ended_stays (InLength left) bytes h = absurd cc
ended_stays (InSize some size) bytes h = absurd cc
ended_stays (BehindSize size) bytes h = absurd cc
ended_stays (InChunk left) bytes h = absurd cc
ended_stays BehindChunk bytes h = absurd cc
ended_stays BehindReturn bytes h = absurd cc
ended_stays AtTrailer bytes h = absurd cc
ended_stays InTrailer bytes h = absurd cc
ended_stays BehindTrailer bytes h = absurd cc
ended_stays AtLast bytes h = absurd cc

not_going : (going : Bool) (other : RequestState) → cond going state.Going other ≢ state.Going → going ≡ false
not_going true other h = absurd (h refl)
not_going false other h = refl

asked_stays : (application : Application) (asked : Asked) (more : List ℕ) → state_at (reading_of asked) ≢ state.Going → fold (next application) asked more ≡ asked
asked_stays application (InHead text) more h = absurd (h refl)
asked_stays application (Refused why) more h = refused_stays application why more
asked_stays application (Behind front body place) more h =
    let off : is_going place ≡ false = not_going (is_going place) (cond (is_whole place) state.Whole state.Broken) h in
    body_goes application front body place place more [] (ended_stays place more off) ∙ ap (λ (t : List ℕ). Behind front t place) (append-nil body)

pub what_follows : (application : Application) (bytes more : List ℕ) → state_at (reading_of (asked_of application bytes)) ≢ state.Going → asked_of application (bytes ++ more) ≡ asked_of application bytes
what_follows application bytes more h = asked_more application bytes more ∙ asked_stays application (asked_of application bytes) more h

-- ---- there are records

some_byte : (b : ℕ) → b ∷ [] ≢ []
some_byte b e = absurd cc

one_byte : (b : ℕ) → CarriesBody (b ∷ []) (record_bytes Stdin (b ∷ []))
one_byte b = carries_one (b ∷ []) (some_byte b) (omega arith)

some_records : (body : List ℕ) → (text : List ℕ) × CarriesBody body text
some_records [] = ([], carries_none)
some_records (b ∷ body) =
    let rest = some_records body in
    let one = one_byte b in
    (record_bytes Stdin (b ∷ []) ++ rest.0, carries_both (b ∷ []) body (record_bytes Stdin (b ∷ [])) rest.0 one rest.1)

first_records : (asked : Asked) → (sent : List ℕ) × IsSent asked sent
first_records (InHead text) = ([], refl)
first_records (Refused why) = ([], refl)
first_records (Behind front body place) =
    let some = some_records body in
    (front ++ (some.0 ++ body_end place), (some.0, some.1, refl))

-- the records that bytes of a body add
abbrev Adds : Place → List ℕ → Type 0
Adds place more = (to : Place) × (made : List ℕ) × Continues place more to made

added_by : (place : Place) (more : List ℕ) (whole : Bool) → is_whole place ≡ whole → Adds place more
added_by place more true is = (place, [], continues_whole place more [] is refl)
added_by place more false is =
    let to : Place = fold leads place more in
    let found : List ℕ = body_in place more in
    let some = some_records found in
    let none : body_end place ≡ [] = ap (λ (t : Bool). cond t (record_bytes Stdin []) []) is in (
      to,
      some.0 ++ body_end to,
      record {
        found = found;
        text = some.0;
        goes = record { place = refl; found = refl };
        carries = some.1;
        is = ap (λ (t : List ℕ). t ++ (some.0 ++ body_end to)) none;
      },
    )

sent_more : (application : Application) (asked : Asked) (more sent : List ℕ) → IsSent asked sent → (rest : List ℕ) × IsSent (fold (next application) asked more) (sent ++ rest)
sent_more application (InHead text) more sent none =
    let first = first_records (fold (next application) (InHead text) more) in
    (first.0, subst (λ (s : List ℕ). IsSent (fold (next application) (InHead text) more) (s ++ first.0)) (sym none) first.1)
sent_more application (Refused why) more sent none =
    ([], subst (λ (a : Asked). IsSent a (sent ++ [])) (sym (refused_stays application why more)) (append-nil sent ∙ none))
sent_more application (Behind front body place) more sent s =
    let add = added_by place more (is_whole place) refl in
    (add.1, (body_sent application (Behind front body place) place add.0 more add.1 sent add.2 refl s).1)

pub records_go_on : (application : Application) (bytes more sent : List ℕ) → IsSent (asked_of application bytes) sent → (rest : List ℕ) × IsSent (asked_of application (bytes ++ more)) (sent ++ rest)
records_go_on application bytes more sent s =
    let go = sent_more application (asked_of application bytes) more sent s in
    (go.0, subst (λ (a : Asked). IsSent a (sent ++ go.0)) (sym (asked_more application bytes more)) go.1)
