-- What a session makes of readings that stay.
use Rattle.std.proofs.Common.{◌≡◌, ℕ, List, [], ◌∷◌, ◌++◌, Bool, true, false, map, if◌then◌else◌, refl, sym, ap, ◌∙◌, subst}
use Rattle.http_model.specs.declared.Ending.{Ending}
use Rattle.http_model.specs.Finish.{finish_interim}
use Rattle.http_model.specs.Head.{Head}
use Rattle.http_model.specs.Reading.{Received, BodyReading, Whole, Broke, Bad}
use Rattle.h1_body.specs.BodyOf.{Reads}
use Rattle.session_model.specs.Meaning.{Meaning}
use Rattle.session_model.specs.Asking.{Asker, request_by}
use Rattle.session_model.specs.Answering.{answer_by, sent_interim}
use Rattle.forward_core.specs.Bounds.Decided.{with_more, IsSameRequest}

-- one interim head more
pub interim_more : (asker : Asker) (head : Head) (heads sent : List Head) → sent ≡ sent_interim asker heads → sent_interim asker (head ∷ []) ++ sent ≡ sent_interim asker (head ∷ heads)
interim_more asker head heads sent e = ap (λ (hs : List Head). sent_interim asker (head ∷ []) ++ hs) e ∙ by asker.is_http_11
  where
    by : (eleven : Bool)
        → (if eleven then map finish_interim (head ∷ []) else []) ++ (if eleven then map finish_interim heads else [])
        ≡ (if eleven then map finish_interim (head ∷ heads) else [])
    by true = refl
    by false = refl

same_reading : (read body : BodyReading) → Reads read ≡ Reads body → read ≡ body
same_reading read body e = cc

request_more : (M : Meaning) (received : Received) (head : Head) (vars : M.Vars) (ending : Ending) (body : BodyReading) (more : List ℕ)
    → IsSameRequest (request_by M received head vars ending (with_more body more)) (request_by M received head vars ending body)
request_more M received head vars ending (Whole body trailers rest) more = record { message = refl; cut = refl; asker = refl; vars = refl }
request_more M received head vars ending (Broke body) more = record { message = refl; cut = refl; asker = refl; vars = refl }
request_more M received head vars ending (Bad body) more = record { message = refl; cut = refl; asker = refl; vars = refl }

-- the one reading of a continuation makes the request that the decided body makes
pub request_made : (M : Meaning) (received : Received) (head : Head) (vars : M.Vars) (ending : Ending) (body : BodyReading) (more : List ℕ) (read : BodyReading) → Reads read ≡ Reads (with_more body more)
    → IsSameRequest (request_by M received head vars ending read) (request_by M received head vars ending body)
request_made M received head vars ending body more read e =
    subst (λ (r : BodyReading). IsSameRequest (request_by M received head vars ending r) (request_by M received head vars ending body))
    (sym (same_reading read (with_more body more) e))
    (request_more M received head vars ending body more)

answer_more : (M : Meaning) (asker : Asker) (received : Received) (head : Head) (vars : M.Vars) (body : BodyReading) (more : List ℕ)
    → answer_by M asker received head vars (with_more body more) ≡ answer_by M asker received head vars body
answer_more M asker received head vars (Whole body trailers rest) more = refl
answer_more M asker received head vars (Broke body) more = refl
answer_more M asker received head vars (Bad body) more = refl

-- and the answer
pub answer_made : (M : Meaning) (asker : Asker) (received : Received) (head : Head) (vars : M.Vars) (body : BodyReading) (more : List ℕ) (read : BodyReading) → Reads read ≡ Reads (with_more body more)
    → answer_by M asker received head vars read ≡ answer_by M asker received head vars body
answer_made M asker received head vars body more read e =
    ap (λ (r : BodyReading). answer_by M asker received head vars r) (same_reading read (with_more body more) e) ∙ answer_more M asker received head vars body more
