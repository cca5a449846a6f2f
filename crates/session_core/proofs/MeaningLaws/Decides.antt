-- What is decided however a stream goes on.
use Rattle.std.proofs.Common.{◌≡◌, ℕ, List, [], ◌++◌, Bool, true, false, map, if◌then◌else◌, Option, Some, None, ap, ◌∙◌, refl, is_some}
use Rattle.http_model.specs.declared.Ending.{Ending}
use Rattle.http_model.specs.Finish.{finish_interim}
use Rattle.http_model.specs.Head.{Head}
use Rattle.http_model.specs.Reading.{Received, BodyReading}
use Rattle.http_model.specs.Reading as reading
use Rattle.session_model.specs.Meaning.{Meaning, Filters, Filtered, HoldsOn, sent_body}
use Rattle.session_model.specs.Asking.{Asker, request_by}
use Rattle.session_model.specs.Answering.{answer_by, sent_interim}
use Rattle.session_core.specs.MeaningLaws.Decided.{body_bytes, RefusesSoFar, IsCutRequest, IsCutAnswer}
use Rattle.session_core.proofs.MeaningLaws.Filtered.{sent_output, sent_refused}

-- filters that refuse the bytes so far refuse the whole body so
pub record Cuts (filters : Filters) (cut : Option ℕ) (body : List ℕ) (code : ℕ) (output : List ℕ) : Type 0 where
  pub refused : (sent_body filters cut body).refused ≡ Some code
  pub output_is : (sent_body filters cut body).output ≡ output

cuts : (filters : Filters) (front more : List ℕ) (code : ℕ) → HoldsOn filters → RefusesSoFar filters front code → (cut : Option ℕ) (body : List ℕ) → body ≡ front ++ more
    → Cuts filters cut body code (filters.filter_so_far front).output
cuts filters front more code holds refuses cut body is =
    let same : filters.filter body ≡ filters.filter_so_far front = ap (λ bytes. filters.filter bytes) is ∙ holds.refuses front more code refuses in
    record {
      refused = sent_refused filters cut body code (ap (λ (f : Filtered). f.refused) same ∙ refuses);
      output_is = sent_output filters cut body ∙ ap (λ (f : Filtered). f.output) same;
    }

pub cut_request : (M : Meaning) (received : Received) (head : Head) (vars : M.Vars) (front more : List ℕ) (code : ℕ) → HoldsOn M.request_filters → RefusesSoFar M.request_filters front code
    → (ending : Ending) (body : BodyReading) → body_bytes body ≡ front ++ more → IsCutRequest (request_by M received head vars ending body) code (M.request_filters.filter_so_far front).output
cut_request M received head vars front more code holds refuses ending (reading.Whole bytes trailers rest) is =
    let c = cuts M.request_filters front more code holds refuses None bytes is in record { cut = c.refused; sent = c.output_is }
cut_request M received head vars front more code holds refuses ending (reading.Broke bytes) is =
    let c = cuts M.request_filters front more code holds refuses (Some 400) bytes is in record { cut = c.refused; sent = c.output_is }
cut_request M received head vars front more code holds refuses ending (reading.Bad bytes) is =
    let c = cuts M.request_filters front more code holds refuses (Some 400) bytes is in record { cut = c.refused; sent = c.output_is }

pub cut_answer : (M : Meaning) (asker : Asker) (received : Received) (head : Head) (vars : M.Vars) (front more : List ℕ) (code : ℕ) → HoldsOn M.response_filters → RefusesSoFar M.response_filters front code
    → (body : BodyReading) → body_bytes body ≡ front ++ more → IsCutAnswer (answer_by M asker received head vars body) (M.response_filters.filter_so_far front).output
cut_answer M asker received head vars front more code holds refuses (reading.Whole bytes trailers rest) is =
    let c = cuts M.response_filters front more code holds refuses None bytes is in (ap (λ o. is_some o) c.refused, c.output_is)
cut_answer M asker received head vars front more code holds refuses (reading.Broke bytes) is =
    let c = cuts M.response_filters front more code holds refuses (Some 502) bytes is in (ap (λ o. is_some o) c.refused, c.output_is)
cut_answer M asker received head vars front more code holds refuses (reading.Bad bytes) is =
    let c = cuts M.response_filters front more code holds refuses (Some 502) bytes is in (ap (λ o. is_some o) c.refused, c.output_is)

-- of no interim heads none are sent
pub interim_none : (asker : Asker) → let none : List Head = [] in none ≡ sent_interim asker []
interim_none asker = by asker.is_http_11
  where
    by : (eleven : Bool) → let none : List Head = [] in none ≡ (if eleven then map finish_interim [] else [])
    by true = refl
    by false = refl
