-- What filters make of a body.
use Rattle.std.proofs.Common.{◌≡◌, ℕ, List, Option, Some, None, refl}
use Rattle.session_model.specs.Meaning.{Filters, sent_body}

output_by : (filters : Filters) (cut : Option ℕ) (body : List ℕ) (o : Option ℕ) → (filters.filter body).refused ≡ o → (sent_body filters cut body).output ≡ (filters.filter body).output
output_by filters cut body None e = rw e refl
output_by filters cut body (Some code) e = rw e refl

pub sent_output : (filters : Filters) (cut : Option ℕ) (body : List ℕ) → (sent_body filters cut body).output ≡ (filters.filter body).output
sent_output filters cut body = output_by filters cut body (filters.filter body).refused refl

-- a refusal of the filters decides the cut
pub sent_refused : (filters : Filters) (cut : Option ℕ) (body : List ℕ) (code : ℕ) → (filters.filter body).refused ≡ Some code → (sent_body filters cut body).refused ≡ Some code
sent_refused filters cut body code e = rw e refl
