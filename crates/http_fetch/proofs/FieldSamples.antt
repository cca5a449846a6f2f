-- The samples of a field, one after another.
use Rattle.std.proofs.Common.{◌≡◌, ℕ, List, [], ◌∷◌, drop, slice_get, Some, None, ap, sym, ◌∙◌}
use Rattle.px_sample.specs.Sample.{Bytes}
use Rattle.http_fetch.specs.Fetches.{header_samples}

-- the first one
pub first_is : (values behind : List (List ℕ)) (value : List ℕ) → values ≡ value ∷ behind → Some (Some (Bytes value)) ≡ slice_get (header_samples values None) 0
first_is values behind value is = sym (ap (λ (vs : List (List ℕ)). slice_get (header_samples vs None) 0) is)

-- those behind it
pub others_are : (values behind : List (List ℕ)) (value : List ℕ) → values ≡ value ∷ behind → header_samples behind None ≡ drop 1 (header_samples values None)
others_are values behind value is = sym (ap (λ (vs : List (List ℕ)). drop 1 (header_samples vs None)) is)

-- there is none
pub none_is : (values : List (List ℕ)) → values ≡ [] → None ≡ slice_get (header_samples values None) 0
none_is values is = sym (ap (λ (vs : List (List ℕ)). slice_get (header_samples vs None) 0) is)

pub none_are : (values : List (List ℕ)) → values ≡ [] → header_samples values None ≡ drop 1 (header_samples values None)
none_are values is =
    ap (λ (vs : List (List ℕ)). header_samples vs None) is ∙ sym (ap (λ (vs : List (List ℕ)). drop 1 (header_samples vs None)) is)
