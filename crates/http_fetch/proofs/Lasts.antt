-- The last sample of a field.
use Rattle.std.proofs.Common.{◌≡◌, ℕ, zero, suc, ◌-◌, ◌<◌, List, [], ◌∷◌, length, map, get_or, slice_get, Option, Some, None, option_map, refl, ap, ◌∙◌, arith}
use denote.Ref.{Bor}
use Rattle.std.proofs.lemmas.Bool.Decides.{nat_tests}
use Rattle.std.proofs.lemmas.List.{length-map}
use Rattle.px_sample.specs.Sample.{Bytes}
use Rattle.px_sample.specs.Fetched.{last_of}
use Rattle.header_ops.specs.Walk.{from_back}
use Rattle.http_fetch.specs.Fetches.{header_samples}

at_index : (values : List (List ℕ)) (i : ℕ) → option_map Bytes (slice_get values i) ≡ get_or (map (λ value. Some (Bytes value)) values) i None
at_index [] i = refl
at_index (v ∷ vs) zero = refl
at_index (v ∷ vs) (suc i) = at_index vs i

near : (values : List (List ℕ)) → 0 < length values → from_back values 0 ≡ slice_get values (length values - 1 - 0)
near values some = grind (arith, nat_tests, some)

pub last_in_field : (values : List (List ℕ)) → option_map Bytes (from_back values 0) ≡ last_of (header_samples values None)
last_in_field [] = refl
last_in_field (v ∷ vs) =
    let long : length (map (λ (value : List ℕ). Some (Bytes value)) (v ∷ vs)) ≡ length (v ∷ vs) = length-map (v ∷ vs) (λ value. Some (Bytes value)) in
    let same : length (v ∷ vs) - 1 - 0 ≡ length (map (λ (value : List ℕ). Some (Bytes value)) (v ∷ vs)) - 1 = omega (arith, long) in
    ap (option_map Bytes) (near (v ∷ vs) (omega arith)) ∙ at_index (v ∷ vs) (length (v ∷ vs) - 1 - 0) ∙ ap (λ (i : ℕ). get_or (map (λ (value : List ℕ). Some (Bytes value)) (v ∷ vs)) i None) same

-- lent bytes as a value
pub shown : (lent : Option (Bor (List ℕ))) → option_map (λ bytes. Bytes bytes.now) lent ≡ option_map Bytes (option_map (λ bytes. bytes.now) lent)
shown None = refl
shown (Some bytes) = refl
