-- A number that is read is within 64 bits.
use Rattle.std.proofs.Common.{◌≡◌, ℕ, ℤ, pos, neg_ℤ, zero, suc, ◌^◌, Bool, true, false, cond, List, length, drop, refl, arith}
use Rattle.std.proofs.lemmas.Bool.{lt-ltb, leb-true}
use Rattle.std.specs.Prelude.{◌==◌, ◌&&◌, nat_lt, nat_le, slice_index, Option, Some, None, option_map, option_and_then}
use Rattle.std.specs.Str.{all_ascii_digits}
use Rattle.std.specs.Str.Parse.{digits_value}
use Rattle.px_sample.specs.Cast.{magnitude_of, signed, number_of_text}
use Rattle.cfg_laws.specs.Spelled.{is_within}
use Rattle.cfg_laws.proofs.ReadLemmas.Steps.{Has, has_so}

-- at most the least number's
abbrev is_magnitude : ℕ → Bool
is_magnitude n = nat_le n (2 ^ 63)

magnitude_if : (a : Bool) (n : ℕ) (t : Bool) → nat_le n (2 ^ 63) ≡ t → Has is_magnitude (cond (a && t) (Some n) None)
magnitude_if true n true is = is
magnitude_if true n false is = tt
magnitude_if false n t is = tt

magnitude_small : (digits : List ℕ) → Has is_magnitude (magnitude_of digits)
magnitude_small digits =
    let n = digits_value 10 digits in
    magnitude_if (nat_lt 0 (length digits) && all_ascii_digits digits) n (nat_le n (2 ^ 63)) refl

negative : (n : ℕ) → nat_le n (2 ^ 63) ≡ true → is_within (neg_ℤ (pos n)) ≡ true
negative zero h = lt-ltb 0 (2 ^ 63) (omega arith)
negative (suc n) h = let small = leb-true (suc n) (2 ^ 63) h in lt-ltb n (2 ^ 63) (omega arith)

negatives : (found : Option ℕ) → Has is_magnitude found → Has is_within (option_map (λ n. neg_ℤ (pos n)) found)
negatives None h = tt
negatives (Some n) h = negative n h

signed_if : (n : ℕ) (t : Bool) → nat_lt n (2 ^ 63) ≡ t → Has is_within (cond t (Some (pos n)) None)
signed_if n true is = is
signed_if n false is = tt

positives : (found : Option ℕ) → Has is_within (option_and_then signed found)
positives None = tt
positives (Some n) = signed_if n (nat_lt n (2 ^ 63)) refl

by_minus : (text : List ℕ) (t : Bool) → Has is_within (cond t (option_map (λ n. neg_ℤ (pos n)) (magnitude_of (drop 1 text))) (option_and_then signed (magnitude_of text)))
by_minus text true = negatives (magnitude_of (drop 1 text)) (magnitude_small (drop 1 text))
by_minus text false = positives (magnitude_of text)

pub number_within : (text : List ℕ) → Has is_within (number_of_text text)
number_within text = by_minus text (slice_index text 0 == 45)

pub numbers_spelled : (text : List ℕ) (n : ℤ) → number_of_text text ≡ Some n → is_within n ≡ true
numbers_spelled text n is = has_so is_within (number_of_text text) n (number_within text) is
