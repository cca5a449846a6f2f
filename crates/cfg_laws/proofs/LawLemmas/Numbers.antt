-- Numbers as they are spelled, and read.
use Rattle.std.proofs.Common.{◌≡◌, ℕ, ℤ, pos, negsuc, neg_ℤ, suc, ◌^◌, ◌<◌, ◌≤◌, Bool, true, false, cond, List, [], ◌∷◌, length, get_or, drop, refl, ap, ◌∙◌, arith}
use Rattle.std.proofs.lemmas.Bool.{le-leb, lt-ltb, ltb-true}
use Rattle.std.proofs.lemmas.Bool.Decides.{nat_tests}
use Rattle.std.proofs.lemmas.Str.Parse.{IsNumeralModel, numerals_by_value, tells_all_ascii_digits}
use Rattle.std.proofs.lemmas.Fmt.{digits_decimal, digits_value-decimal, decimal_nonempty}
use Rattle.std.specs.Prelude.{◌==◌, ◌&&◌, not, nat_lt, nat_le, Some, None, option_map, option_and_then}
use Rattle.std.specs.Fmt.{decimal, signed_decimal}
use Rattle.std.specs.Char.{is_ascii_digit}
use Rattle.std.specs.List.{list_all}
use Rattle.std.specs.Str.{all_ascii_digits}
use Rattle.std.specs.Str.Parse.{digits_value}
use Rattle.px_sample.specs.Cast.{magnitude_of, signed, number_of_text}
use Rattle.cfg_print.specs.Exprs.{is_bare_byte, begins_quoted}
use Rattle.cfg_laws.specs.Spelled.{is_bare, is_spellable, is_within}
use Rattle.cfg_laws.proofs.LawLemmas.Words.{both_left, both_right}
use Rattle.cfg_laws.proofs.LawLemmas.Calls.{bare_spellable}

-- all decimal digits, as a test, is what std's words on numerals speak of
pub own : IsNumeralModel (λ ds. all_ascii_digits ds ≡ true) (digits_value 10)
own = numerals_by_value (λ ds. all_ascii_digits ds ≡ true) tells_all_ascii_digits

number_if : (a b c : Bool) (n m : ℕ) → a ≡ true → b ≡ true → c ≡ true → n ≡ m → cond ((a && b) && c) (Some n) None ≡ Some m
number_if a b c n m x y z e = cc

magnitude_back : (n : ℕ) → n ≤ 2 ^ 63 → magnitude_of (decimal n) ≡ Some n
magnitude_back n small =
    let ds = decimal n in
    let value : digits_value 10 ds ≡ n = digits_value-decimal own n (omega arith) in
    number_if (nat_lt 0 (length ds)) (all_ascii_digits ds) (nat_le (digits_value 10 ds) (2 ^ 63)) (digits_value 10 ds) n
    (lt-ltb 0 (length ds) (decimal_nonempty n (omega arith))) (digits_decimal own n (omega arith)) (le-leb (digits_value 10 ds) (2 ^ 63) (omega arith)) value

-- digits begin with no minus
no_minus : (ds : List ℕ) → all_ascii_digits ds ≡ true → (get_or ds 0 0 == 45) ≡ false
no_minus [] h = refl
no_minus (d ∷ ds) h = let digit = both_left (is_ascii_digit d) (all_ascii_digits ds) h in grind (arith, nat_tests)

positive_back : (n : ℕ) → n < 2 ^ 63 → number_of_text (decimal n) ≡ Some (pos n)
positive_back n small =
    let ds = decimal n in
    let front = no_minus ds (digits_decimal own n (omega arith)) in
    ap (λ t. cond t (option_map (λ m. neg_ℤ (pos m)) (magnitude_of (drop 1 ds))) (option_and_then signed (magnitude_of ds))) front
    ∙ ap (option_and_then signed) (magnitude_back n (omega arith)) ∙ ap (λ t. cond t (Some (pos n)) None) (lt-ltb n (2 ^ 63) small)

negative_back : (n : ℕ) → n < 2 ^ 63 → number_of_text (45 ∷ decimal (suc n)) ≡ Some (negsuc n)
negative_back n small = ap (option_map (λ m. neg_ℤ (pos m))) (magnitude_back (suc n) (omega arith))

-- a number is read back
pub number_back : (n : ℤ) → is_within n ≡ true → number_of_text (signed_decimal n) ≡ Some n
number_back (pos n) h = positive_back n (ltb-true n (2 ^ 63) h)
number_back (negsuc n) h = negative_back n (ltb-true n (2 ^ 63) h)

-- ---- as an argument

digit_bare : (b : ℕ) → is_ascii_digit b ≡ true → is_bare_byte b ≡ true
digit_bare b h = grind (arith, nat_tests)

all_bare : (ds : List ℕ) → all_ascii_digits ds ≡ true → list_all is_bare_byte ds ≡ true
all_bare [] h = refl
all_bare (d ∷ ds) h =
    ap (λ t. t && list_all is_bare_byte ds) (digit_bare d (both_left (is_ascii_digit d) (all_ascii_digits ds) h))
    ∙ all_bare ds (both_right (is_ascii_digit d) (all_ascii_digits ds) h)

no_quote : (ds : List ℕ) → all_ascii_digits ds ≡ true → begins_quoted ds ≡ false
no_quote [] h = refl
no_quote (d ∷ ds) h = let digit = both_left (is_ascii_digit d) (all_ascii_digits ds) h in grind (arith, nat_tests)

digits_bare : (ds : List ℕ) → all_ascii_digits ds ≡ true → is_bare ds ≡ true
digits_bare ds h = ap (λ t. t && not (begins_quoted ds)) (all_bare ds h) ∙ ap not (no_quote ds h)

minus_bare : (ds : List ℕ) → all_ascii_digits ds ≡ true → is_bare (45 ∷ ds) ≡ true
minus_bare ds h = ap (λ t. t && true) (all_bare ds h)

-- a number can be said
pub number_spellable : (n : ℤ) → is_within n ≡ true → is_spellable (signed_decimal n) ≡ true
number_spellable (pos n) h =
    let small = ltb-true n (2 ^ 63) h in
    bare_spellable (decimal n) (digits_bare (decimal n) (digits_decimal own n (omega arith)))
number_spellable (negsuc n) h =
    let small = ltb-true n (2 ^ 63) h in
    bare_spellable (45 ∷ decimal (suc n)) (minus_bare (decimal (suc n)) (digits_decimal own (suc n) (omega arith)))
