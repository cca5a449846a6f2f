-- Ranges of numbers as they are spelled, and read.
use Rattle.std.proofs.Common.{◌≡◌, ℕ, ℤ, pos, negsuc, suc, ◌+◌, ◌^◌, ◌<◌, Bool, true, false, cond, List, [], ◌∷◌, ◌++◌, length, drop, refl, sym, ap, ◌∙◌, arith, append_assoc}
use Rattle.std.proofs.lemmas.Bool.{false≢true, ltb-true, and_from}
use Rattle.std.proofs.lemmas.Bool.Decides.{nat_tests, Decides-int_eq}
use Rattle.std.proofs.lemmas.Fmt.{digits_decimal, decimal_nonempty}
use Rattle.std.proofs.lemmas.List.{append-nil}
use Rattle.std.proofs.lemmas.List.Folds.{list_all-append}
use Rattle.std.proofs.Math.Seq.{take-append_seam, drop-append-add}
use Rattle.std.specs.Prelude.{◌==◌, ◌&&◌, ◌||◌, Option, Some, None, is_some, Ok}
use Rattle.std.specs.Fmt.{decimal, signed_decimal}
use Rattle.std.specs.Char.{is_ascii_digit}
use Rattle.std.specs.Ordering.{int_eq}
use Rattle.std.specs.List.{list_all, list_any}
use Rattle.std.specs.Str.{all_ascii_digits}
use Rattle.acl_eval.specs.declared.condition.TestValue.{TestValue}
use Rattle.acl_eval.specs.declared.condition.TestValue.TheVariants as values
use Rattle.cfg_expr.specs.Steps.{◌>>=◌}
use Rattle.cfg_expr.specs.Faults.{Told}
use Rattle.cfg_expr.specs.Condition.Values.{needed, operator_of, numbers_by, number, bound, range, is_colon, number_at, number_value, ranges_by, with_word, ranges_from, no_ranges}
use Rattle.cfg_print.specs.Conditions.{bound_text, is_one_number, range_text, value_word, value_words}
use Rattle.cfg_laws.specs.Spelled.{is_within, is_optional, is_range}
use Rattle.cfg_laws.proofs.LawLemmas.Words.{both_left, both_right}
use Rattle.cfg_laws.proofs.LawLemmas.Calls.{first_at, none_at, none_of}
use Rattle.cfg_laws.proofs.LawLemmas.Numbers.{own, number_back}

-- ---- bytes

-- a digit or a minus
abbrev is_number_byte : ℕ → Bool
is_number_byte b = b == 45 || is_ascii_digit b

-- or a colon
abbrev is_range_byte : ℕ → Bool
is_range_byte b = b == 58 || is_number_byte b

digit_number : (b : ℕ) → is_ascii_digit b ≡ true → is_number_byte b ≡ true
digit_number b h = grind (arith, nat_tests)

number_colon : (b : ℕ) → is_number_byte b ≡ true → is_colon b ≡ false
number_colon b h = grind (arith, nat_tests)

number_range : (b : ℕ) → is_number_byte b ≡ true → is_range_byte b ≡ true
number_range b h = grind (arith, nat_tests)

digits_number : (ds : List ℕ) → all_ascii_digits ds ≡ true → list_all is_number_byte ds ≡ true
digits_number [] h = refl
digits_number (d ∷ ds) h =
    and_from (is_number_byte d) (list_all is_number_byte ds) (digit_number d (both_left (is_ascii_digit d) (all_ascii_digits ds) h))
    (digits_number ds (both_right (is_ascii_digit d) (all_ascii_digits ds) h))

number_bytes : (n : ℤ) → is_within n ≡ true → list_all is_number_byte (signed_decimal n) ≡ true
number_bytes (pos n) h = let small = ltb-true n (2 ^ 63) h in digits_number (decimal n) (digits_decimal own n (omega arith))
number_bytes (negsuc n) h = let small = ltb-true n (2 ^ 63) h in digits_number (decimal (suc n)) (digits_decimal own (suc n) (omega arith))

some_bytes : (n : ℤ) → is_within n ≡ true → 0 < length (signed_decimal n)
some_bytes (pos n) h = let small = ltb-true n (2 ^ 63) h in decimal_nonempty n (omega arith)
some_bytes (negsuc n) h = omega arith

bound_bytes : (n : Option ℤ) → is_optional is_within n ≡ true → list_all is_number_byte (bound_text n) ≡ true
bound_bytes None h = refl
bound_bytes (Some n) h = number_bytes n h

no_colon : (n : Option ℤ) → is_optional is_within n ≡ true → list_any is_colon (bound_text n) ≡ false
no_colon n h = none_of is_number_byte is_colon (bound_text n) number_colon (bound_bytes n h)

as_range : (text : List ℕ) → list_all is_number_byte text ≡ true → list_all is_range_byte text ≡ true
as_range [] h = refl
as_range (b ∷ text) h =
    and_from (is_range_byte b) (list_all is_range_byte text) (number_range b (both_left (is_number_byte b) (list_all is_number_byte text) h))
    (as_range text (both_right (is_number_byte b) (list_all is_number_byte text) h))

-- ---- bounds

some_bound : (text : List ℕ) → 0 < length text → bound text ≡ (number text >>= λ n. Ok (Some n))
some_bound [] some = absurd (omega arith)
some_bound (b ∷ text) some = refl

bound_back : (n : Option ℤ) → is_optional is_within n ≡ true → bound (bound_text n) ≡ Ok n
bound_back None h = refl
bound_back (Some n) h =
    some_bound (signed_decimal n) (some_bytes n h) ∙ ap (λ found. needed found >>= λ m. Ok (Some m)) (number_back n h)

range_of : (low high : Option ℤ) → (is_some low || is_some high) ≡ true → range low high ≡ Ok (values.Range low high)
range_of None None h = absurd (false≢true h)
range_of None (Some high) h = refl
range_of (Some low) high h = refl

-- ---- a value

-- LOW:HIGH
colon_value : (low high : Option ℤ) → (is_some low || is_some high) ≡ true → is_optional is_within low ≡ true → is_optional is_within high ≡ true
    → number_value no_ranges.operator false (bound_text low ++ 58 ∷ bound_text high) ≡ Ok (values.Range low high, false)
unfolding number_value
colon_value low high some h i =
    let front = bound_text low in
    let behind = bound_text high in
    let word = front ++ 58 ∷ behind in
    ap (number_at no_ranges.operator false word) (first_at is_colon front 58 behind (no_colon low h) refl)
    ∙ ap (λ text. bound text >>= λ l. bound (drop (length front + 1) word) >>= λ r. range l r >>= λ value. Ok (value, false)) (take-append_seam front (58 ∷ behind))
    ∙ ap (λ told. told >>= λ l. bound (drop (length front + 1) word) >>= λ r. range l r >>= λ value. Ok (value, false)) (bound_back low h)
    ∙ ap (λ text. bound text >>= λ r. range low r >>= λ value. Ok (value, false)) (drop-append-add front (58 ∷ behind) 1)
    ∙ ap (λ told. told >>= λ r. range low r >>= λ value. Ok (value, false)) (bound_back high i)
    ∙ ap (λ told. told >>= λ value. Ok (value, false)) (range_of low high some)

-- a number alone
alone_value : (n : ℤ) → is_within n ≡ true → number_value no_ranges.operator false (signed_decimal n) ≡ Ok (values.Range (Some n) (Some n), false)
unfolding number_value
alone_value n h =
    ap (number_at no_ranges.operator false (signed_decimal n)) (none_at is_colon (signed_decimal n) (no_colon (Some n) h))
    ∙ ap (λ found. needed found >>= λ m. Ok (numbers_by no_ranges.operator m, false)) (number_back n h)

one_value : (low high : ℤ) (t : Bool) → int_eq low high ≡ t → is_within low ≡ true → is_within high ≡ true
    → number_value no_ranges.operator false (cond t (signed_decimal low) (signed_decimal low ++ 58 ∷ signed_decimal high)) ≡ Ok (values.Range (Some low) (Some high), false)
one_value low high true is h i = alone_value low h ∙ ap (λ n. Ok (values.Range (Some low) (Some n), false)) ((Decides-int_eq low high).0 is)
one_value low high false is h i = colon_value (Some low) (Some high) refl h i

-- a range is read back
range_back : (low high : Option ℤ) → is_range (values.Range low high) ≡ true → number_value no_ranges.operator false (range_text low high) ≡ Ok (values.Range low high, false)
unfolding range_text
range_back None None h = absurd (false≢true h)
range_back None (Some high) h = colon_value None (Some high) refl refl (both_right true (is_within high) h)
range_back (Some low) None h = colon_value (Some low) None refl (both_left (is_within low) true h) refl
range_back (Some low) (Some high) h = one_value low high (int_eq low high) refl (both_left (is_within low) (is_within high) h) (both_right (is_within low) (is_within high) h)

-- ---- no operator

no_operator : (word : List ℕ) → list_all is_range_byte word ≡ true → operator_of word ≡ None
unfolding operator_of
no_operator [] h = refl
no_operator (b ∷ word) h =
    let byte = both_left (is_range_byte b) (list_all is_range_byte word) h in
    let e : (b == 101) ≡ false = grind (arith, nat_tests) in
    let g : (b == 103) ≡ false = grind (arith, nat_tests) in
    let l : (b == 108) ≡ false = grind (arith, nat_tests) in
    rw e (rw g (rw l refl))

colon_bytes : (front behind : List ℕ) → list_all is_range_byte front ≡ true → list_all is_range_byte behind ≡ true → list_all is_range_byte (front ++ 58 ∷ behind) ≡ true
colon_bytes front behind h i = list_all-append is_range_byte front (58 ∷ behind) ∙ and_from (list_all is_range_byte front) (list_all is_range_byte behind) h i

either : (t : Bool) (xs ys : List ℕ) → list_all is_range_byte xs ≡ true → list_all is_range_byte ys ≡ true → list_all is_range_byte (cond t xs ys) ≡ true
either true xs ys h i = h
either false xs ys h i = i

range_bytes : (low high : Option ℤ) → is_optional is_within low ≡ true → is_optional is_within high ≡ true → list_all is_range_byte (range_text low high) ≡ true
unfolding range_text
range_bytes low high h i = either (is_one_number low high) (bound_text low) (bound_text low ++ 58 ∷ bound_text high)
    (as_range (bound_text low) (bound_bytes low h))
    (colon_bytes (bound_text low) (bound_text high) (as_range (bound_text low) (bound_bytes low h)) (as_range (bound_text high) (bound_bytes high i)))

-- ---- values

-- with one more value
value_more : (so_far : List TestValue) (value : TestValue) → is_range value ≡ true
    → with_word (record no_ranges { values = so_far }) (value_word value) ≡ Ok (record no_ranges { values = so_far ++ value ∷ [] })
unfolding with_word value_word
value_more so_far (values.Range low high) h =
    let bounds = both_right (is_some low || is_some high) (is_optional is_within low && is_optional is_within high) h in
    let word = range_text low high in
    let none = no_operator word (range_bytes low high (both_left (is_optional is_within low) (is_optional is_within high) bounds) (both_right (is_optional is_within low) (is_optional is_within high) bounds)) in
    ap (ranges_by (record no_ranges { values = so_far }) word) none
    ∙ ap (λ (told : Told (TestValue × Bool)). told >>= λ found. Ok (record no_ranges { values = so_far ++ found.0 ∷ []; lacking = found.1 })) (range_back low high h)
value_more so_far (values.Literal text) h = absurd (false≢true h)
value_more so_far (values.Pattern pat) h = absurd (false≢true h)

-- ranges are read back
pub ranges_back : (so_far tried : List TestValue) → list_all is_range tried ≡ true → ranges_from (record no_ranges { values = so_far }) (value_words tried) ≡ Ok (so_far ++ tried)
ranges_back so_far [] h = ap Ok (sym (append-nil so_far))
ranges_back so_far (value ∷ tried) h =
    ap (λ told. told >>= λ next. ranges_from next (value_words tried)) (value_more so_far value (both_left (is_range value) (list_all is_range tried) h))
    ∙ ranges_back (so_far ++ value ∷ []) tried (both_right (is_range value) (list_all is_range tried) h) ∙ ap Ok (append_assoc so_far (value ∷ []) tried)
