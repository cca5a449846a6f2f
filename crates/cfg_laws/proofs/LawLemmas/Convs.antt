-- Converters as they are spelled, and read.
use Rattle.std.proofs.Common.{◌≡◌, ℕ, ℤ, zero, suc, ◌≤◌, Bool, true, false, List, [], ◌∷◌, ◌++◌, length, refl, sym, ap, ◌∙◌, append_assoc, arith}
use Rattle.std.proofs.lemmas.Bool.{and_from}
use Rattle.std.proofs.lemmas.Bool.Decides.{nat_tests}
use Rattle.std.proofs.lemmas.List.{append-nil}
use Rattle.std.specs.Prelude.{◌&&◌, Option, Some, None, Ok, codes}
use Rattle.std.specs.List.{list_all, flat_map}
use Rattle.std.specs.Fmt.{signed_decimal}
use Rattle.px_pattern.specs.Pattern.{Pattern}
use Rattle.px_conv.specs.declared.conv.Conv.{Conv}
use Rattle.px_conv.specs.declared.conv.Conv.TheVariants as convs
use Rattle.px_conv.specs.declared.conv.Matches.{Matches}
use Rattle.px_conv.specs.declared.conv.Matches.TheVariants.{First, All}
use Rattle.cfg_expr.specs.Steps as steps
use Rattle.cfg_expr.specs.Reading.{plain, ◌>>=◌}
use Rattle.cfg_expr.specs.Faults.{TextReading}
use Rattle.cfg_expr.specs.Fetches.{number, count}
use Rattle.cfg_expr.specs.Convs.{bare_conv, conv_with_one, conv_with_two, conv_with_three, plain_conv, replacing_of}
use Rattle.cfg_expr.specs.Exprs.{conv_of, conv_of_form, conv_at, goes_on, convs_from}
use Rattle.cfg_print.specs.Exprs.{Call, call, call_text, and_number, letters, and_letters, conv_call, conv_text}
use Rattle.cfg_laws.specs.Spelled.{is_spellable, is_spellable_call, is_within, is_count, is_optional, is_spelled_conv, is_end}
use Rattle.cfg_laws.specs.Laws.Exprs.{conv_patterns, is_closed}
use Rattle.cfg_laws.proofs.LawLemmas.Words.{both_left, both_right}
use Rattle.cfg_laws.proofs.LawLemmas.Calls.{call_back, ends_any}
use Rattle.cfg_laws.proofs.LawLemmas.Numbers.{number_spellable}
use Rattle.cfg_laws.proofs.LawLemmas.Arguments.{number_read, count_read, count_spellable, with_number, with_count}

-- what is read without a fault, with the patterns that are asked for
abbrev pub found : {A : Type 0} → List Pattern → A → TextReading A
found asks x = record { asks = asks; gives = Ok x }

-- a call that can be said, and that is this converter
abbrev IsConv : Conv → Call → Type 0
IsConv conv call = (conv_of call.name call.arguments ≡ found (conv_patterns conv) conv) × (is_spellable_call call ≡ true)

-- ---- arguments

one_number : (n : ℤ) → is_within n ≡ true → (is_spellable (signed_decimal n) && true) ≡ true
one_number n h = and_from (is_spellable (signed_decimal n)) true (number_spellable n h) refl

one_text : (text : List ℕ) → is_spellable text ≡ true → (is_spellable text && true) ≡ true
one_text text h = and_from (is_spellable text) true h refl

one_count : (n : ℤ) → is_count n ≡ true → (is_spellable (signed_decimal n) && true) ≡ true
one_count n h = and_from (is_spellable (signed_decimal n)) true (count_spellable n h) refl

-- a separator between numbers
three_arguments : (index : ℤ) (separators : List ℕ) (n : ℤ) → (is_within index && (is_spellable separators && is_count n)) ≡ true
    → (is_spellable (signed_decimal index) && (is_spellable separators && (is_spellable (signed_decimal n) && true))) ≡ true
three_arguments index separators n h =
    let others = both_right (is_within index) (is_spellable separators && is_count n) h in
    and_from (is_spellable (signed_decimal index)) (is_spellable separators && (is_spellable (signed_decimal n) && true)) (number_spellable index (both_left (is_within index) (is_spellable separators && is_count n) h))
    (and_from (is_spellable separators) (is_spellable (signed_decimal n) && true) (both_left (is_spellable separators) (is_count n) others)
    (one_count n (both_right (is_spellable separators) (is_count n) others)))

with_three : {A : Type 0} (index : ℤ) (separators : List ℕ) (n : ℤ) (f : ℤ → ℤ → A) → (is_within index && (is_spellable separators && is_count n)) ≡ true
    → (steps.◌>>=◌ (number (signed_decimal index)) (λ i. steps.◌>>=◌ (count (signed_decimal n)) (λ m. Ok (f i m)))) ≡ Ok (f index n)
with_three index separators n f h =
    let others = both_right (is_within index) (is_spellable separators && is_count n) h in
    ap (λ told. steps.◌>>=◌ told (λ i. steps.◌>>=◌ (count (signed_decimal n)) (λ m. Ok (f i m)))) (number_read index (both_left (is_within index) (is_spellable separators && is_count n) h))
    ∙ with_count n (λ m. f index m) (both_right (is_spellable separators) (is_count n) others)

-- ---- a converter

bytes_conv : (offset : ℤ) (len : Option ℤ) → (is_count offset && is_optional is_count len) ≡ true → IsConv (convs.Bytes offset len) (call (codes "bytes") (signed_decimal offset ∷ and_number len))
unfolding conv_of plain_conv conv_with_one conv_with_two
bytes_conv offset None h =
    let is = both_left (is_count offset) true h in
    (ap plain (with_count offset (λ n. convs.Bytes n None) is), one_count offset is)
bytes_conv offset (Some len) h =
    let is = both_left (is_count offset) (is_count len) h in
    let are = both_right (is_count offset) (is_count len) h in (
      ap (λ told. plain (steps.◌>>=◌ told (λ n. steps.◌>>=◌ (count (signed_decimal len)) (λ m. Ok (convs.Bytes n (Some m)))))) (count_read offset is)
          ∙ ap plain (with_count len (λ m. convs.Bytes offset (Some m)) are),
      and_from (is_spellable (signed_decimal offset)) (is_spellable (signed_decimal len) && true) (count_spellable offset is) (one_count len are),
    )

-- the letters in each case
regsub_conv : (text : List ℕ) (icase : Bool) (template : List ℕ) (which : Matches) → let pat : Pattern = record { text = text; icase = icase } in
    conv_of (codes "regsub") (text ∷ template ∷ and_letters (letters pat which)) ≡ found (pat ∷ []) (convs.Regsub pat template which)
unfolding conv_of replacing_of
regsub_conv text false template First = refl
regsub_conv text false template All = refl
regsub_conv text true template First = refl
regsub_conv text true template All = refl

regsub_arguments : (text : List ℕ) (icase : Bool) (template : List ℕ) (which : Matches) → (is_spellable text && is_spellable template) ≡ true
    → let pat : Pattern = record { text = text; icase = icase } in is_spellable_call (call (codes "regsub") (text ∷ template ∷ and_letters (letters pat which))) ≡ true
regsub_arguments text false template First h = and_from (is_spellable text) (is_spellable template && true) (both_left (is_spellable text) (is_spellable template) h) (one_text template (both_right (is_spellable text) (is_spellable template) h))
regsub_arguments text false template All h = and_from (is_spellable text) (is_spellable template && true) (both_left (is_spellable text) (is_spellable template) h) (one_text template (both_right (is_spellable text) (is_spellable template) h))
regsub_arguments text true template First h = and_from (is_spellable text) (is_spellable template && true) (both_left (is_spellable text) (is_spellable template) h) (one_text template (both_right (is_spellable text) (is_spellable template) h))
regsub_arguments text true template All h = and_from (is_spellable text) (is_spellable template && true) (both_left (is_spellable text) (is_spellable template) h) (one_text template (both_right (is_spellable text) (is_spellable template) h))

-- a converter is read back
conv_back : (conv : Conv) → is_spelled_conv conv ≡ true → IsConv conv (conv_call conv)
unfolding is_spelled_conv conv_call conv_of plain_conv bare_conv conv_with_one conv_with_two conv_with_three
conv_back convs.Lower h = (refl, refl)
conv_back convs.Upper h = (refl, refl)
conv_back convs.Length h = (refl, refl)
conv_back (convs.Bytes offset len) h = bytes_conv offset len h
conv_back (convs.Field index separators n) h = (ap plain (with_three index separators n (λ i m. convs.Field i separators m) h), three_arguments index separators n h)
conv_back (convs.Word index separators n) h = (ap plain (with_three index separators n (λ i m. convs.Word i separators m) h), three_arguments index separators n h)
conv_back (convs.Iif yes_text no_text) h =
    (refl, and_from (is_spellable yes_text) (is_spellable no_text && true) (both_left (is_spellable yes_text) (is_spellable no_text) h) (one_text no_text (both_right (is_spellable yes_text) (is_spellable no_text) h)))
conv_back (convs.Add n) h = (ap plain (with_number n (λ m. convs.Add m) h), one_number n h)
conv_back (convs.Sub n) h = (ap plain (with_number n (λ m. convs.Sub m) h), one_number n h)
conv_back (convs.Mul n) h = (ap plain (with_number n (λ m. convs.Mul m) h), one_number n h)
conv_back (convs.Div n) h = (ap plain (with_number n (λ m. convs.Div m) h), one_number n h)
conv_back (convs.Mod n) h = (ap plain (with_number n (λ m. convs.Mod m) h), one_number n h)
conv_back convs.Neg h = (refl, refl)
conv_back convs.Not h = (refl, refl)
conv_back convs.Bool h = (refl, refl)
conv_back convs.Base64 h = (refl, refl)
conv_back convs.Hex h = (refl, refl)
conv_back convs.UrlDec h = (refl, refl)
conv_back (convs.Regsub pat template which) h = (regsub_conv pat.text pat.icase template which, regsub_arguments pat.text pat.icase template which h)

-- with what is behind it
conv_read : (conv : Conv) (rest : List ℕ) → is_spelled_conv conv ≡ true → is_end rest ≡ true → conv_at (call_text (conv_call conv) ++ rest) ≡ found (conv_patterns conv) (conv, rest)
unfolding conv_at
conv_read conv rest h ends =
    let back = conv_back conv h in
    ap conv_of_form (call_back (conv_call conv) rest back.1 (ends_any (conv_call conv).arguments rest ends))
    ∙ ap (λ (r : TextReading Conv). r >>= λ c. plain (Ok (c, rest))) back.0
    ∙ ap (λ asks. found asks (conv, rest)) (append-nil (conv_patterns conv))

-- ---- converters

-- no comma
closed_comma : (rest : List ℕ) → is_closed rest ≡ true → goes_on 44 rest ≡ false
closed_comma [] h = refl
closed_comma (b ∷ rest) h = grind (arith, nat_tests)

closed_end : (rest : List ℕ) → is_closed rest ≡ true → is_end rest ≡ true
closed_end [] h = refl
closed_end (b ∷ rest) h = grind (arith, nat_tests)

-- a converter ends what stands in front of it
pub convs_end : (list : List Conv) (rest : List ℕ) → is_closed rest ≡ true → is_end (flat_map conv_text list ++ rest) ≡ true
convs_end [] rest h = closed_end rest h
convs_end (conv ∷ list) rest h = refl

no_more : (most : ℕ) (so_far : List Conv) (rest : List ℕ) → goes_on 44 rest ≡ false → convs_from most so_far rest ≡ found [] (so_far, rest)
unfolding convs_from
no_more zero so_far rest h = rw h refl
no_more (suc most) so_far rest h = rw h refl

one_more : (most : ℕ) (so_far : List Conv) (text : List ℕ) → convs_from (suc most) so_far (44 ∷ text) ≡ (conv_at text >>= λ next. convs_from most (so_far ++ next.0 ∷ []) next.1)
unfolding convs_from
one_more most so_far text = refl

-- converters are read back
pub convs_back : (most : ℕ) (so_far list : List Conv) (rest : List ℕ) → length list ≤ most → list_all is_spelled_conv list ≡ true → is_closed rest ≡ true
    → convs_from most so_far (flat_map conv_text list ++ rest) ≡ found (flat_map conv_patterns list) (so_far ++ list, rest)
convs_back most so_far [] rest few h ends = no_more most so_far rest (closed_comma rest ends) ∙ ap (λ all. found [] (all, rest)) (sym (append-nil so_far))
convs_back zero so_far (conv ∷ list) rest few h ends = absurd (omega arith)
convs_back (suc most) so_far (conv ∷ list) rest few h ends =
    let text = call_text (conv_call conv) in
    let behind = flat_map conv_text list ++ rest in
    let next = λ (c : Conv × List ℕ). convs_from most (so_far ++ c.0 ∷ []) c.1 in
    ap (λ t. convs_from (suc most) so_far (44 ∷ t)) (append_assoc text (flat_map conv_text list) rest)
    ∙ one_more most so_far (text ++ behind)
    ∙ ap (λ (r : TextReading (Conv × List ℕ)). r >>= next) (conv_read conv behind (both_left (is_spelled_conv conv) (list_all is_spelled_conv list) h) (convs_end list rest ends))
    ∙ ap (λ (r : TextReading (List Conv × List ℕ)). record { asks = conv_patterns conv ++ r.asks; gives = r.gives })
    (convs_back most (so_far ++ conv ∷ []) list rest (omega arith) (both_right (is_spelled_conv conv) (list_all is_spelled_conv list) h) ends)
    ∙ ap (λ all. found (flat_map conv_patterns (conv ∷ list)) (all, rest)) (append_assoc so_far (conv ∷ []) list)
