-- Values of a test that are read can be said again: ranges, texts and patterns.
use Rattle.std.proofs.Common.{◌≡◌, ◌≢◌, ℕ, ◌+◌, ◌-◌, ◌^◌, ◌<◌, ℤ, pos, negsuc, zero, suc, Bool, true, false, cond, List, [], ◌∷◌, ◌++◌, length, take, drop, Ok, refl, sym, ap, ◌∙◌, subst, length-append, arith}
use Rattle.std.proofs.lemmas.Bool.{false≢true, true≢false, and_parts, and_from, lt-ltb, ltb-true}
use Rattle.std.proofs.lemmas.Bool.Decides.{Decides-int_eq}
use Rattle.std.proofs.lemmas.Slice.Eq.{bytes_eq-Decides}
use Rattle.std.proofs.lemmas.List.Folds.{list_all-append}
use Rattle.std.proofs.lemmas.Int.{ints}
use Rattle.std.specs.Prelude.{◌&&◌, ◌+ℤ◌, ◌-ℤ◌, nat_lt, position, Option, Some, None, codes}
use Rattle.std.specs.Ordering.{int_eq}
use Rattle.std.specs.List.{list_all}
use Rattle.std.specs.Str.{bytes_eq}
use Rattle.px_sample.specs.Cast.{number_of_text}
use Rattle.acl_eval.specs.declared.condition.Match.{Match}
use Rattle.acl_eval.specs.declared.condition.Match.TheVariants as matches
use Rattle.acl_eval.specs.declared.condition.TestValue.{TestValue}
use Rattle.acl_eval.specs.declared.condition.TestValue.TheVariants as values
use Rattle.cfg_expr.specs.Steps.{◌>>=◌}
use Rattle.cfg_expr.specs.Condition.Values.{needed, operator_of, nothing, numbers_by, number, bound, range, is_colon, number_at, number_value, unless_lacking, ranges_by, with_word, ranges_from, no_ranges, literals}
use Rattle.cfg_expr.specs.Condition.Tests.{patterns_from, some_values, values_of}
use Rattle.cfg_laws.specs.Spelled.{is_within, is_optional, is_range, is_text, is_same, is_pattern, are_some, are_values}
use Rattle.cfg_laws.proofs.ReadLemmas.Steps.{Has, HasSo, Gives, GivesSo, gives_then, gives_then_so, so_then}
use Rattle.cfg_laws.proofs.ReadLemmas.Numbers.{number_within}

-- ---- private types by their values

abbrev TypeOf : {A : Type 0} → A → Type 0
TypeOf {A} x = A

abbrev Ranges : Type 0
Ranges = TypeOf no_ranges

abbrev Operator : Type 0
Operator = TypeOf no_ranges.operator

-- ---- numbers

needed_gives : {A : Type 0} (test : A → Bool) (found : Option A) → Has test found → Gives test (needed found)
needed_gives test None h = tt
needed_gives test (Some x) h = h

number_gives : (text : List ℕ) → Gives is_within (number text)
number_gives text = needed_gives is_within (number_of_text text) (number_within text)

apart : (a b : ℤ) → int_eq a b ≡ false → a ≢ b
apart a b h = λ e. false≢true (sym h ∙ (Decides-int_eq a b).1 e)

above : (n : ℤ) → is_within n ≡ true → int_eq n (pos (2 ^ 63 - 1)) ≡ false → is_within (n +ℤ pos 1) ≡ true
above (pos m) h other =
    let small = ltb-true m (2 ^ 63) h in
    let less : m ≢ 2 ^ 63 - 1 = λ e. apart (pos m) (pos (2 ^ 63 - 1)) other (ap pos e) in
    lt-ltb (m + 1) (2 ^ 63) (omega (arith, small, less))
above (negsuc zero) h other = lt-ltb 0 (2 ^ 63) (omega arith)
above (negsuc (suc m)) h other =
    let small = ltb-true (suc m) (2 ^ 63) h in
    let same : negsuc (suc m) +ℤ pos 1 ≡ negsuc m = omega (arith, ints) in
    ap is_within same ∙ lt-ltb m (2 ^ 63) (omega (arith, small))

below : (n : ℤ) → is_within n ≡ true → int_eq n (negsuc (2 ^ 63 - 1)) ≡ false → is_within (n -ℤ pos 1) ≡ true
below (pos zero) h other = lt-ltb 0 (2 ^ 63) (omega arith)
below (pos (suc m)) h other =
    let small = ltb-true (suc m) (2 ^ 63) h in
    let same : pos (suc m) -ℤ pos 1 ≡ pos m = omega (arith, ints) in
    ap is_within same ∙ lt-ltb m (2 ^ 63) (omega (arith, small))
below (negsuc m) h other =
    let small = ltb-true m (2 ^ 63) h in
    let less : m ≢ 2 ^ 63 - 1 = λ e. apart (negsuc m) (negsuc (2 ^ 63 - 1)) other (ap negsuc e) in
    let same : negsuc m -ℤ pos 1 ≡ negsuc (suc m) = omega (arith, ints) in
    ap is_within same ∙ lt-ltb (suc m) (2 ^ 63) (omega (arith, small, less))

-- ---- operators

-- the numbers that stand so to a number are a range
abbrev OpFits : Operator → Type 0
OpFits operator = (n : ℤ) → is_within n ≡ true → is_range (numbers_by operator n) ≡ true

either_range : (t : Bool) (x y : TestValue) → is_range x ≡ true → (t ≡ false → is_range y ≡ true) → is_range (cond t x y) ≡ true
either_range true x y h i = h
either_range false x y h i = i refl

eq_fits : HasSo OpFits (operator_of (codes "eq"))
unfolding operator_of
eq_fits = λ n h. and_from (is_within n) (is_within n) h h

ge_fits : HasSo OpFits (operator_of (codes "ge"))
unfolding operator_of
ge_fits = λ n h. and_from (is_within n) true h refl

gt_fits : HasSo OpFits (operator_of (codes "gt"))
unfolding operator_of
gt_fits = λ n h. either_range (int_eq n (pos (2 ^ 63 - 1))) nothing (values.Range (Some (n +ℤ pos 1)) None) refl
    (λ other. and_from (is_within (n +ℤ pos 1)) true (above n h other) refl)

le_fits : HasSo OpFits (operator_of (codes "le"))
unfolding operator_of
le_fits = λ n h. h

lt_fits : HasSo OpFits (operator_of (codes "lt"))
unfolding operator_of
lt_fits = λ n h. either_range (int_eq n (negsuc (2 ^ 63 - 1))) nothing (values.Range None (Some (n -ℤ pos 1))) refl (below n h)

first_fits : OpFits no_ranges.operator
first_fits n h = and_from (is_within n) (is_within n) h h

no_operator : (word : List ℕ) → bytes_eq word (codes "eq") ≡ false → bytes_eq word (codes "ge") ≡ false → bytes_eq word (codes "gt") ≡ false → bytes_eq word (codes "le") ≡ false → bytes_eq word (codes "lt") ≡ false
    → operator_of word ≡ None
unfolding operator_of
no_operator word a b c d e = rw a (rw b (rw c (rw d (rw e refl))))

abbrev Fits : List ℕ → Type 0
Fits word = HasSo OpFits (operator_of word)

by_word : (word : List ℕ) (a b c d e : Bool) → bytes_eq word (codes "eq") ≡ a → bytes_eq word (codes "ge") ≡ b → bytes_eq word (codes "gt") ≡ c → bytes_eq word (codes "le") ≡ d → bytes_eq word (codes "lt") ≡ e → Fits word
by_word word true b c d e ha hb hc hd he = subst Fits (sym ((bytes_eq-Decides word (codes "eq")).0 ha)) eq_fits
by_word word false true c d e ha hb hc hd he = subst Fits (sym ((bytes_eq-Decides word (codes "ge")).0 hb)) ge_fits
by_word word false false true d e ha hb hc hd he = subst Fits (sym ((bytes_eq-Decides word (codes "gt")).0 hc)) gt_fits
by_word word false false false true e ha hb hc hd he = subst Fits (sym ((bytes_eq-Decides word (codes "le")).0 hd)) le_fits
by_word word false false false false true ha hb hc hd he = subst Fits (sym ((bytes_eq-Decides word (codes "lt")).0 he)) lt_fits
by_word word false false false false false ha hb hc hd he = subst (HasSo OpFits) (sym (no_operator word ha hb hc hd he)) tt

operator_fits : (word : List ℕ) → Fits word
operator_fits word = by_word word (bytes_eq word (codes "eq")) (bytes_eq word (codes "ge")) (bytes_eq word (codes "gt")) (bytes_eq word (codes "le")) (bytes_eq word (codes "lt")) refl refl refl refl refl

-- ---- a range

abbrev is_bound : Option ℤ → Bool
is_bound n = is_optional is_within n

bound_gives : (text : List ℕ) → Gives is_bound (bound text)
bound_gives [] = refl
bound_gives (b ∷ text) = gives_then is_within is_bound (number (b ∷ text)) (λ n. Ok (Some n)) (number_gives (b ∷ text)) (λ n h. h)

range_gives : (low high : Option ℤ) → is_bound low ≡ true → is_bound high ≡ true → Gives is_range (range low high)
range_gives None None h i = tt
range_gives None (Some high) h i = i
range_gives (Some low) high h i = and_from (is_within low) (is_bound high) h i

-- a range, whether an operator lacks a number or not
abbrev value_said : TestValue × Bool → Bool
value_said found = is_range found.0

place_gives : (operator : Operator) (lacking : Bool) (word : List ℕ) (at : Option ℕ) → OpFits operator → Gives value_said (number_at operator lacking word at)
place_gives operator lacking word None fits = gives_then is_within value_said (number word) (λ n. Ok (numbers_by operator n, false)) (number_gives word) fits
place_gives operator lacking word (Some at) fits =
    let last = λ (value : TestValue). Ok (value, lacking) in
    let behind = λ (low high : Option ℤ). range low high >>= last in
    gives_then is_bound value_said (bound (take at word)) (λ low. bound (drop (at + 1) word) >>= behind low) (bound_gives (take at word))
    (λ low h. gives_then is_bound value_said (bound (drop (at + 1) word)) (behind low) (bound_gives (drop (at + 1) word))
    (λ high i. gives_then is_range value_said (range low high) last (range_gives low high h i) (λ value is. is)))

value_gives : (operator : Operator) (lacking : Bool) (word : List ℕ) → OpFits operator → Gives value_said (number_value operator lacking word)
unfolding number_value
value_gives operator lacking word fits = place_gives operator lacking word (position is_colon word) fits

-- ---- ranges

some_more : (test : TestValue → Bool) (so_far : List TestValue) (value : TestValue) → list_all test so_far ≡ true → test value ≡ true → are_some test (so_far ++ value ∷ []) ≡ true
some_more test so_far value h i =
    let more : 0 < length (so_far ++ value ∷ []) = simp length-append (omega arith) in
    and_from (nat_lt 0 (length (so_far ++ value ∷ []))) (list_all test (so_far ++ value ∷ [])) (lt-ltb 0 (length (so_far ++ value ∷ [])) more)
    (list_all-append test so_far (value ∷ []) ∙ and_from (list_all test so_far) (test value && true) h (and_from (test value) true i refl))

-- values so far
record AreFit (so_far : Ranges) : Type 0 where
  pub all : list_all is_range so_far.values ≡ true
  pub operator : OpFits so_far.operator

-- at least one, or an operator that lacks its number
record AreBegun (so_far : Ranges) : Type 0 where
  pub fit : AreFit so_far
  pub some : so_far.lacking ≡ false → 0 < length so_far.values

lacking_fits : (so_far : Ranges) (operator : Operator) (t : Bool) → AreFit so_far → OpFits operator → GivesSo AreBegun (unless_lacking t >>= λ ok. Ok (record so_far { operator = operator; lacking = true }))
lacking_fits so_far operator true h fits = tt
lacking_fits so_far operator false h fits = record { fit = record { all = h.all; operator = fits }; some = λ e. absurd (true≢false e) }

with_value : (so_far : Ranges) (found : TestValue × Bool) → AreFit so_far → is_range found.0 ≡ true → AreBegun (record so_far { values = so_far.values ++ found.0 ∷ []; lacking = found.1 })
with_value so_far found h is =
    let both = and_parts (nat_lt 0 (length (so_far.values ++ found.0 ∷ []))) (list_all is_range (so_far.values ++ found.0 ∷ [])) (some_more is_range so_far.values found.0 h.all is) in
    record { fit = record { all = both.1; operator = h.operator }; some = λ e. ltb-true 0 (length (so_far.values ++ found.0 ∷ [])) both.0 }

by_operator : (so_far : Ranges) (word : List ℕ) (found : Option Operator) → AreFit so_far → HasSo OpFits found → GivesSo AreBegun (ranges_by so_far word found)
by_operator so_far word (Some operator) h fits = lacking_fits so_far operator so_far.lacking h fits
by_operator so_far word None h fits =
    so_then value_said AreBegun (number_value so_far.operator so_far.lacking word) (λ found. Ok (record so_far { values = so_far.values ++ found.0 ∷ []; lacking = found.1 }))
    (value_gives so_far.operator so_far.lacking word h.operator) (λ found is. with_value so_far found h is)

word_fits : (so_far : Ranges) (word : List ℕ) → AreFit so_far → GivesSo AreBegun (with_word so_far word)
unfolding with_word
word_fits so_far word h = by_operator so_far word (operator_of word) h (operator_fits word)

last_gives : (list : List TestValue) (t : Bool) → list_all is_range list ≡ true → (t ≡ false → 0 < length list) → Gives (are_some is_range) (unless_lacking t >>= λ ok. Ok list)
last_gives list true h some = tt
last_gives list false h some = and_from (nat_lt 0 (length list)) (list_all is_range list) (lt-ltb 0 (length list) (some refl)) h

from_gives : (so_far : Ranges) (words : List (List ℕ)) → AreBegun so_far → Gives (are_some is_range) (ranges_from so_far words)
from_gives so_far [] h = last_gives so_far.values so_far.lacking h.fit.all h.some
from_gives so_far (word ∷ others) h =
    gives_then_so AreBegun (are_some is_range) (with_word so_far word) (λ next. ranges_from next others) (word_fits so_far word h.fit) (λ next begun. from_gives next others begun)

ranges_give : (word : List ℕ) (others : List (List ℕ)) → Gives (are_some is_range) (ranges_from no_ranges (word ∷ others))
ranges_give word others =
    gives_then_so AreBegun (are_some is_range) (with_word no_ranges word) (λ next. ranges_from next others) (word_fits no_ranges word (record { all = refl; operator = first_fits }))
    (λ next begun. from_gives next others begun)

-- ---- texts and patterns

all_texts : (words : List (List ℕ)) → list_all is_text (literals words) ≡ true
all_texts [] = refl
all_texts (word ∷ words) = all_texts words

texts_give : (word : List ℕ) (others : List (List ℕ)) → are_some is_text (literals (word ∷ others)) ≡ true
texts_give word others =
    let list = literals (word ∷ others) in
    and_from (nat_lt 0 (length list)) (list_all is_text list) (lt-ltb 0 (length list) (omega arith)) (all_texts (word ∷ others))

same_case : (icase : Bool) → is_same icase icase ≡ true
same_case true = refl
same_case false = refl

patterns_more : (icase : Bool) (so_far : List TestValue) (words : List (List ℕ)) → are_some (is_pattern icase) so_far ≡ true → Gives (are_some (is_pattern icase)) (patterns_from icase so_far words).gives
unfolding patterns_from
patterns_more icase so_far [] h = h
patterns_more icase so_far (word ∷ others) h =
    let value = values.Pattern (record { text = word; icase = icase }) in
    patterns_more icase (so_far ++ value ∷ []) others
    (some_more (is_pattern icase) so_far value (and_parts (nat_lt 0 (length so_far)) (list_all (is_pattern icase) so_far) h).1 (same_case icase))

patterns_give : (icase : Bool) (word : List ℕ) (others : List (List ℕ)) → Gives (are_some (is_pattern icase)) (patterns_from icase [] (word ∷ others)).gives
unfolding patterns_from
patterns_give icase word others =
    let value = values.Pattern (record { text = word; icase = icase }) in
    patterns_more icase (value ∷ []) others (some_more (is_pattern icase) [] value refl (same_case icase))

-- ---- values of a match

some_give : (how : Match) (icase : Bool) (word : List ℕ) (others : List (List ℕ)) → Gives (are_values how icase) (some_values how icase (word ∷ others)).gives
some_give matches.Found icase word others = tt
some_give matches.Bool icase word others = tt
some_give matches.Int icase word others = ranges_give word others
some_give matches.Len icase word others = ranges_give word others
some_give matches.Str icase word others = texts_give word others
some_give matches.Beg icase word others = texts_give word others
some_give matches.End icase word others = texts_give word others
some_give matches.Sub icase word others = texts_give word others
some_give matches.Reg icase word others = patterns_give icase word others

none_give : (how : Match) (icase : Bool) → Gives (are_values how icase) (values_of how icase []).gives
unfolding values_of
none_give matches.Found icase = refl
none_give matches.Bool icase = refl
none_give matches.Int icase = tt
none_give matches.Len icase = tt
none_give matches.Str icase = tt
none_give matches.Beg icase = tt
none_give matches.End icase = tt
none_give matches.Sub icase = tt
none_give matches.Reg icase = tt

pub values_give : (how : Match) (icase : Bool) (words : List (List ℕ)) → Gives (are_values how icase) (values_of how icase words).gives
unfolding values_of
values_give how icase [] = none_give how icase
values_give how icase (word ∷ others) = some_give how icase word others
