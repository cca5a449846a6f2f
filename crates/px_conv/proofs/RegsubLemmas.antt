-- What replacing matches gives: the groups that a template names, and steps that never run out.
use Rattle.std.proofs.Common.{inl, inr, ◌≡◌, ℕ, zero, suc, ◌+◌, ◌-◌, ◌<◌, ◌≤◌, Bool, true, false, cond, eqb, leb, ◌&&◌, List, [], ◌∷◌, ◌++◌, length, take, drop, Option, Some, None, option_map, refl, ap, ap₂, sym, ◌∙◌, arith, add-one, zero-add, length-drop}
use Rattle.std.specs.Char.{is_ascii_digit}
use Rattle.std.specs.Prelude.{if◌then◌else◌}
use Rattle.std.proofs.lemmas.Bool.{cases_Bool, and_parts, false≢true, leb-true, cond-true, cond-false, eqb-false}
use Rattle.std.proofs.lemmas.List.FromFn.{get_or-map-range_with_len}
use Rattle.regex.specs.Patterns.{Re, Match, find}
use Rattle.regex.proofs.SearchLemmas.{leftmost_within}
use Rattle.px_pattern.specs.Groups.{span_between, group_of_match, group_at, AreGroupsOf}
use Rattle.px_pattern.specs.declared.span.Span.{Span}
use Rattle.px_conv.specs.Template.{bytes_of, expanded}
use Rattle.px_conv.specs.declared.conv.Matches.{Matches}
use Rattle.px_conv.specs.declared.conv.Matches.TheVariants.{First, All}
use Rattle.px_conv.specs.Regsub.{groups_of, behind, replaced, one_step, steps, regsub}

named : (m : Match) (n : ℕ) → n < 10 → group_at (groups_of m) n ≡ option_map span_between (group_of_match m n)
named m n h = get_or-map-range_with_len (λ k. option_map span_between (group_of_match m k)) 0 10 n n None h (zero-add n)

digit_below : (c : ℕ) → is_ascii_digit c ≡ true → c - 48 < 10
digit_below c h = let parts = and_parts (leb 48 c) (leb c 57) h in omega (arith, leb-true 48 c parts.0, leb-true c 57 parts.1)

-- a template asks for the groups 0 to 9 alone
same_expansion : (g h : List (Option Span)) (text template : List ℕ) → ((n : ℕ) → n < 10 → group_at g n ≡ group_at h n) →
    expanded g text template ≡ expanded h text template
same_expansion g h text [] same = refl
same_expansion g h text (b ∷ []) same = refl
same_expansion g h text (b ∷ c ∷ template) same =
    let behind_both = same_expansion g h text template same in
    let behind_one = same_expansion g h text (c ∷ template) same in
    elim (cases_Bool (eqb b 92 && is_ascii_digit c)) [
      | inl named_group ↦
          let below = digit_below c (and_parts _ _ named_group).1 in
          cond-true (eqb b 92 && is_ascii_digit c) _ _ named_group
          ∙ ap₂ (λ s xs. bytes_of text s ++ xs) (same (c - 48) below) behind_both
          ∙ sym (cond-true (eqb b 92 && is_ascii_digit c) _ _ named_group)
      | inr other ↦
          cond-false (eqb b 92 && is_ascii_digit c) _ _ other
          ∙ ap₂ (λ xs ys. cond (eqb b 92 && eqb c 92) (92 ∷ xs) (b ∷ ys)) behind_both behind_one
          ∙ sym (cond-false (eqb b 92 && is_ascii_digit c) _ _ other)
    ]

pub expanded_of_match : (m : Match) (groups : List (Option Span)) (text template : List ℕ) → AreGroupsOf m groups →
    expanded groups text template ≡ expanded (groups_of m) text template
expanded_of_match m groups text template are =
    same_expansion groups (groups_of m) text template (λ n h. are n ∙ sym (named m n h))

-- the match lies in the text
pub found_within : (re : Re) (text : List ℕ) (m : Match) → find re text 0 ≡ Some m → (m.start ≤ m.trace.end) × (m.trace.end ≤ length text)
found_within re text m found = let within = leftmost_within re text false 0 m found in (within.1, within.2)

fewer : (was_empty : Bool) (start end len left : ℕ) → eqb end start ≡ was_empty → start ≤ end → end ≤ len → left ≡ len - end →
    left + (if was_empty then 0 else 1) ≤ len
fewer true start end len left none ordered within is = omega arith
fewer false start end len left some ordered within is = let differ = eqb-false end start some in omega arith

pub fewer_behind : (m : Match) (text : List ℕ) → m.start ≤ m.trace.end → m.trace.end ≤ length text →
    length (drop m.trace.end text) + (if eqb m.trace.end m.start then 0 else 1) ≤ length text
fewer_behind m text ordered within =
    fewer (eqb m.trace.end m.start) m.start m.trace.end (length text) (length (drop m.trace.end text)) refl ordered within (length-drop m.trace.end text)

behind_same : (on on2 : List ℕ → List ℕ) (g : Matches) (was_empty : Bool) (rest : List ℕ) →
    ((r : List ℕ) → length r < length rest + (if was_empty then 0 else 1) → on r ≡ on2 r) → behind on g was_empty rest ≡ behind on2 g was_empty rest
behind_same on on2 First was_empty rest h = refl
behind_same on on2 All false rest h = h rest (omega arith)
behind_same on on2 All true [] h = refl
behind_same on on2 All true (b ∷ rest) h = ap (λ xs. b ∷ xs) (h rest (omega arith))

replaced_same : (on on2 : List ℕ → List ℕ) (re : Re) (template : List ℕ) (g : Matches) (text : List ℕ) (o : Option Match) → find re text 0 ≡ o →
    ((r : List ℕ) → length r < length text → on r ≡ on2 r) → replaced on template g text o ≡ replaced on2 template g text o
replaced_same on on2 re template g text None found h = refl
replaced_same on on2 re template g text (Some m) found h =
    let within = found_within re text m found in
    let fewer = fewer_behind m text within.0 within.1 in
    ap (λ xs. take m.start text ++ expanded (groups_of m) text template ++ xs)
    (behind_same on on2 g (eqb m.trace.end m.start) (drop m.trace.end text) (λ r lt. h r (omega arith)))

-- more steps than there are bytes are as good as any other such number
steps_same : (n k : ℕ) (re : Re) (template : List ℕ) (g : Matches) (text : List ℕ) → length text < n → length text < k →
    steps n re template g text ≡ steps k re template g text
unfolding steps
steps_same zero k re template g text h1 h2 = absurd (omega arith)
steps_same (suc n) zero re template g text h1 h2 = absurd (omega arith)
steps_same (suc n) (suc k) re template g text h1 h2 =
    replaced_same (steps n re template g) (steps k re template g) re template g text (find re text 0) refl
    (λ r lt. steps_same n k re template g r (omega arith) (omega arith))

-- there are never as many steps as are allowed: the word is one step, with itself for the text that is searched next
pub regsub_law : (re : Re) (template : List ℕ) (g : Matches) (text : List ℕ) →
    regsub re template g text ≡ one_step (regsub re template g) re template g text
unfolding regsub steps
regsub_law re template g text =
    ap (λ n. steps n re template g text) (add-one (length text))
    ∙ replaced_same (steps (length text) re template g) (regsub re template g) re template g text (find re text 0) refl
    (λ r lt. steps_same (length text) (length r + 1) re template g r lt (omega arith))

-- without `g` nothing behind the match is searched
pub behind_first : (on : List ℕ → List ℕ) (g : Matches) (was_empty : Bool) (rest : List ℕ) → g ≡ First → behind on g was_empty rest ≡ rest
behind_first on g was_empty rest first = rw first refl

-- nor is anything behind an empty match at the end
pub behind_end : (on : List ℕ → List ℕ) (g : Matches) (was_empty : Bool) (rest : List ℕ) → was_empty ≡ true → length rest ≡ 0 → behind on g was_empty rest ≡ rest
behind_end on First was_empty rest none end = refl
behind_end on All true [] none end = refl
behind_end on All true (b ∷ rest) none end = absurd (omega arith)
behind_end on All false rest none end = absurd (false≢true none)
