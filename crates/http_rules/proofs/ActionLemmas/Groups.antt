-- A template asks for the groups 0 to 9 alone.
use Rattle.std.proofs.Common.{inl, inr, ◌≡◌, ℕ, ◌-◌, ◌<◌, true, cond, eqb, leb, ◌&&◌, List, [], ◌∷◌, ◌++◌, Option, None, option_map, refl, ap₂, sym, ◌∙◌, arith, zero-add}
use Rattle.std.specs.Char.{is_ascii_digit}
use Rattle.std.proofs.lemmas.Bool.{cases_Bool, and_parts, leb-true, cond-true, cond-false}
use Rattle.std.proofs.lemmas.List.FromFn.{get_or-map-range_with_len}
use Rattle.regex.specs.Patterns.{Match}
use Rattle.px_pattern.specs.Groups.{span_between, group_of_match, group_at, AreGroupsOf}
use Rattle.px_pattern.specs.declared.span.Span.{Span}
use Rattle.px_conv.specs.Template.{bytes_of, expanded}
use Rattle.px_conv.specs.Regsub.{groups_of}

named : (m : Match) (n : ℕ) → n < 10 → group_at (groups_of m) n ≡ option_map span_between (group_of_match m n)
named m n h = get_or-map-range_with_len (λ k. option_map span_between (group_of_match m k)) 0 10 n n None h (zero-add n)

digit_below : (c : ℕ) → is_ascii_digit c ≡ true → c - 48 < 10
digit_below c h = let parts = and_parts (leb 48 c) (leb c 57) h in omega (arith, leb-true 48 c parts.0, leb-true c 57 parts.1)

same_expansion : (g h : List (Option Span)) (text template : List ℕ) → ((n : ℕ) → n < 10 → group_at g n ≡ group_at h n)
    → expanded g text template ≡ expanded h text template
same_expansion g h text [] same = refl
same_expansion g h text (b ∷ []) same = refl
same_expansion g h text (b ∷ c ∷ template) same =
    let behind_both = same_expansion g h text template same in
    let behind_one = same_expansion g h text (c ∷ template) same in
    elim (cases_Bool (eqb b 92 && is_ascii_digit c)) [
      | inl group ↦
          cond-true (eqb b 92 && is_ascii_digit c) _ _ group
          ∙ ap₂ (λ s xs. bytes_of text s ++ xs) (same (c - 48) (digit_below c (and_parts _ _ group).1)) behind_both
          ∙ sym (cond-true (eqb b 92 && is_ascii_digit c) _ _ group)
      | inr other ↦
          cond-false (eqb b 92 && is_ascii_digit c) _ _ other
          ∙ ap₂ (λ xs ys. cond (eqb b 92 && eqb c 92) (92 ∷ xs) (b ∷ ys)) behind_both behind_one
          ∙ sym (cond-false (eqb b 92 && is_ascii_digit c) _ _ other)
    ]

-- so groups of a match give what the match's own give
pub by_groups : (m : Match) (groups : List (Option Span)) (text template : List ℕ) → AreGroupsOf m groups → expanded groups text template ≡ expanded (groups_of m) text template
by_groups m groups text template are = same_expansion groups (groups_of m) text template (λ n h. are n ∙ sym (named m n h))
