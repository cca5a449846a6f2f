-- A table of borders, entry by entry.
use Rattle.std.proofs.Common.{◌≡◌, ℕ, ◌+◌, ◌<◌, ◌≤◌, inl, inr, List, sym, ap, ◌∙◌, arith, length, get_or}
use Rattle.std.specs.Prelude.{slice_index, slice_set}
use Rattle.std.proofs.lemmas.Bool.{cases_eq}
use Rattle.std.proofs.lemmas.List.{get_or-set_same, get_or-set_other, length-set}
use Rattle.body_filter.specs.Kept.{border, AreBorders}
use Rattle.body_filter.proofs.Keeping.{border_first}

pub table_start : (n bs : List ℕ) → 0 < length n → length bs ≡ length n + 1 → slice_index bs 1 ≡ 0 → AreBorders n bs 1
table_start n bs some size first = record {
  long = omega arith;
  each = λ k low high.
      let one : k ≡ 1 = omega arith in
      ap (λ j. slice_index bs j) one ∙ first ∙ sym (border_first n some) ∙ ap (border n) (sym one);
}

pub table_less : (n bs : List ℕ) (most k : ℕ) → k ≤ most → AreBorders n bs most → AreBorders n bs k
table_less n bs most k le t = record {
  long = omega (arith, t.long);
  each = λ j low high. t.each j low (omega arith);
}

pub table_more : (n bs : List ℕ) (most v : ℕ) → most + 1 < length bs → v ≡ border n (most + 1) → AreBorders n bs most → AreBorders n (slice_set bs (most + 1) v) (most + 1)
table_more n bs most v fits is t = record {
  long = omega (arith, length-set bs (most + 1) v);
  each = λ j low high. elim (cases_eq j (most + 1)) [
    | inl e ↦ ap (λ i. get_or (slice_set bs (most + 1) v) i 0) e ∙ get_or-set_same bs (most + 1) v 0 fits ∙ is ∙ ap (border n) (sym e)
    | inr e ↦ get_or-set_other bs (most + 1) j v 0 e ∙ t.each j low (omega arith)
  ];
}
