-- Rows of parts: one that is counted from the back, and what one spans.
use Rattle.std.proofs.Common.{◌≡◌, ℕ, zero, suc, ◌+◌, ◌-◌, ◌<◌, ◌≤◌, List, [], ◌∷◌, length, take, drop, reverse, get_or, slice_get, Some, ap, sym, ◌∙◌, arith}
use Rattle.std.proofs.lemmas.List.{same_lists, length-take, length-drop, length-reverse, get_or-take, get_or-drop, get_or-reverse}
use Rattle.px_conv.specs.declared.fields.Extent.{Extent}
use Rattle.px_conv.specs.Fields.{end_of, whole}

module _ (all : List Extent) (skipped len : ℕ) (fits : skipped + len ≤ length all) where
  -- those that stand behind so many, from the back
  behind : List Extent
  behind = take len (drop skipped (reverse all))

  length-behind : length behind ≡ len
  unfolding behind
  length-behind = omega (arith, length-take len (drop skipped (reverse all)), length-drop skipped (reverse all), length-reverse all)

  behind_at : (k : ℕ) (d : Extent) → k < len → get_or behind k d ≡ get_or all (length all - 1 - (skipped + k)) d
  unfolding behind
  behind_at k d h =
      let inside : skipped + k < length all = omega arith in
      get_or-take len (drop skipped (reverse all)) k d h ∙ get_or-drop skipped (reverse all) k d ∙ get_or-reverse all (skipped + k) d inside

  reversed_at : (k : ℕ) (d : Extent) → k < length (reverse behind) → get_or (reverse behind) k d ≡ get_or (take len (drop (length all - (skipped + len)) all)) k d
  reversed_at k d h =
      let inside : k < len = omega (arith, length-reverse behind, length-behind) in
      let turned : length behind - 1 - k < len = omega (arith, length-behind) in
      let same : length all - 1 - (skipped + (length behind - 1 - k)) ≡ length all - (skipped + len) + k = omega (arith, length-behind) in
      get_or-reverse behind k d (omega (arith, length-behind)) ∙ behind_at (length behind - 1 - k) d turned ∙ ap (λ i. get_or all i d) same ∙ sym (get_or-take len (drop (length all - (skipped + len)) all) k d inside ∙ get_or-drop (length all - (skipped + len)) all k d)

  -- they are in the text's order a row from the front
  pub row_reversed : reverse (take len (drop skipped (reverse all))) ≡ take len (drop (length all - (skipped + len)) all)
  unfolding behind
  row_reversed =
      same_lists (reverse behind) (take len (drop (length all - (skipped + len)) all)) (omega (arith, length-reverse behind, length-behind, length-take len (drop (length all - (skipped + len)) all), length-drop (length all - (skipped + len)) all)) reversed_at

-- the end of the last of so many
end_of_row : (e : Extent) (rest : List Extent) (n : ℕ) (last : Extent) → slice_get (e ∷ rest) n ≡ Some last → end_of e (take n rest) ≡ last.to
end_of_row e rest zero last h = let same : e ≡ last = cc in ap (λ (x : Extent). x.to) same
end_of_row e [] (suc n) last h = cc
end_of_row e (next ∷ rest) (suc n) last h = end_of_row next rest n last h

spanned : (all : List Extent) (first n i : ℕ) (e last : Extent) → i ≡ first + n → slice_get all first ≡ Some e → slice_get all i ≡ Some last → whole (take (suc n) (drop first all)) ≡ Some (record { from = e.from; to = last.to })
spanned [] first n i e last at h k = cc
spanned (x ∷ all) zero n i e last at h k =
    let here : x ≡ e = cc in
    let there : i ≡ n = omega arith in
    let end = end_of_row x all n last (sym (ap (slice_get (x ∷ all)) there) ∙ k) in
    ap (λ (to : ℕ). Some (record { from = x.from; to = to })) end ∙ ap (λ (y : Extent). Some (record { from = y.from; to = last.to })) here
spanned (x ∷ all) (suc first) n zero e last at h k = absurd (omega arith)
spanned (x ∷ all) (suc first) n (suc i) e last at h k = spanned all first n i e last (omega arith) h k

-- a row spans from where its first part begins to where its last ends
pub whole_row : (all : List Extent) (first len : ℕ) (e last : Extent) → 0 < len → slice_get all first ≡ Some e → slice_get all (first + len - 1) ≡ Some last → whole (take len (drop first all)) ≡ Some (record { from = e.from; to = last.to })
whole_row all first zero e last some h k = absurd (omega arith)
whole_row all first (suc n) e last some h k = spanned all first n (first + suc n - 1) e last (omega arith) h k
