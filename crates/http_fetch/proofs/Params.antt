-- The parts of a query.
use Rattle.std.proofs.Common.{◌≡◌, ℕ, suc, ◌+◌, ◌<◌, ◌≤◌, List, [], ◌∷◌, cond, Some, None, refl, sym, ap, ◌∙◌, inl, inr, arith, length, take, drop}
use Rattle.std.specs.Prelude.{not}
use Rattle.std.specs.List.{prefix_len, onto_first}
use Rattle.std.proofs.lemmas.Bool.{cases_Bool, cases_lt}
use Rattle.std.proofs.lemmas.List.{take_all}
use Rattle.http_fetch.specs.Param.{is_parting, is_plain, params_of, value_of_param, or_else, first_param}

-- a part and what follows it
cut_more : (text : List ℕ) → prefix_len is_plain text < length text → params_of text ≡ take (prefix_len is_plain text) text ∷ params_of (drop (prefix_len is_plain text + 1) text)
cut_more [] h = absurd (omega arith)
cut_more (b ∷ bs) h =
    let m : ℕ = prefix_len is_plain bs in
    elim (cases_Bool (is_parting b)) [
      | inl is ↦
          let len : cond (is_plain b) (1 + m) 0 ≡ 0 = ap (λ t. cond (not t) (1 + m) 0) is in
          ap (λ t. cond t ([] ∷ params_of bs) (onto_first b (params_of bs))) is ∙ sym (ap (λ k. take k (b ∷ bs) ∷ params_of (drop (k + 1) (b ∷ bs))) len)
      | inr other ↦
          let len : cond (is_plain b) (1 + m) 0 ≡ suc m = ap (λ t. cond (not t) (1 + m) 0) other ∙ omega arith in
          let e : suc m + 1 ≡ suc (m + 1) = omega arith in
          let less : m < length bs = omega (arith, h, len) in
          ap (λ t. cond t ([] ∷ params_of bs) (onto_first b (params_of bs))) other ∙ ap (onto_first b) (cut_more bs less)
          ∙ sym (ap (λ k. take k (b ∷ bs) ∷ params_of (drop (k + 1) (b ∷ bs))) len ∙ ap (λ k. (b ∷ take m bs) ∷ params_of (drop k (b ∷ bs))) e)
    ]

-- the last part
cut_last : (text : List ℕ) → length text ≤ prefix_len is_plain text → params_of text ≡ text ∷ []
cut_last [] h = refl
cut_last (b ∷ bs) h =
    let m : ℕ = prefix_len is_plain bs in
    elim (cases_Bool (is_parting b)) [
      | inl is ↦ let len : cond (is_plain b) (1 + m) 0 ≡ 0 = ap (λ t. cond (not t) (1 + m) 0) is in absurd (omega (arith, h, len))
      | inr other ↦
          let len : cond (is_plain b) (1 + m) 0 ≡ suc m = ap (λ t. cond (not t) (1 + m) 0) other ∙ omega arith in
          let more : length bs ≤ m = omega (arith, h, len) in
          ap (λ t. cond t ([] ∷ params_of bs) (onto_first b (params_of bs))) other ∙ ap (onto_first b) (cut_last bs more)
    ]

pub found_here : (name text : List ℕ) (n : ℕ) (value : List ℕ) → n ≡ prefix_len is_plain text → value_of_param name (take n text) ≡ Some value → first_param name (params_of text) ≡ Some value
found_here name text n value is h = elim (cases_lt (prefix_len is_plain text) (length text)) [
  | inl less ↦
      ap (first_param name) (cut_more text less)
      ∙ ap (λ o. or_else o (first_param name (params_of (drop (prefix_len is_plain text + 1) text)))) (ap (λ k. value_of_param name (take k text)) (sym is) ∙ h)
  | inr far ↦
      ap (first_param name) (cut_last text far)
      ∙ ap (λ o. or_else o None) (ap (value_of_param name) (sym (take_all n text (omega (arith, is, far)))) ∙ h)
]

pub found_behind : (name text : List ℕ) (n : ℕ) → n ≡ prefix_len is_plain text → n < length text → value_of_param name (take n text) ≡ None → first_param name (params_of text) ≡ first_param name (params_of (drop (n + 1) text))
found_behind name text n is less h =
    let len : prefix_len is_plain text ≡ n = sym is in
    ap (first_param name) (cut_more text (omega (arith, is, less)))
    ∙ ap (λ k. first_param name (take k text ∷ params_of (drop (k + 1) text))) len
    ∙ ap (λ o. or_else o (first_param name (params_of (drop (n + 1) text)))) h

pub found_nowhere : (name text : List ℕ) (n : ℕ) → n ≡ prefix_len is_plain text → n ≡ length text → value_of_param name (take n text) ≡ None → first_param name (params_of text) ≡ None
found_nowhere name text n is all h =
    ap (first_param name) (cut_last text (omega (arith, is, all)))
    ∙ ap (λ o. or_else o None) (ap (value_of_param name) (sym (take_all n text (omega (arith, all)))) ∙ h)
