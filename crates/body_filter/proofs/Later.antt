-- Filters over the bytes so far.
use Rattle.std.proofs.Common.{◌≡◌, ℕ, ◌-◌, ◌<◌, inl, inr, Bool, true, false, List, [], ◌∷◌, ◌++◌, refl, sym, ap, ◌∙◌, arith, length, take, subst, append_assoc, cond, length-append}
use Rattle.std.specs.Prelude.{◌==◌, ◌&&◌, not, zero, suc, Option, Some, None}
use Rattle.std.proofs.lemmas.Bool.{cases_Bool, cases_lt, and_parts, and_from, and_left, false≢true, false_from_ne_true, both_ways, le-leb, lt-leb}
use Rattle.std.proofs.lemmas.List.{append-nil, take_all, take-append-le}
use Rattle.body_filter.specs.declared.filter_spec.FedState.TheVariants.{Going, Refused}
use Rattle.body_filter.specs.declared.filter_spec.FilterSpec.{FilterSpec}
use Rattle.body_filter.specs.declared.filter_spec.FilterSpec.TheVariants.{Limit, Deny, Replace}
use Rattle.body_filter.specs.Filter.{Filtered, begins, searched, limited, passed, behind, ended, end_of, is_over, through, joined, filtered, filtered_by}
use Rattle.body_filter.specs.Feeding.{Meaning}
use Rattle.body_filter.specs.Pairs.{HasTold, paired}
use Rattle.body_filter.specs.Laws.{GoesOn}
use Rattle.body_filter.proofs.Keeping.{begins-front}
use Rattle.body_filter.proofs.Searching.{here, waits, passes}
use Rattle.body_filter.proofs.Limits.{limit_pass}
use Rattle.body_filter.proofs.Pairing.{both_told, not_over}

begins-more : (n t r : List ℕ) → begins n t ≡ true → begins n (t ++ r) ≡ true
begins-more [] t r h = refl
begins-more (f ∷ fs) [] r h = absurd (false≢true h)
begins-more (f ∷ fs) (b ∷ bs) r h =
    let p = and_parts (f == b) (begins fs bs) h in
    and_from (f == b) (begins fs (bs ++ r)) p.0 (begins-more fs bs r p.1)

same_test : (a b : ℕ) → (a == b) ≡ (b == a)
same_test a b = grind arith

begins-neither : (n t r : List ℕ) → begins n t ≡ false → begins t n ≡ false → begins n (t ++ r) ≡ false
begins-neither [] t r h k = absurd (both_ways true h refl)
begins-neither (f ∷ fs) [] r h k = absurd (both_ways true k refl)
begins-neither (f ∷ fs) (b ∷ bs) r h k = elim (cases_Bool (f == b)) [
  | inr no_match ↦ and_left (f == b) (begins fs (bs ++ r)) no_match
  | inl match_here ↦
      let h2 : begins fs bs ≡ false = false_from_ne_true (begins fs bs) (λ e. both_ways (f == b && begins fs bs) h (and_from (f == b) (begins fs bs) match_here e)) in
      let k2 : begins bs fs ≡ false = false_from_ne_true (begins bs fs) (λ e. both_ways (b == f && begins bs fs) k (and_from (b == f) (begins bs fs) (sym (same_test f b) ∙ match_here) e)) in
      false_from_ne_true (f == b && begins fs (bs ++ r)) (λ e. both_ways (begins fs (bs ++ r)) (begins-neither fs bs r h2 k2) (and_parts (f == b) (begins fs (bs ++ r)) e).1)
]

made : (m : Meaning) (used : List ℕ) (now : Filtered) (later : Meaning) → m false used ≡ now → ((whole : Bool) (rest : List ℕ) → m whole (used ++ rest) ≡ behind now.output (later whole rest)) → HasTold later now.state → GoesOn m used
made m used now later is same told = record {
  later = later;
  same = λ whole rest. same whole rest ∙ ap (λ f. behind f.output (later whole rest)) (sym is);
  told = subst (λ (f : Filtered). HasTold later f.state) (sym is) told;
}

twice : (xs ys : List ℕ) (f : Filtered) → behind xs (behind ys f) ≡ behind (xs ++ ys) f
twice xs ys f = ap (λ zs. record { output = zs; state = f.state }) (sym (append_assoc xs ys f.output))

-- so many bytes in front, and then as before
in_front : (m m' : Meaning) (used used' given : List ℕ) → ((whole : Bool) (rest : List ℕ) → m whole (used ++ rest) ≡ behind given (m' whole (used' ++ rest))) → m false used ≡ behind given (m' false used') → GoesOn m' used' → GoesOn m used
in_front m m' used used' given step now g = made m used (behind given (m' false used')) g.later now
    (λ whole rest. step whole rest ∙ ap (behind given) (g.same whole rest) ∙ twice given (m' false used').output (g.later whole rest)) g.told

-- a byte that begins no needle
search_on : (n : List ℕ) (to : Option (List ℕ)) (b : ℕ) (bs : List ℕ) → begins n (b ∷ bs) ≡ false → GoesOn (searched n to 0) bs → GoesOn (searched n to 0) (b ∷ bs)
search_on n to b bs h g = elim (cases_Bool (begins (b ∷ bs) n)) [
  | inl k ↦ made (searched n to 0) (b ∷ bs) (ended Going) (λ whole rest. searched n to 0 whole (b ∷ (bs ++ rest))) (waits n to b bs h k) (λ whole rest. refl) (λ e. absurd (false≢true e))
  | inr k ↦ in_front (searched n to 0) (searched n to 0) (b ∷ bs) bs (b ∷ [])
      (λ whole rest. passes n to whole b (bs ++ rest) (begins-neither n (b ∷ bs) rest h k)
      (and_left (begins (b ∷ (bs ++ rest)) n) (not whole) (false_from_ne_true (begins (b ∷ (bs ++ rest)) n) (λ e. both_ways (begins (b ∷ bs) n) k (begins-front (b ∷ bs) rest n e)))))
      (passes n to false b bs h (and_left (begins (b ∷ bs) n) (not false) k)) g
]

past : (n : ℕ) (used rest : List ℕ) (whole : Bool) → n < length used → limited n whole (used ++ rest) ≡ behind (take n used) (ended (Refused 413))
past n used rest whole more =
    ap (λ t. record { output = take n (used ++ rest); state = cond t (end_of whole) (Refused 413) }) (lt-leb (length (used ++ rest)) n (omega (arith, length-append used rest)))
    ∙ ap (λ xs. record { output = xs; state = Refused 413 }) (take-append-le n used rest (omega arith) ∙ sym (append-nil (take n used)))

search_later : (n : List ℕ) (to : Option (List ℕ)) (skip : ℕ) (used : List ℕ) → GoesOn (searched n to skip) used
unfolding searched
search_later n to skip [] = made (searched n to skip) [] (ended Going) (searched n to skip) refl (λ whole rest. refl) (λ h. absurd (false≢true h))
search_later n to (suc skip) (b ∷ bs) = in_front (searched n to (suc skip)) (searched n to skip) (b ∷ bs) bs [] (λ whole rest. refl) refl (search_later n to skip bs)
search_later n None zero (b ∷ bs) = elim (cases_Bool (begins n (b ∷ bs))) [
  | inl h ↦ made (searched n None 0) (b ∷ bs) (ended (Refused 403)) (λ _ _. ended (Refused 403)) (here n None false b bs h) (λ whole rest. here n None whole b (bs ++ rest) (begins-more n (b ∷ bs) rest h)) (λ _ _ _. refl)
  | inr h ↦ search_on n None b bs h (search_later n None 0 bs)
]
search_later n (Some to) zero (b ∷ bs) = elim (cases_Bool (begins n (b ∷ bs))) [
  | inl h ↦ in_front (searched n (Some to) 0) (searched n (Some to) (length n - 1)) (b ∷ bs) bs to (λ whole rest. here n (Some to) whole b (bs ++ rest) (begins-more n (b ∷ bs) rest h)) (here n (Some to) false b bs h) (search_later n (Some to) (length n - 1) bs)
  | inr h ↦ search_on n (Some to) b bs h (search_later n (Some to) 0 bs)
]

limit_later : (n : ℕ) (used : List ℕ) → GoesOn (limited n) used
limit_later n used = elim (cases_lt n (length used)) [
  | inl more ↦
      let now : limited n false used ≡ record { output = take n used; state = Refused 413 } = ap (λ t. record { output = take n used; state = cond t Going (Refused 413) }) (lt-leb (length used) n more) in
      made (limited n) used (record { output = take n used; state = Refused 413 }) (λ _ _. ended (Refused 413)) now (λ whole rest. past n used rest whole more) (λ _ _ _. refl)
  | inr fits ↦
      let now : limited n false used ≡ record { output = used; state = Going } =
      ap (λ t. record { output = take n used; state = cond t Going (Refused 413) }) (le-leb (length used) n fits) ∙ ap (λ xs. record { output = xs; state = Going }) (take_all n used fits) in
      made (limited n) used (record { output = used; state = Going }) (limited (n - length used)) now (λ whole rest. limit_pass n whole used rest fits) (λ h. absurd (false≢true h))
]

one_later : (f : FilterSpec) (used : List ℕ) → GoesOn (filtered_by f) used
one_later (Limit n) used = limit_later n used
one_later (Deny needle) used = search_later needle None 0 used
one_later (Replace from to) used = search_later from (Some to) 0 used

-- the law
pub chain_later : (fs : List FilterSpec) (used : List ℕ) → GoesOn (filtered fs) used
unfolding filtered
chain_later [] used = made (filtered []) used (record { output = used; state = Going }) passed refl (λ whole rest. refl) (λ h. absurd (false≢true h))
chain_later (f ∷ fs) used =
    let m : Meaning = filtered_by f in
    let n : Meaning = filtered fs in
    let a : GoesOn m used = one_later f used in
    let x : Filtered = m false used in
    elim (cases_Bool (is_over x.state)) [
      | inl over ↦
          let y : Filtered = through x n in
          made (filtered (f ∷ fs)) used y (λ _ _. ended y.state) refl
          (λ whole rest. ap (λ g. through g n) (a.same whole rest ∙ ap (behind x.output) (a.told over whole rest) ∙ ap (λ xs. record { output = xs; state = x.state }) (append-nil x.output))
          ∙ ap (λ xs. record { output = xs; state = y.state }) (sym (append-nil y.output)))
          (λ _ _ _. refl)
      | inr open_still ↦
          let b : GoesOn n x.output = chain_later fs x.output in
          let z : Filtered = n false x.output in
          let going : x.state ≡ Going = not_over x.state open_still in
          let now : through x n ≡ record { output = z.output; state = joined Going z.state } = ap (λ s. through (record { output = x.output; state = s }) n) going in
          made (filtered (f ∷ fs)) used (record { output = z.output; state = joined Going z.state }) (paired a.later [] b.later) now
          (λ whole rest.
          let g : Filtered = a.later whole rest in
          ap (λ k. through k n) (a.same whole rest) ∙ ap (λ l. record { output = l.output; state = joined g.state l.state }) (b.same (is_over g.state) g.output))
          (both_told a.later [] b.later Going z.state (λ h. absurd (false≢true h)) b.told)
    ]
