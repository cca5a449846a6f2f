-- What is kept back, and what comes of it where the body ends.
use Rattle.std.proofs.Common.{◌≡◌, inl, inr, ℕ, ◌<◌, ◌≤◌, Bool, true, false, List, [], ◌∷◌, ◌++◌, refl, sym, ap, ◌∙◌, arith, length, take, cond, append_assoc, length-append}
use Rattle.std.specs.Prelude.{zero, suc, ◌-◌, Option, Some, None, nat_le, ◌||◌, not}
use Rattle.std.proofs.lemmas.Bool.{cases_Bool, and_left, both_ways, false≢true, cases_lt}
use Rattle.std.proofs.lemmas.List.{append-nil, take_all}
use Rattle.body_filter.specs.declared.filter_spec.FedState.TheVariants.{Going, Over, Refused}
use Rattle.body_filter.specs.declared.filter_spec.FilterSpec.{FilterSpec}
use Rattle.body_filter.specs.declared.filter_spec.FilterSpec.TheVariants.{Limit, Deny, Replace}
use Rattle.body_filter.specs.Filter.{Filtered, begins, searched, behind, ended}
use Rattle.body_filter.specs.Kept.{kept}
use Rattle.body_filter.specs.KeptBack.{holds, unmatched, at_end, closing, GivesKept}
use Rattle.body_filter.proofs.Keeping.{begins-is, begins-long, begins-self, kept-yes, kept-no}
use Rattle.body_filter.specs.Valid.{IsFilter}
use Rattle.body_filter.proofs.Searching.{here, waits, passes}
use Rattle.body_filter.proofs.Searching.{at_end as all_at_end}

holds-no : (n : List ℕ) (b : ℕ) (bs : List ℕ) → begins n (b ∷ bs) ≡ false → holds n (b ∷ bs) ≡ holds n bs
unfolding holds
holds-no n b bs h = ap (λ t. t || holds n bs) h

holds-yes : (n : List ℕ) (b : ℕ) (bs : List ℕ) → begins n (b ∷ bs) ≡ true → holds n (b ∷ bs) ≡ true
unfolding holds
holds-yes n b bs h = ap (λ t. t || holds n bs) h

-- a shorter text holds no needle
holds-long : (n t : List ℕ) → length t < length n → holds n t ≡ false
unfolding holds
holds-long n [] h = begins-long n [] h
holds-long n (b ∷ bs) h = ap (λ t. t || holds n bs) (begins-long n (b ∷ bs) h) ∙ holds-long n bs (omega arith)

unmatched-none : (n bs : List ℕ) → holds n bs ≡ false → unmatched n 0 bs ≡ bs
unfolding unmatched
unmatched-none n [] h = refl
unmatched-none n (b ∷ bs) h = elim (cases_Bool (begins n (b ∷ bs))) [
  | inl is ↦ absurd (both_ways (holds n (b ∷ bs)) h (holds-yes n b bs is))
  | inr off ↦ ap (λ t. cond t (unmatched n (length n - 1) bs) (cond (holds n bs) (unmatched n 0 bs) (b ∷ bs))) off
      ∙ ap (λ t. cond t (unmatched n 0 bs) (b ∷ bs)) (sym (holds-no n b bs off) ∙ h)
]

unmatched-yes : (n : List ℕ) (b : ℕ) (bs : List ℕ) → begins n (b ∷ bs) ≡ true → unmatched n 0 (b ∷ bs) ≡ unmatched n (length n - 1) bs
unfolding unmatched
unmatched-yes n b bs h = ap (λ t. cond t (unmatched n (length n - 1) bs) (cond (holds n bs) (unmatched n 0 bs) (b ∷ bs))) h

-- a byte that begins no needle
kept-passes : (n : List ℕ) (b : ℕ) (bs : List ℕ) → begins n (b ∷ bs) ≡ false → begins (b ∷ bs) n ≡ false → kept n (unmatched n 0 (b ∷ bs)) ≡ kept n (unmatched n 0 bs)
unfolding unmatched
kept-passes n b bs off never = elim (cases_Bool (holds n bs)) [
  | inl more ↦ ap (kept n) (ap (λ t. cond t (unmatched n (length n - 1) bs) (cond (holds n bs) (unmatched n 0 bs) (b ∷ bs))) off ∙ ap (λ t. cond t (unmatched n 0 bs) (b ∷ bs)) more)
  | inr none ↦ ap (kept n) (unmatched-none n (b ∷ bs) (holds-no n b bs off ∙ none)) ∙ kept-no n b bs never ∙ sym (ap (kept n) (unmatched-none n bs none))
]

shorter : (w n : List ℕ) → begins w n ≡ true → begins n w ≡ false → length w < length n
shorter [] [] is off = absurd (both_ways true off refl)
shorter [] (y ∷ n) is off = omega arith
shorter (x ∷ w) [] is off = absurd (false≢true is)
shorter (x ∷ w) (y ∷ n) is off = elim (cases_lt (length w) (length n)) [
  | inl less ↦ omega arith
  | inr far ↦ let same : x ∷ w ≡ y ∷ n = begins-is (x ∷ w) (y ∷ n) is ∙ take_all (length (x ∷ w)) (y ∷ n) (omega arith) in
      absurd (both_ways (begins (y ∷ n) (x ∷ w)) off (ap (begins (y ∷ n)) (same ∙ sym (append-nil (y ∷ n))) ∙ begins-self (y ∷ n) []))
]

assoc : (xs ys : List ℕ) (f : Filtered) → behind xs (closing ys f) ≡ closing ys (behind xs f)
assoc xs ys f = ap (λ zs. record { output = zs; state = at_end f.state }) (sym (append_assoc xs f.output ys))

-- the text that may become a needle
waits_last : (n : List ℕ) (to : Option (List ℕ)) (b : ℕ) (bs : List ℕ) → begins n (b ∷ bs) ≡ false → begins (b ∷ bs) n ≡ true
    → searched n to 0 true (b ∷ bs) ≡ closing (b ∷ bs) (searched n to 0 false (b ∷ bs))
waits_last n to b bs off may =
    all_at_end n to (b ∷ bs) (shorter (b ∷ bs) n may off) ∙ ap (λ zs. record { output = zs; state = Over }) (append-nil (b ∷ bs)) ∙ sym (ap (closing (b ∷ bs)) (waits n to b bs off may))

passes_last : (n : List ℕ) (to : Option (List ℕ)) (b : ℕ) (bs ys : List ℕ) → begins n (b ∷ bs) ≡ false → begins (b ∷ bs) n ≡ false
    → searched n to 0 true bs ≡ closing ys (searched n to 0 false bs) → searched n to 0 true (b ∷ bs) ≡ closing ys (searched n to 0 false (b ∷ bs))
passes_last n to b bs ys off never h =
    passes n to true b bs off (and_left (begins (b ∷ bs) n) (not true) never) ∙ ap (behind (b ∷ [])) h ∙ assoc (b ∷ []) ys (searched n to 0 false bs)
    ∙ sym (ap (closing ys) (passes n to false b bs off (and_left (begins (b ∷ bs) n) (not false) never)))

replaced : (n to : List ℕ) (skip : ℕ) (text : List ℕ) → searched n (Some to) skip true text ≡ closing (kept n (unmatched n skip text)) (searched n (Some to) skip false text)
unfolding searched unmatched kept
replaced n to skip [] = refl
replaced n to (suc skip) (b ∷ bs) = replaced n to skip bs
replaced n to zero (b ∷ bs) = elim (cases_Bool (begins n (b ∷ bs))) [
  | inl is ↦
      let ys : List ℕ = kept n (unmatched n (length n - 1) bs) in
      here n (Some to) true b bs is ∙ ap (behind to) (replaced n to (length n - 1) bs) ∙ assoc to ys (searched n (Some to) (length n - 1) false bs)
      ∙ sym (ap (closing ys) (here n (Some to) false b bs is)) ∙ sym (ap (λ xs. closing (kept n xs) (searched n (Some to) 0 false (b ∷ bs))) (unmatched-yes n b bs is))
  | inr off ↦ elim (cases_Bool (begins (b ∷ bs) n)) [
    | inl may ↦
        waits_last n (Some to) b bs off may
        ∙ sym (ap (λ xs. closing xs (searched n (Some to) 0 false (b ∷ bs))) (ap (kept n) (unmatched-none n (b ∷ bs) (holds-long n (b ∷ bs) (shorter (b ∷ bs) n may off))) ∙ kept-yes n b bs may))
    | inr never ↦
        passes_last n (Some to) b bs (kept n (unmatched n 0 bs)) off never (replaced n to 0 bs)
        ∙ sym (ap (λ xs. closing xs (searched n (Some to) 0 false (b ∷ bs))) (kept-passes n b bs off never))
  ]
]

denied : (n text : List ℕ) → 0 < length n → searched n None 0 true text ≡ closing (cond (holds n text) [] (kept n text)) (searched n None 0 false text)
unfolding searched kept
denied n [] some = ap (λ t. closing (cond t [] []) (ended Going)) (sym (holds-long n [] some))
denied n (b ∷ bs) some = elim (cases_Bool (begins n (b ∷ bs))) [
  | inl is ↦
      here n None true b bs is ∙ sym (ap (closing []) (here n None false b bs is))
      ∙ sym (ap (λ t. closing (cond t [] (kept n (b ∷ bs))) (searched n None 0 false (b ∷ bs))) (holds-yes n b bs is))
  | inr off ↦ elim (cases_Bool (begins (b ∷ bs) n)) [
    | inl may ↦
        waits_last n None b bs off may
        ∙ sym (ap (λ t. closing (cond t [] (kept n (b ∷ bs))) (searched n None 0 false (b ∷ bs))) (holds-long n (b ∷ bs) (shorter (b ∷ bs) n may off))
        ∙ ap (λ xs. closing xs (searched n None 0 false (b ∷ bs))) (kept-yes n b bs may))
    | inr never ↦
        passes_last n None b bs (cond (holds n bs) [] (kept n bs)) off never (denied n bs some)
        ∙ sym (ap (λ t. closing (cond t [] (kept n (b ∷ bs))) (searched n None 0 false (b ∷ bs))) (holds-no n b bs off)
        ∙ ap (λ xs. closing (cond (holds n bs) [] xs) (searched n None 0 false (b ∷ bs))) (kept-no n b bs never))
  ]
]

limit_state : (t : Bool) → cond t Over (Refused 413) ≡ at_end (cond t Going (Refused 413))
limit_state true = refl
limit_state false = refl

pub kept_given : (f : FilterSpec) (text : List ℕ) → IsFilter f → GivesKept f text
kept_given (Limit n) text valid =
    ap (λ s. record { output = take n text; state = s }) (limit_state (nat_le (length text) n))
    ∙ sym (ap (λ xs. record { output = xs; state = at_end (cond (nat_le (length text) n) Going (Refused 413)) }) (append-nil (take n text)))
kept_given (Deny needle) text valid = denied needle text valid.0
kept_given (Replace from to) text valid = replaced from to 0 text

-- no longer end of the text is one with which the needle begins
pub kept_longest : (n xs ys : List ℕ) → begins ys n ≡ true → length ys ≤ length (kept n (xs ++ ys))
kept_longest n [] [] h = omega arith
kept_longest n [] (y ∷ ys) h = omega (arith, ap length (kept-yes n y ys h))
kept_longest n (x ∷ xs) ys h = elim (cases_Bool (begins (x ∷ (xs ++ ys)) n)) [
  | inl is ↦ omega (arith, ap length (kept-yes n x (xs ++ ys) is), length-append xs ys)
  | inr off ↦ omega (arith, ap length (kept-no n x (xs ++ ys) off), kept_longest n xs ys h)
]
