-- The exits of a limit.
use Rattle.std.proofs.Common.{◌≡◌, ℕ, ◌+◌, ◌-◌, ◌<◌, ◌≤◌, inl, inr, Bool, true, false, List, [], ◌∷◌, ◌++◌, refl, sym, ap, ◌∙◌, arith, length, take, cond, length-append}
use Rattle.std.specs.Prelude.{nat_le}
use Rattle.std.proofs.lemmas.Bool.{cases_lt, le-leb, lt-leb, false≢true, false_from_ne_true}
use Rattle.std.proofs.lemmas.List.{length-take-le, take_all}
use Rattle.std.proofs.Math.Seq.{take-append-add}
use Rattle.body_filter.specs.declared.filter_spec.FedState.TheVariants.{Going, Refused}
use Rattle.body_filter.specs.Filter.{limited, behind, end_of}
use Rattle.body_filter.specs.Feeding.{Feeds}

same_test : (a b c d : ℕ) → a + d ≡ b + c → nat_le a b ≡ nat_le c d
same_test a b c d e = elim (cases_lt b a) [
  | inl less ↦ lt-leb a b less ∙ sym (lt-leb c d (omega arith))
  | inr more ↦ le-leb a b more ∙ sym (le-leb c d (omega arith))
]

pub limit_pass : (n : ℕ) (whole : Bool) (xs rest : List ℕ) → length xs ≤ n → limited n whole (xs ++ rest) ≡ behind xs (limited (n - length xs) whole rest)
limit_pass n whole xs rest fits =
    let k : ℕ = n - length xs in
    let sum : n ≡ length xs + k = omega arith in
    let front : take n (xs ++ rest) ≡ xs ++ take k rest = ap (λ i. take i (xs ++ rest)) sum ∙ take-append-add xs rest k in
    let test : nat_le (length (xs ++ rest)) n ≡ nat_le (length rest) k = same_test (length (xs ++ rest)) n (length rest) k (omega (arith, length-append xs rest)) in
    ap (λ ys. record { output = ys; state = cond (nat_le (length (xs ++ rest)) n) (end_of whole) (Refused 413) }) front
    ∙ ap (λ t. record { output = xs ++ take k rest; state = cond t (end_of whole) (Refused 413) }) test

nothing_left : (xs : List ℕ) → length xs ≡ 0 → xs ≡ []
nothing_left [] e = refl
nothing_left (x ∷ xs) e = absurd (omega arith)

none_of : (k : ℕ) → take {A = ℕ} k [] ≡ []
none_of k = take_all {A = ℕ} k [] (omega arith)

pub exit_pass : (n : ℕ) (piece : List ℕ) (last : Bool) (len : ℕ) (out : List ℕ) → len ≤ n → len ≤ length piece → len ≤ length out → take len out ≡ take len piece
    → (last ≡ true → len < length piece) → (len ≡ 0 → length piece ≡ 0)
    → Feeds (limited n) piece last (record { used = len; given = len; state = Going }) out (limited (n - len))
exit_pass n piece last len out fits in_piece in_out copied goes stuck =
    let size : length (take len piece) ≡ len = length-take-le len piece in_piece in
    record {
      used = in_piece;
      given = in_out;
      goes_on = λ _ whole rest.
          limit_pass n whole (take len piece) rest (omega (arith, size))
          ∙ ap (λ k. behind (take len piece) (limited (n - k) whole rest)) size
          ∙ ap (λ xs. behind xs (limited (n - len) whole rest)) (sym copied);
      ends = λ is all. absurd (let less : len < length piece = goes is in omega (arith, less, all));
      told = λ h. absurd (false≢true h);
      idle = λ _ none _. (
        nothing_left piece (stuck none),
        false_from_ne_true last (λ is. let less : len < length piece = goes is in omega (arith, less, stuck none)),
        ap (λ t. record { output = take (n - len) []; state = cond t Going (Refused 413) }) (le-leb 0 (n - len) (omega arith)) ∙ ap (λ ys. record { output = ys; state = Going }) (none_of (n - len)),
      );
    }
