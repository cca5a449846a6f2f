-- How many connections have a core, and that where there are cores for all each finds one.
use Rattle.std.proofs.Common.{◌≡◌, ℕ, zero, suc, ◌+◌, ◌<◌, ◌≤◌, List, [], ◌∷◌, length, Bool, true, false, Option, Some, None, refl, sym, ap, subst, ◌∙◌, inl, inr, arith}
use Rattle.std.proofs.lemmas.Bool.{cases_eq, false≢true}
use Rattle.px_pool.specs.Owners.{has_one, all_out, count_out, one_if, SameBeside}
use Rattle.px_pool.specs.Seats.{free_in}
use Rattle.htx_drive.specs.Weave.All.{held_by}

one_most : (b : Bool) → one_if b ≤ 1
one_most true = omega arith
one_most false = omega arith

-- those below the number are as they were
held_same : (number n : ℕ) (old new : List (Option ℕ)) → SameBeside number old new → n < number → held_by new n ≡ held_by old n
held_same number zero old new b h = refl
held_same number (suc n) old new b h =
    let one : one_if (has_one (suc n) new) ≡ one_if (has_one (suc n) old) = ap one_if (b.others (suc n) (λ e. omega (arith, e, h))) in
    let rest : held_by new n ≡ held_by old n = held_same number n old new b (omega (arith, h)) in
    omega (arith, one, rest)

held_changes : (number n : ℕ) (old new : List (Option ℕ)) → SameBeside number old new → 0 < number → number ≤ n → held_by new n + one_if (has_one number old) ≡ held_by old n + one_if (has_one number new)
held_changes number zero old new b some within = absurd (omega (arith, some, within))
held_changes number (suc n) old new b some within = elim (cases_eq number (suc n)) [
  | inl e ↦ (let rest : held_by new n ≡ held_by old n = held_same number n old new b (omega (arith, e)) in
      let was : one_if (has_one number old) ≡ one_if (has_one (suc n) old) = ap (λ (k : ℕ). one_if (has_one k old)) e in
      let is : one_if (has_one number new) ≡ one_if (has_one (suc n) new) = ap (λ (k : ℕ). one_if (has_one k new)) e in
      omega (arith, rest, was, is))
  | inr ne ↦ (let one : one_if (has_one (suc n) new) ≡ one_if (has_one (suc n) old) = ap one_if (b.others (suc n) (λ e. ne (sym e))) in
      let rest : held_by new n + one_if (has_one number old) ≡ held_by old n + one_if (has_one number new) = held_changes number n old new b some (omega (arith, ne, within)) in
      omega (arith, one, rest))
]

pub counts_on : (number n m : ℕ) (old new : List (Option ℕ)) → SameBeside number old new → 0 < number → number ≤ n → m ≡ n → count_out old ≡ held_by old n → count_out new ≡ held_by new m
counts_on number n m old new b some within e h =
    let P : ℕ → Type 0 = λ k. count_out new ≡ held_by new k in
    let held = held_changes number n old new b some within in
    let count = b.counts in
    subst P (sym e) (omega (arith, held, count, h))

held_most : (owners : List (Option ℕ)) (n : ℕ) → held_by owners n ≤ n
held_most owners zero = omega arith
held_most owners (suc n) = let rest : held_by owners n ≤ n = held_most owners n in let one = one_most (has_one (suc n) owners) in omega (arith, rest, one)

held_less : (number n : ℕ) (owners : List (Option ℕ)) → has_one number owners ≡ false → 0 < number → number ≤ n → held_by owners n < n
held_less number zero owners none some within = absurd (omega (arith, some, within))
held_less number (suc n) owners none some within = elim (cases_eq number (suc n)) [
  | inl e ↦ (let one : one_if (has_one (suc n) owners) ≡ 0 = ap (λ (k : ℕ). one_if (has_one k owners)) (sym e) ∙ ap one_if none in
      let rest : held_by owners n ≤ n = held_most owners n in
      omega (arith, one, rest))
  | inr ne ↦ (let rest : held_by owners n < n = held_less number n owners none some (omega (arith, ne, within)) in
      let one = one_most (has_one (suc n) owners) in
      omega (arith, rest, one))
]

pub held_none : (owners : List (Option ℕ)) (n : ℕ) → ((number : ℕ) → has_one number owners ≡ false) → held_by owners n ≡ 0
held_none owners zero h = refl
held_none owners (suc n) h =
    let one : one_if (has_one (suc n) owners) ≡ 0 = ap one_if (h (suc n)) in
    let rest : held_by owners n ≡ 0 = held_none owners n h in
    omega (arith, one, rest)

count_all : (owners : List (Option ℕ)) → all_out owners ≡ true → count_out owners ≡ length owners
count_all [] e = refl
count_all (None ∷ owners) e = absurd (false≢true e)
count_all (Some number ∷ owners) e = let rest : count_out owners ≡ length owners = count_all owners e in omega (arith, rest)

-- where there are cores for all, a connection that has none finds one that is free
pub has_room : (prompt : Bool) (number : ℕ) (owners : List (Option ℕ)) (conns : ℕ) → 0 < number → number ≤ conns → count_out owners ≡ held_by owners conns → (prompt ≡ true → conns ≤ length owners)
    → prompt ≡ true → has_one number owners ≡ false → all_out owners ≡ true → ⊥
has_room prompt number owners conns some within counts room e none all =
    let most = room e in
    let out = count_all owners all in
    let less = held_less number conns owners none some within in
    omega (arith, most, out, less, counts)

pub free_most : {C : Type 0} (owners : List (Option ℕ)) (cores : List C) → length (free_in owners cores) ≤ length owners
free_most [] cores = omega arith
free_most (owner ∷ owners) [] = omega arith
free_most (None ∷ owners) (core ∷ cores) = let rest = free_most owners cores in omega (arith, rest)
free_most (Some number ∷ owners) (core ∷ cores) = let rest = free_most owners cores in omega (arith, rest)
