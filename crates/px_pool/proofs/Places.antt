-- Where the core of a connection stands, and where the first that is free.
use Rattle.std.proofs.Common.{◌≡◌, ℕ, suc, ◌+◌, ◌<◌, ◌≤◌, Bool, true, false, ◌||◌, if◌then◌else◌, List, ◌∷◌, length, Option, Some, None, ap, sym, ◌∙◌, refl, arith}
use Rattle.std.specs.Prelude.{get_or, drop, is_none}
use Rattle.std.proofs.Math.Seq.{drop-cons}
use Rattle.std.proofs.Math.Numerals.{suc-eq-add-one}
use Rattle.std.proofs.lemmas.Bool.{false≢true, true≢false}
use Rattle.px_pool.specs.Owners.{is_of, has_one, place_of, first_free, all_out, one_out, count_out}

next_drop : (os : List (Option ℕ)) (i : ℕ) → i < length os → drop i os ≡ get_or os i None ∷ drop (i + 1) os
next_drop os i h = drop-cons os i None h ∙ ap (λ k. get_or os i None ∷ drop k os) (suc-eq-add-one i)

-- ---- the first that is free

free_later : (owner : Option ℕ) (os : List (Option ℕ)) → is_none owner ≡ false → first_free (owner ∷ os) ≡ suc (first_free os)
free_later None os h = absurd (true≢false h)
free_later (Some conn) os h = refl

free_here : (owner : Option ℕ) (os : List (Option ℕ)) → is_none owner ≡ true → first_free (owner ∷ os) ≡ 0
free_here None os h = refl
free_here (Some conn) os h = absurd (false≢true h)

all_later : (owner : Option ℕ) (os : List (Option ℕ)) → is_none owner ≡ false → all_out (owner ∷ os) ≡ all_out os
all_later None os h = absurd (true≢false h)
all_later (Some conn) os h = refl

all_here : (owner : Option ℕ) (os : List (Option ℕ)) → is_none owner ≡ true → all_out (owner ∷ os) ≡ false
all_here None os h = refl
all_here (Some conn) os h = absurd (false≢true h)

pub free_passes : (os : List (Option ℕ)) (i total : ℕ) → i < length os → is_none (get_or os i None) ≡ false → i + first_free (drop i os) ≡ total → (i + 1) + first_free (drop (i + 1) os) ≡ total
free_passes os i total h e p =
    let q : first_free (drop i os) ≡ suc (first_free (drop (i + 1) os)) = ap (λ l. first_free l) (next_drop os i h) ∙ free_later (get_or os i None) (drop (i + 1) os) e in
    omega arith

pub out_passes : (os : List (Option ℕ)) (i : ℕ) (all : Bool) → i < length os → is_none (get_or os i None) ≡ false → all_out (drop i os) ≡ all → all_out (drop (i + 1) os) ≡ all
out_passes os i all h e p = sym (all_later (get_or os i None) (drop (i + 1) os) e) ∙ sym (ap (λ l. all_out l) (next_drop os i h)) ∙ p

pub free_found : (os : List (Option ℕ)) (i total : ℕ) → i < length os → is_none (get_or os i None) ≡ true → i + first_free (drop i os) ≡ total → i ≡ total
free_found os i total h e p =
    let q : first_free (drop i os) ≡ 0 = ap (λ l. first_free l) (next_drop os i h) ∙ free_here (get_or os i None) (drop (i + 1) os) e in
    omega arith

pub out_found : (os : List (Option ℕ)) (i : ℕ) (all : Bool) → i < length os → is_none (get_or os i None) ≡ true → all_out (drop i os) ≡ all → all ≡ false
out_found os i all h e p = sym p ∙ ap (λ l. all_out l) (next_drop os i h) ∙ all_here (get_or os i None) (drop (i + 1) os) e

-- ---- the core of a connection

pub place_passes : (conn : ℕ) (os : List (Option ℕ)) (i total : ℕ) → i < length os → is_of conn (get_or os i None) ≡ false → i + place_of conn (drop i os) ≡ total → (i + 1) + place_of conn (drop (i + 1) os) ≡ total
place_passes conn os i total h e p =
    let q : place_of conn (drop i os) ≡ suc (place_of conn (drop (i + 1) os)) = ap (λ l. place_of conn l) (next_drop os i h) ∙ ap (λ b. if b then 0 else suc (place_of conn (drop (i + 1) os))) e in
    omega arith

pub has_passes : (conn : ℕ) (os : List (Option ℕ)) (i : ℕ) (has : Bool) → i < length os → is_of conn (get_or os i None) ≡ false → has_one conn (drop i os) ≡ has → has_one conn (drop (i + 1) os) ≡ has
has_passes conn os i has h e p = sym (ap (λ l. has_one conn l) (next_drop os i h) ∙ ap (λ b. b || has_one conn (drop (i + 1) os)) e) ∙ p

pub place_found : (conn : ℕ) (os : List (Option ℕ)) (i total : ℕ) → i < length os → is_of conn (get_or os i None) ≡ true → i + place_of conn (drop i os) ≡ total → i ≡ total
place_found conn os i total h e p =
    let q : place_of conn (drop i os) ≡ 0 = ap (λ l. place_of conn l) (next_drop os i h) ∙ ap (λ b. if b then 0 else suc (place_of conn (drop (i + 1) os))) e in
    omega arith

pub has_found : (conn : ℕ) (os : List (Option ℕ)) (i : ℕ) (has : Bool) → i < length os → is_of conn (get_or os i None) ≡ true → has_one conn (drop i os) ≡ has → has ≡ true
has_found conn os i has h e p = sym p ∙ ap (λ l. has_one conn l) (next_drop os i h) ∙ ap (λ b. b || has_one conn (drop (i + 1) os)) e

-- ---- how many

pub count_passes : (os : List (Option ℕ)) (i count one total : ℕ) → i < length os → one ≡ one_out (get_or os i None) → count + count_out (drop i os) ≡ total → (count + one) + count_out (drop (i + 1) os) ≡ total
count_passes os i count one total h e p =
    let q : count_out (drop i os) ≡ one_out (get_or os i None) + count_out (drop (i + 1) os) = ap (λ l. count_out l) (next_drop os i h) in
    omega arith

pub one_small : (one : ℕ) (owner : Option ℕ) → one ≡ one_out owner → one ≤ 1
one_small one None h = omega (arith, h)
one_small one (Some conn) h = omega (arith, h)
