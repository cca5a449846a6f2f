-- A connection takes the first core that is free.
use Rattle.std.proofs.Common.{◌≡◌, ◌≢◌, ℕ, zero, suc, ◌+◌, Bool, true, false, ◌||◌, nat_eq, if◌then◌else◌, List, [], ◌∷◌, ◌++◌, length, Option, Some, None, ap, sym, subst, ◌∙◌, refl, arith}
use Rattle.std.specs.Prelude.{set}
use Rattle.std.proofs.lemmas.Bool.{false≢true, true≢false, eq-eqb, eqb-false, ne_eqb}
use Rattle.px_pool.specs.Owners.{is_of, has_one, first_free, all_out, count_out, one_if, SameBeside}
use Rattle.px_pool.specs.Seats.{core_in, free_in, first_of, rest_of, AreApart, IsShared}

pub no_left : (a b : Bool) → (a || b) ≡ false → a ≡ false
no_left true b h = h
no_left false b h = refl

pub no_right : (a b : Bool) → (a || b) ≡ false → b ≡ false
no_right true b h = absurd (true≢false h)
no_right false b h = h

pub neither : (a b : Bool) → a ≡ false → b ≡ false → (a || b) ≡ false
neither true b h k = h
neither false b h k = k

pub or_second : (a b : Bool) → b ≡ true → (a || b) ≡ true
or_second true b h = refl
or_second false b h = h

pub not_same : (a b : ℕ) → nat_eq a b ≡ false → nat_eq b a ≡ false
not_same a b h = ne_eqb b a (λ e. eqb-false a b h (sym e))

pub taken_has : (conn : ℕ) (os : List (Option ℕ)) → all_out os ≡ false → has_one conn (set os (first_free os) (Some conn)) ≡ true
taken_has conn [] h = absurd (true≢false h)
taken_has conn (None ∷ os) h = ap (λ b. b || has_one conn os) (eq-eqb conn conn refl)
taken_has conn (Some owner ∷ os) h = or_second (nat_eq owner conn) (has_one conn (set os (first_free os) (Some conn))) (taken_has conn os h)

pub taken_core : {C : Type 0} (conn : ℕ) (os : List (Option ℕ)) (cs : List C) → has_one conn os ≡ false → core_in conn (set os (first_free os) (Some conn)) cs ≡ first_of (free_in os cs)
taken_core conn [] cs h = refl
taken_core conn (None ∷ os) [] h = refl
taken_core conn (None ∷ os) (c ∷ cs) h = ap (λ b. if b then Some c else core_in conn os cs) (eq-eqb conn conn refl)
taken_core conn (Some owner ∷ os) [] h = refl
taken_core conn (Some owner ∷ os) (c ∷ cs) h =
    ap (λ b. if b then Some c else core_in conn (set os (first_free os) (Some conn)) cs) (no_left (nat_eq owner conn) (has_one conn os) h)
    ∙ taken_core conn os cs (no_right (nat_eq owner conn) (has_one conn os) h)

pub taken_free : {C : Type 0} (conn : ℕ) (os : List (Option ℕ)) (cs : List C) → free_in (set os (first_free os) (Some conn)) cs ≡ rest_of (free_in os cs)
taken_free conn [] cs = refl
taken_free conn (None ∷ os) [] = refl
taken_free conn (None ∷ os) (c ∷ cs) = refl
taken_free conn (Some owner ∷ os) [] = refl
taken_free conn (Some owner ∷ os) (c ∷ cs) = taken_free conn os cs

pub taken_other : {C : Type 0} (conn other : ℕ) (os : List (Option ℕ)) (cs : List C) → other ≢ conn → core_in other (set os (first_free os) (Some conn)) cs ≡ core_in other os cs
taken_other conn other [] cs h = refl
taken_other conn other (None ∷ os) [] h = refl
taken_other conn other (None ∷ os) (c ∷ cs) h = ap (λ b. if b then Some c else core_in other os cs) (ne_eqb conn other (λ e. h (sym e)))
taken_other conn other (Some owner ∷ os) [] h = refl
taken_other conn other (Some owner ∷ os) (c ∷ cs) h = ap (λ x. if nat_eq owner other then Some c else x) (taken_other conn other os cs h)

pub taken_others : (conn other : ℕ) (os : List (Option ℕ)) → other ≢ conn → has_one other (set os (first_free os) (Some conn)) ≡ has_one other os
taken_others conn other [] h = refl
taken_others conn other (None ∷ os) h = ap (λ b. b || has_one other os) (ne_eqb conn other (λ e. h (sym e)))
taken_others conn other (Some owner ∷ os) h = ap (λ x. nat_eq owner other || x) (taken_others conn other os h)

pub taken_count : (conn : ℕ) (os : List (Option ℕ)) → all_out os ≡ false → count_out (set os (first_free os) (Some conn)) ≡ 1 + count_out os
taken_count conn [] h = absurd (true≢false h)
taken_count conn (None ∷ os) h = omega arith
taken_count conn (Some owner ∷ os) h = let e : count_out (set os (first_free os) (Some conn)) ≡ 1 + count_out os = taken_count conn os h in omega arith

has_kept : (owner conn : ℕ) (os : List (Option ℕ)) → has_one owner os ≡ false → nat_eq conn owner ≡ false → has_one owner (set os (first_free os) (Some conn)) ≡ false
has_kept owner conn [] h e = h
has_kept owner conn (None ∷ os) h e = neither (nat_eq conn owner) (has_one owner os) e h
has_kept owner conn (Some first ∷ os) h e =
    neither (nat_eq first owner) (has_one owner (set os (first_free os) (Some conn))) (no_left (nat_eq first owner) (has_one owner os) h) (has_kept owner conn os (no_right (nat_eq first owner) (has_one owner os) h) e)

pub taken_apart : (conn : ℕ) (os : List (Option ℕ)) → AreApart os → has_one conn os ≡ false → AreApart (set os (first_free os) (Some conn))
taken_apart conn [] a h = tt
taken_apart conn (None ∷ os) a h = (h, a.1)
taken_apart conn (Some owner ∷ os) a h =
    (has_kept owner conn os a.0 (not_same owner conn (no_left (nat_eq owner conn) (has_one conn os) h)), taken_apart conn os a.1 (no_right (nat_eq owner conn) (has_one conn os) h))

-- ---- the pool, of which this place was taken

pub length_set : (os : List (Option ℕ)) (k : ℕ) (o : Option ℕ) → length (set os k o) ≡ length os
length_set [] k o = refl
length_set (first ∷ os) zero o = refl
length_set (first ∷ os) (suc k) o = let e : length (set os k o) ≡ length os = length_set os k o in omega (arith, e)

pub taken_shared : (conn k : ℕ) (os : List (Option ℕ)) (count : ℕ) → k ≡ first_free os → IsShared os count → has_one conn os ≡ false → IsShared (set os k (Some conn)) count
taken_shared conn k os count e s h =
    subst (λ (at : ℕ). IsShared (set os at (Some conn)) count) (sym e) (record { same = length_set os (first_free os) (Some conn) ∙ s.same; apart = taken_apart conn os s.apart h })

pub taken_has_at : (conn k : ℕ) (os : List (Option ℕ)) → k ≡ first_free os → all_out os ≡ false → has_one conn (set os k (Some conn)) ≡ true
taken_has_at conn k os e h = ap (λ (at : ℕ). has_one conn (set os at (Some conn))) e ∙ taken_has conn os h

pub taken_count_at : (conn k : ℕ) (os : List (Option ℕ)) → k ≡ first_free os → all_out os ≡ false → count_out (set os k (Some conn)) ≡ 1 + count_out os
taken_count_at conn k os e h = ap (λ (at : ℕ). count_out (set os at (Some conn))) e ∙ taken_count conn os h

pub taken_core_at : {C : Type 0} (conn k : ℕ) (os : List (Option ℕ)) (cs : List C) → k ≡ first_free os → has_one conn os ≡ false → core_in conn (set os k (Some conn)) cs ≡ first_of (free_in os cs)
taken_core_at conn k os cs e h = ap (λ (at : ℕ). core_in conn (set os at (Some conn)) cs) e ∙ taken_core conn os cs h

pub taken_free_at : {C : Type 0} (conn k : ℕ) (os : List (Option ℕ)) (cs : List C) → k ≡ first_free os → free_in (set os k (Some conn)) cs ≡ rest_of (free_in os cs)
taken_free_at conn k os cs e = ap (λ (at : ℕ). free_in (set os at (Some conn)) cs) e ∙ taken_free conn os cs

pub taken_other_at : {C : Type 0} (conn k other : ℕ) (os : List (Option ℕ)) (cs : List C) → k ≡ first_free os → other ≢ conn → core_in other (set os k (Some conn)) cs ≡ core_in other os cs
taken_other_at conn k other os cs e h = ap (λ (at : ℕ). core_in other (set os at (Some conn)) cs) e ∙ taken_other conn other os cs h

pub taken_beside : (conn k : ℕ) (os : List (Option ℕ)) → k ≡ first_free os → all_out os ≡ false → has_one conn os ≡ false → SameBeside conn os (set os k (Some conn))
taken_beside conn k os e some without =
    let had : one_if (has_one conn os) ≡ 0 = ap one_if without in
    let has : one_if (has_one conn (set os k (Some conn))) ≡ 1 = ap one_if (taken_has_at conn k os e some) in
    let count = taken_count_at conn k os e some in
    record {
      sets = length_set os k (Some conn);
      others = λ other h. ap (λ (at : ℕ). has_one other (set os at (Some conn))) e ∙ taken_others conn other os h;
      counts = omega (arith, had, has, count);
    }

free_one_less : {C : Type 0} (conn : ℕ) (os : List (Option ℕ)) (cs : List C) → length os ≡ length cs → all_out os ≡ false → length (free_in (set os (first_free os) (Some conn)) cs) + 1 ≡ length (free_in os cs)
free_one_less conn [] cs e h = absurd (true≢false h)
free_one_less conn (owner ∷ os) [] e h = absurd (omega (arith, e))
free_one_less conn (None ∷ os) (c ∷ cs) e h = omega arith
free_one_less conn (Some owner ∷ os) (c ∷ cs) e h = free_one_less conn os cs (omega (arith, e)) h

pub taken_sets : {C : Type 0} (conn k : ℕ) (os : List (Option ℕ)) (cs : List C) → k ≡ first_free os → length os ≡ length cs → all_out os ≡ false
    → length (free_in (set os k (Some conn)) cs) + count_out (set os k (Some conn)) ≡ length (free_in os cs) + count_out os
taken_sets conn k os cs e l h =
    let at : length (free_in (set os k (Some conn)) cs) ≡ length (free_in (set os (first_free os) (Some conn)) cs) = ap (λ (n : ℕ). length (free_in (set os n (Some conn)) cs)) e in
    let less = free_one_less conn os cs l h in
    let count = taken_count_at conn k os e h in
    omega (arith, at, less, count)

-- ---- where all are out

pub none_free : {C : Type 0} (os : List (Option ℕ)) (cs : List C) → all_out os ≡ true → free_in os cs ≡ []
none_free [] cs h = refl
none_free (None ∷ os) cs h = absurd (false≢true h)
none_free (Some owner ∷ os) [] h = refl
none_free (Some owner ∷ os) (c ∷ cs) h = none_free os cs h

pub has_none : {C : Type 0} (conn : ℕ) (os : List (Option ℕ)) (cs : List C) → has_one conn os ≡ false → core_in conn os cs ≡ None
has_none conn [] cs h = refl
has_none conn (owner ∷ os) [] h = refl
has_none conn (owner ∷ os) (c ∷ cs) h = ap (λ b. if b then Some c else core_in conn os cs) (no_left (is_of conn owner) (has_one conn os) h) ∙ has_none conn os cs (no_right (is_of conn owner) (has_one conn os) h)

-- ---- where none is

pub fresh_free : {C : Type 0} (os : List (Option ℕ)) (cs : List C) → count_out os ≡ 0 → length os ≡ length cs → free_in os cs ≡ cs
fresh_free [] [] h e = refl
fresh_free [] (c ∷ cs) h e = absurd (omega (arith, e))
fresh_free (owner ∷ os) [] h e = absurd (omega (arith, e))
fresh_free (None ∷ os) (c ∷ cs) h e = ap (λ l. c ∷ l) (fresh_free os cs (omega (arith, h)) (omega (arith, e)))
fresh_free (Some owner ∷ os) (c ∷ cs) h e = absurd (omega (arith, h))

fresh_apart : (os : List (Option ℕ)) → count_out os ≡ 0 → AreApart os
fresh_apart [] h = tt
fresh_apart (None ∷ os) h = (tt, fresh_apart os (omega (arith, h)))
fresh_apart (Some owner ∷ os) h = absurd (omega (arith, h))

pub fresh_shared : (os : List (Option ℕ)) (count : ℕ) → length os ≡ count → count_out os ≡ 0 → IsShared os count
fresh_shared os count e h = record { same = e; apart = fresh_apart os h }

pub fresh_more : (os : List (Option ℕ)) → count_out os ≡ 0 → count_out (os ++ None ∷ []) ≡ 0
fresh_more [] h = refl
fresh_more (None ∷ os) h = omega (arith, fresh_more os (omega (arith, h)))
fresh_more (Some owner ∷ os) h = absurd (omega (arith, h))

pub length_more : (os : List (Option ℕ)) → length (os ++ None ∷ []) ≡ length os + 1
length_more [] = refl
length_more (owner ∷ os) = omega (arith, length_more os)
