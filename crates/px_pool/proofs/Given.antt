-- A connection's core is lent, or given back.
use Rattle.std.proofs.Common.{◌≡◌, ◌≢◌, ℕ, zero, suc, ◌+◌, Bool, true, false, ◌||◌, nat_eq, if◌then◌else◌, List, [], ◌∷◌, length, length-append, Option, Some, None, ap, sym, subst, ◌∙◌, refl, arith}
use Rattle.std.specs.Prelude.{set, get_or}
use Rattle.std.proofs.lemmas.Bool.{false≢true, eqb-true, ne_eqb}
use Rattle.px_pool.specs.Owners.{is_of, has_one, place_of, count_out, one_if, SameBeside}
use Rattle.px_pool.specs.Seats.{core_in, free_in, IsAlone, AreApart, IsShared, Inserted, Seats, core_of, free_of, with_core}
use Rattle.px_pool.proofs.Taken.{no_left, no_right, neither, length_set}

core_by : {C : Type 0} (b : Bool) (conn : ℕ) (os : List (Option ℕ)) (cs : List C) (c d : C) → (b || has_one conn os) ≡ true → (has_one conn os ≡ true → core_in conn os cs ≡ Some (get_or cs (place_of conn os) d))
    → (if b then Some c else core_in conn os cs) ≡ Some (get_or (c ∷ cs) (if b then 0 else suc (place_of conn os)) d)
core_by true conn os cs c d h rest = refl
core_by false conn os cs c d h rest = rest h

-- the core at the place of the connection
pub core_at : {C : Type 0} (conn : ℕ) (os : List (Option ℕ)) (cs : List C) (d : C) → has_one conn os ≡ true → length os ≡ length cs → core_in conn os cs ≡ Some (get_or cs (place_of conn os) d)
core_at conn [] cs d h e = absurd (false≢true h)
core_at conn (owner ∷ os) [] d h e = absurd (omega (arith, e))
core_at conn (owner ∷ os) (c ∷ cs) d h e = core_by (is_of conn owner) conn os cs c d h (λ k. core_at conn os cs d k (omega (arith, e)))

-- ---- a core in the place of another

-- the core of a connection that has the first of these cores, or one behind it
abbrev core_in_by : {C : Type 0} → Bool → ℕ → List (Option ℕ) → List C → Option C
core_in_by b conn os [] = None
core_in_by b conn os (c ∷ cs) = if b then Some c else core_in conn os cs

cores_by : {C : Type 0} (conn : ℕ) (owner : Option ℕ) (os : List (Option ℕ)) (cs : List C) → core_in conn (owner ∷ os) cs ≡ core_in_by (is_of conn owner) conn os cs
cores_by conn owner os [] = refl
cores_by conn owner os (c ∷ cs) = refl

no_cores : {C : Type 0} (conn : ℕ) (os : List (Option ℕ)) → core_in {C = C} conn os [] ≡ None
no_cores conn [] = refl
no_cores conn (owner ∷ os) = refl

put_by : {C : Type 0} (b : Bool) (conn : ℕ) (os : List (Option ℕ)) (cs : List C) (c w : C) → (b || has_one conn os) ≡ true → (has_one conn os ≡ true → core_in conn os (set cs (place_of conn os) w) ≡ Some w)
    → core_in_by b conn os (set (c ∷ cs) (if b then 0 else suc (place_of conn os)) w) ≡ Some w
put_by true conn os cs c w h rest = refl
put_by false conn os cs c w h rest = rest h

pub put_core : {C : Type 0} (conn : ℕ) (os : List (Option ℕ)) (cs : List C) (w : C) → has_one conn os ≡ true → length os ≡ length cs → core_in conn os (set cs (place_of conn os) w) ≡ Some w
put_core conn [] cs w h e = absurd (false≢true h)
put_core conn (owner ∷ os) [] w h e = absurd (omega (arith, e))
put_core conn (owner ∷ os) (c ∷ cs) w h e = cores_by conn owner os (set (c ∷ cs) (place_of conn (owner ∷ os)) w) ∙ put_by (is_of conn owner) conn os cs c w h (λ k. put_core conn os cs w k (omega (arith, e)))

other_put_by : {C : Type 0} (b : Bool) (conn other owner : ℕ) (os : List (Option ℕ)) (c : C) (cs : List C) (w : C) → (b ≡ true → owner ≡ conn) → other ≢ conn → core_in other os (set cs (place_of conn os) w) ≡ core_in other os cs
    → core_in other (Some owner ∷ os) (set (c ∷ cs) (if b then 0 else suc (place_of conn os)) w) ≡ core_in other (Some owner ∷ os) (c ∷ cs)
other_put_by true conn other owner os c cs w t h rest =
    let no : nat_eq owner other ≡ false = ne_eqb owner other (λ e. h (sym e ∙ t refl)) in
    ap (λ b. if b then Some w else core_in other os cs) no ∙ sym (ap (λ b. if b then Some c else core_in other os cs) no)
other_put_by false conn other owner os c cs w t h rest = ap (λ x. if nat_eq owner other then Some c else x) rest

pub put_other : {C : Type 0} (conn other : ℕ) (os : List (Option ℕ)) (cs : List C) (w : C) → other ≢ conn → core_in other os (set cs (place_of conn os) w) ≡ core_in other os cs
put_other conn other [] cs w h = refl
put_other conn other (owner ∷ os) [] w h = refl
put_other conn other (None ∷ os) (c ∷ cs) w h = put_other conn other os cs w h
put_other conn other (Some owner ∷ os) (c ∷ cs) w h = other_put_by (nat_eq owner conn) conn other owner os c cs w (eqb-true owner conn) h (put_other conn other os cs w h)

free_put_by : {C : Type 0} (b : Bool) (conn owner : ℕ) (os : List (Option ℕ)) (c : C) (cs : List C) (w : C) → free_in os (set cs (place_of conn os) w) ≡ free_in os cs
    → free_in (Some owner ∷ os) (set (c ∷ cs) (if b then 0 else suc (place_of conn os)) w) ≡ free_in os cs
free_put_by true conn owner os c cs w rest = refl
free_put_by false conn owner os c cs w rest = rest

pub put_free : {C : Type 0} (conn : ℕ) (os : List (Option ℕ)) (cs : List C) (w : C) → free_in os (set cs (place_of conn os) w) ≡ free_in os cs
put_free conn [] cs w = refl
put_free conn (owner ∷ os) [] w = refl
put_free conn (None ∷ os) (c ∷ cs) w = ap (λ l. c ∷ l) (put_free conn os cs w)
put_free conn (Some owner ∷ os) (c ∷ cs) w = free_put_by (nat_eq owner conn) conn owner os c cs w (put_free conn os cs w)

-- ---- given back

none_kept : (owner k : ℕ) (os : List (Option ℕ)) → has_one owner os ≡ false → has_one owner (set os k None) ≡ false
none_kept owner k [] h = h
none_kept owner zero (first ∷ os) h = no_right (is_of owner first) (has_one owner os) h
none_kept owner (suc k) (first ∷ os) h = neither (is_of owner first) (has_one owner (set os k None)) (no_left (is_of owner first) (has_one owner os) h) (none_kept owner k os (no_right (is_of owner first) (has_one owner os) h))

alone_kept : (owner : Option ℕ) (k : ℕ) (os : List (Option ℕ)) → IsAlone owner os → IsAlone owner (set os k None)
alone_kept None k os h = tt
alone_kept (Some owner) k os h = none_kept owner k os h

apart_kept : (k : ℕ) (os : List (Option ℕ)) → AreApart os → AreApart (set os k None)
apart_kept k [] a = tt
apart_kept zero (owner ∷ os) a = (tt, a.1)
apart_kept (suc k) (owner ∷ os) a = (alone_kept owner k os a.0, apart_kept k os a.1)

pub given_shared : (k : ℕ) (os : List (Option ℕ)) (count : ℕ) → IsShared os count → IsShared (set os k None) count
given_shared k os count s = record { same = length_set os k None ∙ s.same; apart = apart_kept k os s.apart }

gone_by : (b : Bool) (conn owner : ℕ) (os : List (Option ℕ)) → (b ≡ true → owner ≡ conn) → (b ≡ false → nat_eq owner conn ≡ false) → has_one owner os ≡ false → has_one conn (set os (place_of conn os) None) ≡ false
    → has_one conn (set (Some owner ∷ os) (if b then 0 else suc (place_of conn os)) None) ≡ false
gone_by true conn owner os t f alone rest = subst (λ (k : ℕ). has_one k os ≡ false) (t refl) alone
gone_by false conn owner os t f alone rest = neither (nat_eq owner conn) (has_one conn (set os (place_of conn os) None)) (f refl) rest

gone : (conn : ℕ) (os : List (Option ℕ)) → AreApart os → has_one conn (set os (place_of conn os) None) ≡ false
gone conn [] a = refl
gone conn (None ∷ os) a = gone conn os a.1
gone conn (Some owner ∷ os) a = gone_by (nat_eq owner conn) conn owner os (eqb-true owner conn) (λ e. e) a.0 (gone conn os a.1)

pub given_gone : (conn k : ℕ) (os : List (Option ℕ)) → k ≡ place_of conn os → AreApart os → has_one conn (set os k None) ≡ false
given_gone conn k os e a = ap (λ (at : ℕ). has_one conn (set os at None)) e ∙ gone conn os a

other_by : {C : Type 0} (b : Bool) (conn other owner : ℕ) (os : List (Option ℕ)) (c : C) (cs : List C) → (b ≡ true → owner ≡ conn) → other ≢ conn → core_in other (set os (place_of conn os) None) cs ≡ core_in other os cs
    → core_in other (set (Some owner ∷ os) (if b then 0 else suc (place_of conn os)) None) (c ∷ cs) ≡ core_in other (Some owner ∷ os) (c ∷ cs)
other_by true conn other owner os c cs t h rest = sym (ap (λ b. if b then Some c else core_in other os cs) (ne_eqb owner other (λ e. h (sym e ∙ t refl))))
other_by false conn other owner os c cs t h rest = ap (λ x. if nat_eq owner other then Some c else x) rest

others : {C : Type 0} (conn other : ℕ) (os : List (Option ℕ)) (cs : List C) → other ≢ conn → core_in other (set os (place_of conn os) None) cs ≡ core_in other os cs
others conn other [] cs h = refl
others conn other (None ∷ os) [] h = refl
others conn other (None ∷ os) (c ∷ cs) h = others conn other os cs h
others conn other (Some owner ∷ os) [] h = no_cores other (set (Some owner ∷ os) (place_of conn (Some owner ∷ os)) None)
others conn other (Some owner ∷ os) (c ∷ cs) h = other_by (nat_eq owner conn) conn other owner os c cs (eqb-true owner conn) h (others conn other os cs h)

pub given_other : {C : Type 0} (conn k other : ℕ) (os : List (Option ℕ)) (cs : List C) → k ≡ place_of conn os → other ≢ conn → core_in other (set os k None) cs ≡ core_in other os cs
given_other conn k other os cs e h = ap (λ (at : ℕ). core_in other (set os at None) cs) e ∙ others conn other os cs h

one_by : (b : Bool) (conn other owner : ℕ) (os : List (Option ℕ)) → (b ≡ true → owner ≡ conn) → other ≢ conn → has_one other (set os (place_of conn os) None) ≡ has_one other os
    → has_one other (set (Some owner ∷ os) (if b then 0 else suc (place_of conn os)) None) ≡ has_one other (Some owner ∷ os)
one_by true conn other owner os t h rest = sym (ap (λ b. b || has_one other os) (ne_eqb owner other (λ e. h (sym e ∙ t refl))))
one_by false conn other owner os t h rest = ap (λ x. nat_eq owner other || x) rest

ones : (conn other : ℕ) (os : List (Option ℕ)) → other ≢ conn → has_one other (set os (place_of conn os) None) ≡ has_one other os
ones conn other [] h = refl
ones conn other (None ∷ os) h = ones conn other os h
ones conn other (Some owner ∷ os) h = one_by (nat_eq owner conn) conn other owner os (eqb-true owner conn) h (ones conn other os h)

free_by : {C : Type 0} (b : Bool) (conn owner : ℕ) (os : List (Option ℕ)) (c : C) (cs : List C) → (b || has_one conn os) ≡ true → (has_one conn os ≡ true → Inserted (core_in conn os cs) (free_in os cs) (free_in (set os (place_of conn os) None) cs))
    → Inserted (if b then Some c else core_in conn os cs) (free_in os cs) (free_in (set (Some owner ∷ os) (if b then 0 else suc (place_of conn os)) None) (c ∷ cs))
free_by true conn owner os c cs h rest = record { one = c; is = refl; before = []; behind = free_in os cs; was = refl; has = refl }
free_by false conn owner os c cs h rest = rest h

freed : {C : Type 0} (conn : ℕ) (os : List (Option ℕ)) (cs : List C) → length os ≡ length cs → has_one conn os ≡ true → Inserted (core_in conn os cs) (free_in os cs) (free_in (set os (place_of conn os) None) cs)
freed conn [] cs e h = absurd (false≢true h)
freed conn (owner ∷ os) [] e h = absurd (omega (arith, e))
freed conn (None ∷ os) (c ∷ cs) e h =
    let rest = freed conn os cs (omega (arith, e)) h in
    record { one = rest.one; is = rest.is; before = c ∷ rest.before; behind = rest.behind; was = ap (λ l. c ∷ l) rest.was; has = ap (λ l. c ∷ l) rest.has }
freed conn (Some owner ∷ os) (c ∷ cs) e h = free_by (nat_eq owner conn) conn owner os c cs h (λ k. freed conn os cs (omega (arith, e)) k)

pub given_free : {C : Type 0} (conn k : ℕ) (os : List (Option ℕ)) (cs : List C) → k ≡ place_of conn os → length os ≡ length cs → has_one conn os ≡ true → Inserted (core_in conn os cs) (free_in os cs) (free_in (set os k None) cs)
given_free conn k os cs e l h = subst (λ (at : ℕ). Inserted (core_in conn os cs) (free_in os cs) (free_in (set os at None) cs)) (sym e) (freed conn os cs l h)

count_by : (b : Bool) (conn owner : ℕ) (os : List (Option ℕ)) → (b || has_one conn os) ≡ true → (has_one conn os ≡ true → 1 + count_out (set os (place_of conn os) None) ≡ count_out os)
    → 1 + count_out (set (Some owner ∷ os) (if b then 0 else suc (place_of conn os)) None) ≡ count_out (Some owner ∷ os)
count_by true conn owner os h rest = omega arith
count_by false conn owner os h rest = let e : 1 + count_out (set os (place_of conn os) None) ≡ count_out os = rest h in omega arith

counted : (conn : ℕ) (os : List (Option ℕ)) → has_one conn os ≡ true → 1 + count_out (set os (place_of conn os) None) ≡ count_out os
counted conn [] h = absurd (false≢true h)
counted conn (None ∷ os) h = let e : 1 + count_out (set os (place_of conn os) None) ≡ count_out os = counted conn os h in omega arith
counted conn (Some owner ∷ os) h = count_by (nat_eq owner conn) conn owner os h (counted conn os)

pub given_count : (conn k : ℕ) (os : List (Option ℕ)) → k ≡ place_of conn os → has_one conn os ≡ true → 1 + count_out (set os k None) ≡ count_out os
given_count conn k os e h = ap (λ (at : ℕ). 1 + count_out (set os at None)) e ∙ counted conn os h

pub given_beside : (conn k : ℕ) (os : List (Option ℕ)) → k ≡ place_of conn os → AreApart os → has_one conn os ≡ true → SameBeside conn os (set os k None)
given_beside conn k os e apart has =
    let had : one_if (has_one conn os) ≡ 1 = ap one_if has in
    let none : one_if (has_one conn (set os k None)) ≡ 0 = ap one_if (given_gone conn k os e apart) in
    let count = given_count conn k os e has in
    record {
      sets = length_set os k None;
      others = λ other h. ap (λ (at : ℕ). has_one other (set os at None)) e ∙ ones conn other os h;
      counts = omega (arith, had, none, count);
    }

pub given_sets : {C : Type 0} (conn k : ℕ) (os : List (Option ℕ)) (cs : List C) → k ≡ place_of conn os → length os ≡ length cs → has_one conn os ≡ true
    → length (free_in (set os k None) cs) + count_out (set os k None) ≡ length (free_in os cs) + count_out os
given_sets conn k os cs e l has =
    let i = given_free conn k os cs e l has in
    let old : length (free_in os cs) ≡ length i.before + length i.behind = ap (λ l. length l) i.was ∙ length-append i.before i.behind in
    let new : length (free_in (set os k None) cs) ≡ length i.before + length (i.one ∷ i.behind) = ap (λ l. length l) i.has ∙ length-append i.before (i.one ∷ i.behind) in
    let count = given_count conn k os e has in
    omega (arith, old, new, count)

-- ---- the pool

pub lent : {C : Type 0} (conn k : ℕ) (os : List (Option ℕ)) (cs : List C) (now : Seats C) → record { owners = os; cores = cs } ≡ now → k ≡ place_of conn os → (w : C) → record { owners = os; cores = set cs k w } ≡ with_core conn now w
lent conn k os cs now v e w =
    let old : Seats _ = record { owners = os; cores = cs } in
    let at : ℕ → Seats _ = λ k. record { owners = os; cores = set cs k w } in
    ap at e ∙ ap (λ (p : Seats _). with_core conn p w) v

pub lent_value : {C : Type 0} (conn k : ℕ) (os : List (Option ℕ)) (cs : List C) (now : Seats C) (c : C) → record { owners = os; cores = cs } ≡ now → k ≡ place_of conn os → c ≡ get_or cs k c → has_one conn now.owners ≡ true → length os ≡ length cs → core_of conn now ≡ Some c
lent_value conn k os cs now c v e is h l =
    let has : has_one conn os ≡ true = ap (λ (p : Seats _). has_one conn p.owners) v ∙ h in
    sym (ap (λ (p : Seats _). core_of conn p) v) ∙ core_at conn os cs c has l ∙ ap (λ (k : ℕ). Some (get_or cs k c)) (sym e) ∙ ap (λ x. Some x) (sym is)

pub back : {C : Type 0} (conn k : ℕ) (os : List (Option ℕ)) (cs : List C) (now : Seats C) → record { owners = os; cores = cs } ≡ now → k ≡ place_of conn os → has_one conn now.owners ≡ true → length os ≡ length cs
    → Inserted (core_of conn now) (free_of now) (free_in (set os k None) cs)
back conn k os cs now v e h l =
    let has : has_one conn os ≡ true = ap (λ (p : Seats _). has_one conn p.owners) v ∙ h in
    subst (λ (p : Seats _). Inserted (core_of conn p) (free_of p) (free_in (set os k None) cs)) v (given_free conn k os cs e l has)

pub lent_put : {C : Type 0} (conn : ℕ) (os : List (Option ℕ)) (cs : List C) (now : Seats C) → record { owners = os; cores = cs } ≡ now → has_one conn now.owners ≡ true → length os ≡ length cs → (w : C) → core_of conn (with_core conn now w) ≡ Some w
lent_put conn os cs now v h l w =
    let has : has_one conn os ≡ true = ap (λ (p : Seats _). has_one conn p.owners) v ∙ h in
    sym (ap (λ (p : Seats _). core_of conn (with_core conn p w)) v) ∙ put_core conn os cs w has l

pub put_others : {C : Type 0} (conn other : ℕ) (old : Seats C) (w : C) → other ≢ conn → core_of other (with_core conn old w) ≡ core_of other old
put_others conn other old w h = put_other conn other old.owners old.cores w h
