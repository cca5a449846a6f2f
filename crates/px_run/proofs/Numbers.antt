-- One of many, by its number and by its place.
use Rattle.std.proofs.Common.{◌≡◌, ℕ, zero, suc, ◌+◌, ◌<◌, ◌≤◌, List, [], ◌∷◌, ◌++◌, Option, Some, None, length, map, get_or, set, refl, ap, subst, ◌∙◌, inl, inr, arith}
use Rattle.std.specs.Prelude.{slice_get, ◌⊎◌}
use Rattle.std.specs.List.{AllByRecursion, sum_by}
use Rattle.std.proofs.lemmas.Option.{slice_get-get_or, slice_get_within}
use Rattle.std.proofs.lemmas.List.Sums.{sum_by-cons}
use Rattle.px_run.specs.History.{numbered, change_at, change_numbered}
use Rattle.px_run.specs.Hall.{IsHere}

pub some_same : {A : Type 0} (x y : A) → Some x ≡ Some y → x ≡ y
some_same x y e = cc

pub none_is : {A : Type 0} (x : A) → None ≡ Some x → ⊥
none_is x e = cc

-- ---- one is changed

change_here : {A : Type 0} (f : A → A) (all : List A) (place : ℕ) (x : A) → slice_get all place ≡ Some x → slice_get (change_at f place all) place ≡ Some (f x)
change_here f [] place x e = absurd (none_is x e)
change_here f (y ∷ ys) zero x e = ap (λ z. Some (f z)) (some_same y x e)
change_here f (y ∷ ys) (suc place) x e = change_here f ys place x e

change_other : {A : Type 0} (f : A → A) (all : List A) (place other : ℕ) → (other ≡ place → ⊥) → slice_get (change_at f place all) other ≡ slice_get all other
change_other f [] place other n = refl
change_other f (y ∷ ys) zero zero n = absurd (n refl)
change_other f (y ∷ ys) zero (suc other) n = refl
change_other f (y ∷ ys) (suc place) zero n = refl
change_other f (y ∷ ys) (suc place) (suc other) n = change_other f ys place other (λ e. n (ap (λ k. suc k) e))

change_view : {A B : Type 0} (g : Option A → B) (f : A → A) → ((x : A) → g (Some (f x)) ≡ g (Some x)) → (all : List A) (place other : ℕ) → g (slice_get (change_at f place all) other) ≡ g (slice_get all other)
change_view g f h [] place other = refl
change_view g f h (y ∷ ys) zero zero = h y
change_view g f h (y ∷ ys) zero (suc other) = refl
change_view g f h (y ∷ ys) (suc place) zero = refl
change_view g f h (y ∷ ys) (suc place) (suc other) = change_view g f h ys place other

change_map : {A B : Type 0} (g : A → B) (f : A → A) → ((x : A) → g (f x) ≡ g x) → (all : List A) (place : ℕ) → map g (change_at f place all) ≡ map g all
change_map g f h [] place = refl
change_map g f h (y ∷ ys) zero = ap (λ z. z ∷ map g ys) (h y)
change_map g f h (y ∷ ys) (suc place) = ap (λ l. g y ∷ l) (change_map g f h ys place)

change_all : {A : Type 0} (P : A → Type 0) (f : A → A) (all : List A) (place : ℕ) → ((x : A) → slice_get all place ≡ Some x → P x → P (f x)) → AllByRecursion P all → AllByRecursion P (change_at f place all)
change_all P f [] place h a = tt
change_all P f (y ∷ ys) zero h a = (h y refl a.0, a.1)
change_all P f (y ∷ ys) (suc place) h a = (a.0, change_all P f ys place h a.1)

change_sum : {A : Type 0} (g : A → ℕ) (f : A → A) (all : List A) (place : ℕ) (x : A) → slice_get all place ≡ Some x → sum_by g (change_at f place all) + g x ≡ sum_by g all + g (f x)
change_sum g f [] place x e = absurd (none_is x e)
change_sum g f (y ∷ ys) zero x e =
    let new : sum_by g (f y ∷ ys) ≡ g (f y) + sum_by g ys = sum_by-cons g (f y) ys in
    let old : sum_by g (y ∷ ys) ≡ g y + sum_by g ys = sum_by-cons g y ys in
    let is : g y ≡ g x = ap g (some_same y x e) in
    let was : g (f y) ≡ g (f x) = ap (λ z. g (f z)) (some_same y x e) in
    omega (arith, new, old, is, was)
change_sum g f (y ∷ ys) (suc place) x e =
    let new : sum_by g (y ∷ change_at f place ys) ≡ g y + sum_by g (change_at f place ys) = sum_by-cons g y (change_at f place ys) in
    let old : sum_by g (y ∷ ys) ≡ g y + sum_by g ys = sum_by-cons g y ys in
    let more = change_sum g f ys place x e in
    omega (arith, new, old, more)

pub num_here : {A : Type 0} (f : A → A) (all : List A) (number : ℕ) (x : A) → numbered number all ≡ Some x → numbered number (change_numbered f number all) ≡ Some (f x)
num_here f all zero x e = absurd (none_is x e)
num_here f all (suc place) x e = change_here f all place x e

pub num_other : {A : Type 0} (f : A → A) (all : List A) (number other : ℕ) → (other ≡ number → ⊥) → numbered other (change_numbered f number all) ≡ numbered other all
num_other f all zero other n = refl
num_other f all (suc place) zero n = refl
num_other f all (suc place) (suc other) n = change_other f all place other (λ e. n (ap (λ k. suc k) e))

pub num_view : {A B : Type 0} (g : Option A → B) (f : A → A) → ((x : A) → g (Some (f x)) ≡ g (Some x)) → (all : List A) (number other : ℕ) → g (numbered other (change_numbered f number all)) ≡ g (numbered other all)
num_view g f h all zero other = refl
num_view g f h all (suc place) zero = refl
num_view g f h all (suc place) (suc other) = change_view g f h all place other

pub num_map : {A B : Type 0} (g : A → B) (f : A → A) → ((x : A) → g (f x) ≡ g x) → (all : List A) (number : ℕ) → map g (change_numbered f number all) ≡ map g all
num_map g f h all zero = refl
num_map g f h all (suc place) = change_map g f h all place

pub num_all : {A : Type 0} (P : A → Type 0) (f : A → A) (all : List A) (number : ℕ) → ((x : A) → numbered number all ≡ Some x → P x → P (f x)) → AllByRecursion P all → AllByRecursion P (change_numbered f number all)
num_all P f all zero h a = a
num_all P f all (suc place) h a = change_all P f all place h a

pub num_sum : {A : Type 0} (g : A → ℕ) (f : A → A) (all : List A) (number : ℕ) (x : A) → numbered number all ≡ Some x → sum_by g (change_numbered f number all) + g x ≡ sum_by g all + g (f x)
num_sum g f all zero x e = absurd (none_is x e)
num_sum g f all (suc place) x e = change_sum g f all place x e

get_all : {A : Type 0} (P : A → Type 0) (all : List A) (place : ℕ) (x : A) → slice_get all place ≡ Some x → AllByRecursion P all → P x
get_all P [] place x e a = absurd (none_is x e)
get_all P (y ∷ ys) zero x e a = subst P (some_same y x e) a.0
get_all P (y ∷ ys) (suc place) x e a = get_all P ys place x e a.1

-- what all are the one of a number is
pub num_get : {A : Type 0} (P : A → Type 0) (all : List A) (number : ℕ) (x : A) → numbered number all ≡ Some x → AllByRecursion P all → P x
num_get P all zero x e a = absurd (none_is x e)
num_get P all (suc place) x e a = get_all P all place x e a

-- ---- one more

get_more : {A : Type 0} (all more : List A) (place : ℕ) (x : A) → slice_get all place ≡ Some x → slice_get (all ++ more) place ≡ Some x
get_more [] more place x e = absurd (none_is x e)
get_more (y ∷ ys) more zero x e = e
get_more (y ∷ ys) more (suc place) x e = get_more ys more place x e

get_last : {A : Type 0} (all : List A) (x : A) (place : ℕ) → place ≡ length all → slice_get (all ++ x ∷ []) place ≡ Some x
get_last [] x zero e = refl
get_last [] x (suc place) e = absurd (omega (arith, e))
get_last (y ∷ ys) x zero e = absurd (omega (arith, e))
get_last (y ∷ ys) x (suc place) e = get_last ys x place (omega (arith, e))

get_view : {A B : Type 0} (g : Option A → B) (all : List A) (x : A) (place : ℕ) → g (Some x) ≡ g None → g (slice_get (all ++ x ∷ []) place) ≡ g (slice_get all place)
get_view g [] x zero h = h
get_view g [] x (suc place) h = refl
get_view g (y ∷ ys) x zero h = refl
get_view g (y ∷ ys) x (suc place) h = get_view g ys x place h

pub num_more : {A : Type 0} (all more : List A) (number : ℕ) (x : A) → numbered number all ≡ Some x → numbered number (all ++ more) ≡ Some x
num_more all more zero x e = absurd (none_is x e)
num_more all more (suc place) x e = get_more all more place x e

pub num_last : {A : Type 0} (all : List A) (x : A) (number : ℕ) → number ≡ length all + 1 → numbered number (all ++ x ∷ []) ≡ Some x
num_last all x zero e = absurd (omega (arith, e))
num_last all x (suc place) e = get_last all x place (omega (arith, e))

pub num_last_view : {A B : Type 0} (g : Option A → B) (all : List A) (x : A) (number : ℕ) → g (Some x) ≡ g None → g (numbered number (all ++ x ∷ [])) ≡ g (numbered number all)
num_last_view g all x zero h = refl
num_last_view g all x (suc place) h = get_view g all x place h

pub num_within : {A : Type 0} (all : List A) (number : ℕ) (x : A) → numbered number all ≡ Some x → number ≤ length all
num_within all zero x e = absurd (none_is x e)
num_within all (suc place) x e = let w = slice_get_within all place x e in omega (arith, w)

-- ---- places

-- one place is set
pub here_set : {A : Type 0} (places : List (Option A)) (place other : ℕ) (at : Option A) (x : A) → IsHere (set places place at) other x → ((other ≡ place) × (at ≡ Some x)) ⊎ ((other ≡ place → ⊥) × IsHere places other x)
here_set [] place other at x h = absurd (none_is _ h)
here_set (y ∷ ys) zero zero at x h = inl (refl, some_same at (Some x) h)
here_set (y ∷ ys) zero (suc other) at x h = inr (λ e. omega (arith, e), h)
here_set (y ∷ ys) (suc place) zero at x h = inr (λ e. omega (arith, e), h)
here_set (y ∷ ys) (suc place) (suc other) at x h = elim (here_set ys place other at x h) [
  | inl k ↦ inl (ap (λ n. suc n) k.0, k.1)
  | inr k ↦ inr (λ e. k.0 (omega (arith, e)), k.1)
]

pub here_at : {A : Type 0} (places : List (Option A)) (place : ℕ) (at : Option A) (x : A) → place < length places → get_or places place at ≡ at → at ≡ Some x → IsHere places place x
here_at places place at x w e f = slice_get-get_or places place at w ∙ ap (λ o. Some o) (e ∙ f)

pub here_more : {A : Type 0} (places more : List (Option A)) (place : ℕ) (x : A) → IsHere places place x → IsHere (places ++ more) place x
here_more places more place x h = get_more places more place (Some x) h

pub here_last : {A : Type 0} (places : List (Option A)) (x : A) → IsHere (places ++ Some x ∷ []) (length places) x
here_last places x = get_last places (Some x) (length places) refl

pub here_within : {A : Type 0} (places : List (Option A)) (place : ℕ) (x : A) → IsHere places place x → place < length places
here_within places place x h = slice_get_within places place (Some x) h

-- a further place at which nobody is
pub here_front : {A : Type 0} (places : List (Option A)) (place : ℕ) (x : A) → IsHere (places ++ None ∷ []) place x → IsHere places place x
here_front [] zero x h = absurd (none_is x (some_same None (Some x) h))
here_front [] (suc place) x h = absurd (none_is (Some x) h)
here_front (y ∷ ys) zero x h = h
here_front (y ∷ ys) (suc place) x h = here_front ys place x h
