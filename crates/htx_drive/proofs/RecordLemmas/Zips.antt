-- Lists place by place.
use Rattle.std.proofs.Common.{◌≡◌, ℕ, zero, suc, ◌+◌, ◌<◌, ◌≤◌, List, [], ◌∷◌, ◌++◌, length, Some, refl, sym, ap, subst, ◌∙◌, take, drop, length-append, arith}
use Rattle.std.specs.Prelude.{slice_get, sum_by}
use Rattle.std.specs.List.{AllZip, AllByRecursion}
use Rattle.std.proofs.Math.Seq.{take-append_seam}
use Rattle.std.proofs.lemmas.List.{append-nil}
use Rattle.std.proofs.lemmas.List.Sums.{sum_by-cons}

-- what stands at a place that is within a list
pub at_place : {A : Type 0} (xs : List A) (k : ℕ) → k < length xs → (x : A) × (slice_get xs k ≡ Some x)
at_place [] k h = absurd (omega (arith, h))
at_place (x ∷ xs) zero h = (x, refl)
at_place (x ∷ xs) (suc k) h = at_place xs k (omega (arith, h))

pub zip_at : {A B : Type 0} (R : A → B → Type 0) (xs : List A) (ys : List B) (k : ℕ) (x : A) (y : B) → AllZip R xs ys → slice_get xs k ≡ Some x → slice_get ys k ≡ Some y → R x y
zip_at R [] ys k x y all a b = absurd cc
zip_at R (z ∷ xs) [] k x y all a b = absurd all
zip_at {A} {B} R (z ∷ xs) (w ∷ ys) zero x y all a b =
    let e : z ≡ x = cc in
    let f : w ≡ y = cc in
    subst (λ (v : B). R x v) f (subst (λ (v : A). R v w) e all.0)
zip_at R (z ∷ xs) (w ∷ ys) (suc k) x y all a b = zip_at R xs ys k x y all.1 a b

pub zip_of : {A B : Type 0} (R : A → B → Type 0) (xs : List A) (ys : List B) → length ys ≡ length xs → ((k : ℕ) (x : A) (y : B) → slice_get xs k ≡ Some x → slice_get ys k ≡ Some y → R x y) → AllZip R xs ys
zip_of R [] [] e f = tt
zip_of R [] (y ∷ ys) e f = absurd (omega (arith, e))
zip_of R (x ∷ xs) [] e f = absurd (omega (arith, e))
zip_of R (x ∷ xs) (y ∷ ys) e f = (f zero x y refl refl, zip_of R xs ys (omega (arith, e)) (λ k z w a b. f (suc k) z w a b))

pub each_of : {A : Type 0} (P : A → Type 0) (xs : List A) → ((k : ℕ) (x : A) → slice_get xs k ≡ Some x → P x) → AllByRecursion P xs
each_of P [] f = tt
each_of P (x ∷ xs) f = (f zero x refl, each_of P xs (λ k z a. f (suc k) z a))

-- each number is at most what its element needs, so the sum is
pub sums : {A : Type 0} (need : A → ℕ) (xs : List A) (ns : List ℕ) → AllZip (λ x n. n ≤ need x) xs ns → sum_by (λ (n : ℕ). n) ns ≤ sum_by need xs
sums need [] [] all = omega arith
sums need [] (n ∷ ns) all = absurd all
sums need (x ∷ xs) [] all = absurd all
sums need (x ∷ xs) (n ∷ ns) all =
    let first = all.0 in
    let rest = sums need xs ns all.1 in
    omega (arith, first, rest, sum_by-cons need x xs, sum_by-cons (λ (m : ℕ). m) n ns)

-- ---- lists that grow at their end

pub each_push : {A : Type 0} (P : A → Type 0) (xs : List A) (x : A) → AllByRecursion P xs → P x → AllByRecursion P (xs ++ x ∷ [])
each_push P [] x all p = (p, tt)
each_push P (y ∷ xs) x all p = (all.0, each_push P xs x all.1 p)

pub each_pushed : {A : Type 0} (P : A → Type 0) (xs : List A) (x : A) (ys : List A) → ys ≡ xs ++ x ∷ [] → AllByRecursion P xs → P x → AllByRecursion P ys
each_pushed {A} P xs x ys is all p = subst (λ (l : List A). AllByRecursion P l) (sym is) (each_push P xs x all p)

-- nothing is left
pub zip_done : {A B : Type 0} (R : A → B → Type 0) (all left : List A) (front : List B) → left ≡ [] → ((later : List B) → AllZip R left later → AllZip R all (front ++ later)) → AllZip R all front
zip_done {A} {B} R all left front none so =
    let Q : List A → Type 0 = λ l. AllZip R l [] in
    subst (λ (l : List B). AllZip R all l) (append-nil front) (so [] (subst Q (sym none) tt))

pub one_longer : {A : Type 0} (xs : List A) (x : A) (ys : List A) {n : ℕ} → ys ≡ xs ++ x ∷ [] → length xs ≡ n → length ys ≡ n + 1
one_longer xs x ys {n = n} e f = omega (arith, ap (λ l. length l) e, length-append xs (x ∷ []), f)

-- ---- a vector that lent all of its elements

pub lent_back : {A : Type 0} (count : ℕ) (now given old : List A) → count ≡ length old → given ≡ old → length now ≡ length given → take count (now ++ drop (length now) old) ≡ now
lent_back {A} count now given old counted same long =
    let P : ℕ → Type 0 = λ n. take n (now ++ drop (length now) old) ≡ now in
    let all : length now ≡ count = long ∙ ap (λ (l : List A). length l) same ∙ sym counted in
    subst P all (take-append_seam now (drop (length now) old))
