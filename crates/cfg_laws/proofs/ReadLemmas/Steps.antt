-- What passes a test, through steps.
use Rattle.std.proofs.Common.{◌≡◌, Bool, true, false, cond, List, [], ◌∷◌, Result, Ok, Err, refl, subst}
use Rattle.std.proofs.lemmas.Bool.{and_parts}
use Rattle.std.specs.List.{list_all}
use Rattle.std.specs.Prelude.{Option, Some, None}
use Rattle.cfg_expr.specs.Steps as steps
use Rattle.cfg_expr.specs.declared.fault.TextKind.TheVariants.{Expr}
use Rattle.cfg_expr.specs.Faults.{Told}
use Rattle.cfg_expr.specs.Fetches.{expected}
use Rattle.cfg_expr.specs.Reading.{Reading, given_by}

-- the value, where there is one, passes a test
abbrev pub Has : {A : Type 0} → (A → Bool) → Option A → Type 0
Has test None = Unit {0}
Has test (Some x) = test x ≡ true

-- what was told passes a test, unless it was refused
abbrev pub Gives : {K A : Type 0} → (A → Bool) → Result A K → Type 0
Gives test (Ok x) = test x ≡ true
Gives test (Err kind) = Unit {0}

pub has_so : {A : Type 0} (test : A → Bool) (found : Option A) (x : A) → Has test found → found ≡ Some x → test x ≡ true
has_so {A} test found x h is = let P : Option A → Type 0 = λ o. Has test o in subst P is h

pub gives_so : {K A : Type 0} (test : A → Bool) (told : Result A K) (x : A) → Gives test told → told ≡ Ok x → test x ≡ true
gives_so {K} {A} test told x h is = let P : Result A K → Type 0 = λ r. Gives test r in subst P is h

-- one of two
pub has_either : {A : Type 0} (test : A → Bool) (t : Bool) (x y : Option A) → Has test x → Has test y → Has test (cond t x y)
has_either test true x y h i = h
has_either test false x y h i = i

pub gives_either : {K A : Type 0} (test : A → Bool) (t : Bool) (x y : Result A K) → Gives test x → Gives test y → Gives test (cond t x y)
gives_either test true x y h i = h
gives_either test false x y h i = i

-- a value where a test passes
pub gives_if : {K A : Type 0} (test : A → Bool) (t : Bool) (x : A) (kind : K) → (t ≡ true → test x ≡ true) → Gives test (cond t (Ok x) (Err kind))
gives_if test true x kind h = h refl
gives_if test false x kind h = tt

-- a step, and what follows it
pub gives_then : {K A B : Type 0} (test : A → Bool) (next : B → Bool) (told : Result A K) (f : A → Result B K) → Gives test told → ((x : A) → test x ≡ true → Gives next (f x)) → Gives next (steps.◌>>=◌ told f)
gives_then test next (Ok x) f h more = more x h
gives_then test next (Err kind) f h more = tt

-- the same of readings
pub gives_behind : {K A B : Type 0} (test : A → Bool) (next : B → Bool) (told : Result A K) (f : A → Reading K B) → Gives test told → ((x : A) → test x ≡ true → Gives next (f x).gives) → Gives next (given_by told f)
gives_behind test next (Ok x) f h more = more x h
gives_behind test next (Err kind) f h more = tt

-- no fault where none of a value is
pub gives_unless : {K A : Type 0} (test : A → Bool) (t : Bool) (x : A) (kind : K) → (t ≡ false → test x ≡ true) → Gives test (cond t (Err kind) (Ok x))
gives_unless test true x kind h = tt
gives_unless test false x kind h = h refl

pub has_if : {A : Type 0} (test : A → Bool) (t : Bool) (x : A) → (t ≡ true → test x ≡ true) → Has test (cond t (Some x) None)
has_if test true x h = h refl
has_if test false x h = tt

-- any value
abbrev pub any : {A : Type 0} → A → Bool
any x = true

pub gives_any : {K A : Type 0} (told : Result A K) → Gives {K = K} {A = A} any told
gives_any (Ok x) = refl
gives_any (Err kind) = tt

pub expected_gives : {A : Type 0} (test : A → Bool) (found : Option A) → Has test found → Gives test (expected found)
expected_gives test None h = tt
expected_gives test (Some x) h = h

-- one of two readings
pub reads_either : {K A : Type 0} (test : A → Bool) (t : Bool) (x y : Reading K A) → Gives test x.gives → Gives test y.gives → Gives test (cond t x y).gives
reads_either test true x y h i = h
reads_either test false x y h i = i

-- ---- the first of many

-- the first whose test passes
abbrev pub first_told : {A : Type 0} → List (Bool × Told A) → Told A
first_told [] = Err Expr
first_told (one ∷ others) = cond one.0 one.1 (first_told others)

abbrev pub AllGive : {A : Type 0} → (A → Bool) → List (Bool × Told A) → Type 0
AllGive test [] = Unit {0}
AllGive test (one ∷ others) = Gives test one.1 × AllGive test others

pub first_gives : {A : Type 0} (test : A → Bool) (list : List (Bool × Told A)) → AllGive test list → Gives test (first_told list)
first_gives test [] h = tt
first_gives test (one ∷ others) h = gives_either test one.0 one.1 (first_told others) h.0 (first_gives test others h.1)

abbrev pub first_found : {A : Type 0} → List (Bool × A) → Option A
first_found [] = None
first_found (one ∷ others) = cond one.0 (Some one.1) (first_found others)

pub first_has : {A : Type 0} (test : A → Bool) (list : List (Bool × A)) → list_all (λ one. test one.1) list ≡ true → Has test (first_found list)
first_has test [] h = tt
first_has test (one ∷ others) h =
    let both = and_parts (test one.1) (list_all (λ next. test next.1) others) h in
    has_either test one.0 (Some one.1) (first_found others) both.0 (first_has test others both.1)

-- ---- by more than a test

abbrev pub HasSo : {A : Type 0} → (A → Type 0) → Option A → Type 0
HasSo P None = Unit {0}
HasSo P (Some x) = P x

abbrev pub GivesSo : {K A : Type 0} → (A → Type 0) → Result A K → Type 0
GivesSo P (Ok x) = P x
GivesSo P (Err kind) = Unit {0}

pub so_from : {K A : Type 0} (test : A → Bool) (P : A → Type 0) (told : Result A K) → Gives test told → ((x : A) → test x ≡ true → P x) → GivesSo P told
so_from test P (Ok x) h f = f x h
so_from test P (Err kind) h f = tt

pub gives_then_so : {K A B : Type 0} (P : A → Type 0) (next : B → Bool) (told : Result A K) (f : A → Result B K) → GivesSo P told → ((x : A) → P x → Gives next (f x)) → Gives next (steps.◌>>=◌ told f)
gives_then_so P next (Ok x) f h more = more x h
gives_then_so P next (Err kind) f h more = tt

pub gives_behind_so : {K A B : Type 0} (P : A → Type 0) (next : B → Bool) (told : Result A K) (f : A → Reading K B) → GivesSo P told → ((x : A) → P x → Gives next (f x).gives) → Gives next (given_by told f)
gives_behind_so P next (Ok x) f h more = more x h
gives_behind_so P next (Err kind) f h more = tt

pub so_then : {K A B : Type 0} (test : A → Bool) (P : B → Type 0) (told : Result A K) (f : A → Result B K) → Gives test told → ((x : A) → test x ≡ true → GivesSo P (f x)) → GivesSo P (steps.◌>>=◌ told f)
so_then test P (Ok x) f h more = more x h
so_then test P (Err kind) f h more = tt

pub so_behind : {K A B : Type 0} (test : A → Bool) (P : B → Type 0) (told : Result A K) (f : A → Reading K B) → Gives test told → ((x : A) → test x ≡ true → GivesSo P (f x).gives) → GivesSo P (given_by told f)
so_behind test P (Ok x) f h more = more x h
so_behind test P (Err kind) f h more = tt

pub so_given : {K A : Type 0} (P : A → Type 0) (told : Result A K) (x : A) → GivesSo P told → told ≡ Ok x → P x
so_given {K} {A} P told x h is = let Q : Result A K → Type 0 = λ r. GivesSo P r in subst Q is h
