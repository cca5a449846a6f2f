-- The samples of a fetch of a message.
use Rattle.std.proofs.Common.{◌≡◌, ℕ, zero, suc, Bool, ℤ, List, [], ◌∷◌, drop, refl, Option, Some, None}
use Rattle.std.specs.Prelude.{map, slice_get}
use Rattle.px_sample.specs.declared.fetch.Fetch.{Fetch}
use Rattle.px_sample.specs.declared.fetch.Fetch.TheVariants as fetches
use Rattle.px_expr.specs.declared.mem_env.Given.{Given}
use Rattle.px_expr.specs.MemEnv.{value_of, samples_in}

pub of_message : (given : List Given) (fetch : Fetch) → ((text : List ℕ) → fetch ≡ fetches.Str text → ⊥) → ((n : ℤ) → fetch ≡ fetches.Int n → ⊥) → ((b : Bool) → fetch ≡ fetches.Bool b → ⊥)
    → (fetch ≡ fetches.AlwaysTrue → ⊥) → (fetch ≡ fetches.AlwaysFalse → ⊥) → samples_in given fetch ≡ map value_of given
of_message given (fetches.Str text) s i b t f = absurd (s text refl)
of_message given (fetches.Int n) s i b t f = absurd (i n refl)
of_message given (fetches.Bool v) s i b t f = absurd (b v refl)
of_message given fetches.AlwaysTrue s i b t f = absurd (t refl)
of_message given fetches.AlwaysFalse s i b t f = absurd (f refl)
of_message given _ s i b t f = refl

-- the first of those that are left
pub first_some : {A B : Type 0} (f : A → B) (xs : List A) (n : ℕ) (x : A) → slice_get xs n ≡ Some x → slice_get (map f (drop n xs)) 0 ≡ Some (f x)
first_some f [] n x is = absurd (cc)
first_some f (y ∷ ys) zero x is = cc
first_some f (y ∷ ys) (suc n) x is = first_some f ys n x is

-- where none is left
pub first_none : {A B : Type 0} (f : A → B) (xs : List A) (n : ℕ) → slice_get xs n ≡ None → slice_get (map f (drop n xs)) 0 ≡ None
first_none f [] zero is = refl
first_none f [] (suc n) is = refl
first_none f (y ∷ ys) zero is = absurd (cc)
first_none f (y ∷ ys) (suc n) is = first_none f ys n is

pub none_behind : {A : Type 0} (xs : List A) (n : ℕ) → slice_get xs n ≡ None → drop n xs ≡ drop 1 (drop n xs)
none_behind [] zero is = refl
none_behind [] (suc n) is = refl
none_behind (y ∷ ys) zero is = absurd (cc)
none_behind (y ∷ ys) (suc n) is = none_behind ys n is
