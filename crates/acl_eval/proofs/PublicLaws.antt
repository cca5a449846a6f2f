-- The public law of items none of which passes.
use Rattle.std.proofs.Common.{◌≡◌, ℕ, Bool, false, List, Some}
use Rattle.std.specs.Prelude.{slice_get}
use Rattle.std.specs.List.{list_any}
use Rattle.acl_eval.proofs.Trying as trying

-- Where no item passes, this one doesn't.
pub not_this_one : {A : Type 0} (f : A → Bool) (xs : List A) (at : ℕ) (x : A) → slice_get xs at ≡ Some x → list_any f xs ≡ false → f x ≡ false
not_this_one = trying.not_this_one
