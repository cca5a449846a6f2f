-- The public laws of readings that fail, and of what is found in lists in a row.
use Rattle.std.proofs.Common.{◌≡◌, ℕ, List, ◌++◌, Some, Ok}
use Rattle.std.specs.Prelude.{slice_get}
use Rattle.px_pattern.specs.Refusals.{Kept}
use Rattle.cfg_expr.specs.Reading.{Reading, ◌>>=◌, Cause, Fails}
use Rattle.cfg_expr.proofs.Readings as readings

-- What stands in a list stands also behind another.
pub found_behind : {A : Type 0} (xs ys : List A) (n : ℕ) (x : A) → slice_get ys n ≡ Some x → (m : ℕ) × (slice_get (xs ++ ys) m ≡ Some x)
found_behind = readings.found_behind

-- What stands in a list stands also where another follows it.
pub found_before : {A : Type 0} (xs ys : List A) (n : ℕ) (x : A) → slice_get xs n ≡ Some x → (m : ℕ) × (slice_get (xs ++ ys) m ≡ Some x)
found_before = readings.found_before

-- A step that fails also fails what begins with it.
pub fails_first : {K A B : Type 0} (r : Reading K A) (f : A → Reading K B) (before after : ℕ) (kept : Kept) (cause : Cause K) →
    Fails r before after kept cause → Fails (r >>= f) before after kept cause
fails_first = readings.fails_first

-- A step that gives a value, and a next one that fails, fail together.
pub fails_behind : {K A B : Type 0} (r : Reading K A) (f : A → Reading K B) (x : A) (before mid after : ℕ) (kept : Kept) (cause : Cause K) →
    r.gives ≡ Ok x → mid ≡ before → Fails (f x) mid after kept cause → Fails (r >>= f) before after kept cause
fails_behind = readings.fails_behind
