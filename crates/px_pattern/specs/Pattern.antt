-- What contracts see of a pattern.
use Rattle.std.specs.Prelude.{ℕ, Bool, List}

-- its text, and whether it ignores case
pub record Pattern : Type 0 where
  pub text : List ℕ
  pub icase : Bool
