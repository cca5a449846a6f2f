-- What callers see of a buffer.
use Rattle.std.specs.Prelude.{ℕ, List}

-- how many bytes it can hold, and those that it holds
pub record Buffer : Type 0 where
  pub cap : ℕ
  pub bytes : List ℕ
