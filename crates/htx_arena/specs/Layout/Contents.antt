use Rattle.std.specs.Prelude.{ℕ, List}
use Rattle.htx_model.specs.Block.{Block}

-- What callers see of an arena: how much it can hold, the live blocks in order, where their payloads stand, and
-- the end of the space in use at the beginning since wrapping, or 0.
pub record Contents : Type 0 where
  pub size : ℕ
  pub blocks : List Block
  pub addrs : List ℕ
  pub front : ℕ
