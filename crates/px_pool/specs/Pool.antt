-- A pool of cores, as contracts see it.
use Rattle.std.specs.Prelude.{ℕ}
use Rattle.std.specs.Borrow.{Lends, MutBor, Fml, RattleType}
use Rattle.px_pool.specs.contracts.pool.Pool.{the_row}
use Rattle.px_pool.specs.Seats.{Seats, with_core}

-- the core that the connection has is the one that the borrow leaves
abbrev pub LendsCore : (T : RattleType) → ℕ → MutBor (Seats T.Denot) → MutBor T.Denot → Fml
LendsCore T conn pool r = Lends (the_row T) T pool r (with_core conn pool.now)
