-- What a core in memory of its own is once it was lent.
use Rattle.std.specs.Borrow.{RattleType, Lends, MutBor, Fml}
use Rattle.px_run.specs.contracts.boxed_core.BoxedCore.{the_row}

-- it is what the borrow leaves
abbrev pub LendsCore : (T : RattleType) → MutBor T.Denot → MutBor T.Denot → Fml
LendsCore T one r = Lends (the_row T) T one r (λ w. w)
