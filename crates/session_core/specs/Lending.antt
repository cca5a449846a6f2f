-- What a value is once a text that it lends is given back.
use Rattle.std.specs.Prelude.{ℕ, List}
use Rattle.std.specs.Borrow.{Lends, Fml, RattleType, MutBor, Array, u8}

-- the value has the text that is left behind the borrow
abbrev pub LendsText : (R : RattleType) → MutBor R.Denot → MutBor (List ℕ) → (R.Denot → List ℕ → R.Denot) → Fml
LendsText R lender r with_text = Lends R (Array u8 0) lender r (with_text lender.now)
