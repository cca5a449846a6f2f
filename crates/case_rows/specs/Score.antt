-- How many rows there were, and how many of them came to what they must come to.
use Rattle.std.specs.Prelude.{ℕ, ◌≡◌, ◌+◌, ◌-◌, ◌^◌, min, List, Result, Ok, Err}
use Rattle.std.specs.declared.vec.Vec.{Vec}
use Rattle.std.specs.declared.alloc.Global.{Global}
use Rattle.case_rows.specs.declared.fault.Fault.{Fault}

-- one more; a count stays at the last value of a u64
abbrev pub one_more : ℕ → ℕ
one_more count = min (count + 1) (2 ^ 64 - 1)

-- a row came to these bytes
abbrev pub Agrees : Result (Vec ℕ Global) Fault → List ℕ → Type 0
Agrees (Ok text) expected = text.items ≡ expected
Agrees (Err fault) expected = ⊥
