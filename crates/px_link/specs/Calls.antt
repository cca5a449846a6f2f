-- Calls that are to fail, named by their numbers.
use Rattle.std.specs.Prelude.{ℕ, ◌+◌, ◌-◌, ◌^◌, min, Bool, true, false, nat_eq, List, [], ◌∷◌, Result, Ok, Err}
use Rattle.std.specs.List.{list_any}
use Rattle.px_link.specs.declared.fault.Fault.{Fault}
use Rattle.px_link.specs.declared.fault.Fault.TheVariants.{Failed, OutOfMemory}

-- the number of the next call, counted from 1, after so many; it stays at the last value of a u64
abbrev pub next_call : ℕ → ℕ
next_call calls = min (calls + 1) (2 ^ 64 - 1)

-- the call of this number is to fail
abbrev pub is_listed : ℕ → List ℕ → Bool
is_listed call calls = list_any (λ listed. nat_eq listed call) calls

-- no call is to fail
abbrev pub fails_none : List ℕ → Bool
fails_none [] = true
fails_none (call ∷ calls) = false

-- how many calls failed, after one more that did; it stays at the last value of a u64
abbrev pub fault_after : ℕ → ℕ
fault_after faults = min (faults + 1) (2 ^ 64 - 1)

-- how many calls failed, after one more
abbrev pub faults_after : {T : Type 0} → Result T Fault → ℕ → ℕ
faults_after (Ok value) faults = faults
faults_after (Err Failed) faults = fault_after faults
faults_after (Err OutOfMemory) faults = faults
