-- Two machines, and the bytes between them.
use Rattle.std.specs.Prelude.{◌≡◌, ℕ, Bool, true, Option, Some, None, List, [], length}
use Rattle.body_filter.specs.declared.filter_spec.FedState.{FedState}
use Rattle.body_filter.specs.declared.filter_spec.FedState.TheVariants.{Going, Over, Refused}
use Rattle.body_filter.specs.Filter.{behind, through, ended, is_over}
use Rattle.body_filter.specs.Feeding.{Meaning}

-- the first gave these bytes, which the next has not used yet
abbrev pub paired : Meaning → List ℕ → Meaning → Meaning
paired first mid next = λ whole rest. through (behind mid (first whole rest)) next

-- the end that a machine told is all that it still gives
abbrev pub HasTold : Meaning → FedState → Type 0
HasTold meaning state = is_over state ≡ true → (whole : Bool) (rest : List ℕ) → meaning whole rest ≡ ended state

-- a chain's first machine, and the others, where there are any
abbrev pub lined : {B : Type 0} → (B → Meaning) → Meaning → List ℕ → Option B → Meaning
lined meaning first mid None = first
lined meaning first mid (Some next) = paired first mid (meaning next)

-- the same from here on, also where the body is known to be whole
abbrev pub Silent : Meaning → Meaning → List ℕ → Bool → Type 0
Silent old new piece last = (whole : Bool) (rest : List ℕ) → (last ≡ true → 0 ≡ length piece → (whole ≡ true) × (rest ≡ [])) → old whole rest ≡ new whole rest

-- a machine that goes on may still tell an end
abbrev pub to_tell : FedState → ℕ
to_tell Going = 1
to_tell Over = 0
to_tell (Refused code) = 0
