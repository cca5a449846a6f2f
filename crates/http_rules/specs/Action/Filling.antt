-- What came of a text that was searched for a pattern.
use Rattle.std.specs.Prelude.{◌≡◌, ℕ, ◌<◌, ◌≤◌, List, ◌++◌, length, Bool, true, false, Option, Some, None, if◌then◌else◌, Result, Ok, Err}
use Rattle.http_model.specs.declared.Why.{Why}
use Rattle.http_model.specs.declared.Why.TheVariants.{Room, Bytes}
use Rattle.http_model.specs.Blocks.{load}
use Rattle.http_model.specs.Head.{Head, front_blocks}
use Rattle.px_pattern.specs.Pattern.{Pattern}
use Rattle.http_rules.specs.declared.action.filled.Filled.{Filled}
use Rattle.http_rules.specs.declared.action.filled.Filled.TheVariants.{Unmatched, Made, Failed}
use Rattle.http_rules.specs.declared.action.joining.Joined.{Joined}
use Rattle.http_rules.specs.declared.action.joining.Joined.TheVariants.{Held, Over, Bad}
use Rattle.http_rules.specs.Action.Given.{Env}
use Rattle.http_rules.specs.Action.Edits.{by_value}
use Rattle.http_rules.specs.Action.Replacing.{replaced, replaced_values, is_short, are_short}
use Rattle.http_rules.specs.Action.Joining.{Joins}

-- an edit by what was made, which a buffer holds; none without a match
abbrev pub edited_by : Filled → (held : List ℕ) → Env → (List ℕ → Result Env Why) → Result Env Why
edited_by Unmatched held env make = Ok env
edited_by Made held env make = make held
edited_by (Failed why) held env make = Err why

-- what was to be made is held, or is longer than the buffer
abbrev pub IsHeld : (size : ℕ) → (wanted : List ℕ) → Filled → (held : List ℕ) → Type 0
IsHeld size wanted Unmatched held = ⊥
IsHeld size wanted Made held = (length wanted ≤ size) × (held ≡ wanted)
IsHeld size wanted (Failed Bytes) held = size < length wanted
IsHeld size wanted (Failed Room) held = ⊥

-- an edited head that holds the value, so that it counts in the array
abbrev pub Counts : Env → (List ℕ → Head) → Type 0
Counts env edit = (value : List ℕ) → length value ≤ load (front_blocks (edit value) env.body)

-- an edit by a value that was made
abbrev pub valued_by : (size : ℕ) → Filled → (held : List ℕ) → Env → (List ℕ → Head) → Result Env Why
valued_by size filled held env edit = edited_by filled held env (λ text. by_value size env text edit)

-- ---- the values of a field that holds a list

-- what stands in the new field in the place of a value: the value itself, a text that a buffer holds, or one that is longer
abbrev pub IsTextFor : (size : ℕ) → Pattern → (template value : List ℕ) → Filled → (held : List ℕ) → Type 0
IsTextFor size pat template value Unmatched held = (is_short size pat template value ≡ true) × (value ≡ replaced pat template value)
IsTextFor size pat template value Made held = (is_short size pat template value ≡ true) × (held ≡ replaced pat template value)
IsTextFor size pat template value (Failed Bytes) held = is_short size pat template value ≡ false
IsTextFor size pat template value (Failed Room) held = ⊥

-- what came of a value, with what stands in front of it, behind the pieces so far; none where its text is too long
abbrev pub IsPut : (size : ℕ) → Pattern → (template pieces front value : List ℕ) → Option Joined → (held : List ℕ) → Type 0
IsPut size pat template pieces front value None held = is_short size pat template value ≡ false
IsPut size pat template pieces front value (Some joined) held =
    (is_short size pat template value ≡ true) × Joins size (pieces ++ (front ++ replaced pat template value)) joined held

-- what came of all values of a field; none where a text is too long
abbrev pub AreJoined : (size : ℕ) → Pattern → (template field : List ℕ) → Option Joined → (held : List ℕ) → Type 0
AreJoined size pat template field None held = are_short size pat template field ≡ false
AreJoined size pat template field (Some joined) held =
    (are_short size pat template field ≡ true) × Joins size (replaced_values pat template field) joined held

-- what that is for the step
abbrev pub filled_as : Option Joined → Filled
filled_as None = Failed Bytes
filled_as (Some Held) = Made
filled_as (Some Over) = Failed Room
filled_as (Some Bad) = Failed Bytes

-- an edit by the new value of a field, where each text is short
abbrev pub by_listed : (size : ℕ) → Env → Pattern → (template field : List ℕ) → (List ℕ → Head) → Result Env Why
by_listed size env pat template field edit =
    if are_short size pat template field then by_value size env (replaced_values pat template field) edit else Err Bytes
