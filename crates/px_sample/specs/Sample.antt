-- What a sample is (Configuration Manual, section 7.1).
use Rattle.std.specs.Prelude.{ℕ, ℤ, Bool, List, length, nat_le, Option, Some, None, if◌then◌else◌}
use Rattle.px_sample.specs.declared.sample.Sample.{Sample}
use Rattle.px_sample.specs.declared.sample.Sample.TheVariants as samples

-- what a sample that is there holds; an absent one is none
pub data Value : Type 0 where
  Truth : Bool → Value
  Number : ℤ → Value
  Bytes : List ℕ → Value

-- the value of a sample that was handed over beside a buffer with these bytes
abbrev pub value_in : Sample → List ℕ → Option Value
value_in samples.Absent bytes = None
value_in (samples.Truth b) bytes = Some (Truth b)
value_in (samples.Number n) bytes = Some (Number n)
value_in samples.InBuf bytes = Some (Bytes bytes)

-- the value, where it is no more than so many bytes
abbrev pub bounded : ℕ → Value → Option Value
bounded cap (Truth b) = Some (Truth b)
bounded cap (Number n) = Some (Number n)
bounded cap (Bytes bytes) = if nat_le (length bytes) cap then Some (Bytes bytes) else None

-- a sample of more than so many bytes is absent
abbrev pub within : ℕ → Option Value → Option Value
within cap None = None
within cap (Some v) = bounded cap v
