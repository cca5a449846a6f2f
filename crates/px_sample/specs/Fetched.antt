-- The samples of a fetch.
use Rattle.std.specs.Prelude.{ℕ, ◌-◌, List, map, length, Option, None, slice_index_or}
use Rattle.px_sample.specs.Sample.{Value, within}

-- the samples, each no more than so many bytes
abbrev pub all_within : ℕ → List (Option Value) → List (Option Value)
all_within cap samples = map (within cap) samples

-- the last of them, and absent where there is none
abbrev pub last_of : List (Option Value) → Option Value
last_of samples = slice_index_or samples (length samples - 1) None
