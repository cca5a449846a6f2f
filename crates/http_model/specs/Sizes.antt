-- The numbers that limit a message and its array, by name.
use Rattle.std.specs.Prelude.{ℕ}

-- the least and the most bytes of an array of blocks
abbrev pub least_size : ℕ
least_size = 1024

abbrev pub most_size : ℕ
most_size = 262144

-- what a received head may take at least
abbrev pub least_head : ℕ
least_head = 512

-- the most bytes of a field's name
abbrev pub most_name : ℕ
most_name = 255

-- the number at which a count of 32 bits stays
abbrev pub most_count : ℕ
most_count = 4294967295
