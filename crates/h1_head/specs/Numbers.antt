-- The numbers that limit a head, beside the size of the array.
use Rattle.std.specs.Prelude.{ℕ, ◌+◌}

abbrev pub most_fields : ℕ
most_fields = 256

-- the lines of a head with the most fields: its start line and the empty line are two more
abbrev pub most_lines : ℕ
most_lines = most_fields + 2

-- the digits of a Content-Length
abbrev pub most_digits : ℕ
most_digits = 18
