-- The numbers that limit a chunked body.
use Rattle.std.specs.Prelude.{ℕ, ◌+◌}

-- the bytes of a chunk line, with its end
abbrev pub longest_line : ℕ
longest_line = 256

-- the digits of a chunk's size
abbrev pub most_digits : ℕ
most_digits = 8

-- the fields of a trailer section, counted before any is dropped
abbrev pub most_trailers : ℕ
most_trailers = 64

-- its lines: the empty line is one more
abbrev pub most_lines : ℕ
most_lines = most_trailers + 1
