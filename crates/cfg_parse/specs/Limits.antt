-- The numbers that limit a configuration, and what a size is where no line gives it.
use Rattle.std.specs.Prelude.{ℕ}

-- the most bytes of a text
abbrev pub most_text : ℕ
most_text = 1048576

-- the most rules of one direction
abbrev pub most_rules : ℕ
most_rules = 1024

-- the most tests of all conditions together
abbrev pub most_tests : ℕ
most_tests = 65536

-- the most filters of one direction
abbrev pub most_filters : ℕ
most_filters = 8

-- the most bytes of a needle, and of what replaces one
abbrev pub most_needle : ℕ
most_needle = 256

-- the most bytes of an application's root, and of a file's name there
abbrev pub most_path : ℕ
most_path = 255

-- the most digits of a port, and of a number of rules and filters
abbrev pub most_digits : ℕ
most_digits = 18

-- the most refused lines that are kept
abbrev pub most_kept : ℕ
most_kept = 100

-- the size of the buffer where no line gives it
abbrev pub default_bufsize : ℕ
default_bufsize = 16384

-- the most that is left free of the buffer where no line says how much
abbrev pub default_maxrewrite : ℕ
default_maxrewrite = 1024
