-- How many lines a text ends.
use Rattle.std.specs.Prelude.{ℕ, List, count_by}
use Rattle.h1_head.specs.Decides.{is_line_feed}

-- the line feeds of a text
abbrev pub feeds : List ℕ → ℕ
feeds bytes = count_by is_line_feed bytes
