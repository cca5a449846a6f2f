-- The line that says where it listens.
use Rattle.std.specs.Prelude.{ℕ, List, ◌++◌, codes, decimal}
use Rattle.px_link.specs.Net.{Place}

-- it listens at this address
unfoldable pub listening_line : Place → List ℕ
listening_line at = codes "listening " ++ at.0 ++ codes ":" ++ decimal at.1 ++ codes "\n"
