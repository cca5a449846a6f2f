-- The headers of a list of blocks, by name.
use Rattle.std.specs.Prelude.{ℕ, List, [], ◌∷◌, Option, Some, None, if◌then◌else◌}
use Rattle.htx_model.specs.Block.{Block, Header}
use Rattle.http_model.specs.Fields.{same_name}

-- the value of the first header of this name, without regard to case
abbrev pub first_of : List ℕ → List Block → Option (List ℕ)
first_of name [] = None
first_of name (Header n v ∷ blocks) = if same_name n name then Some v else first_of name blocks
first_of name (block ∷ blocks) = first_of name blocks
