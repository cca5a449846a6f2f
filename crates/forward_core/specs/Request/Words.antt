-- The request line of a head that stands in an array.
use Rattle.std.specs.Prelude.{ℕ, List, [], ◌++◌, Option, Some, None, codes}
use Rattle.htx_model.specs.Block.{Block}
use Rattle.htx_view.specs.Lines.{request_in}

-- the method, one space and the target of a line (RFC 9112 section 3)
abbrev pub words_by : Option (List ℕ × List ℕ × List ℕ) → List ℕ
words_by None = []
words_by (Some line) = line.0 ++ codes " " ++ line.1

-- those of the line of a request, and nothing where there is none
abbrev pub words_at : List Block → List ℕ
words_at blocks = words_by (request_in blocks)
