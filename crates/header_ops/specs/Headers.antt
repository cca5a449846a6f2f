-- Edits of the headers in a list of blocks.
use Rattle.std.specs.Prelude.{ℕ, List, [], ◌∷◌, Bool, false, not, filter, if◌then◌else◌}
use Rattle.http_model.specs.Fields.{same_name, is_named_among}
use Rattle.http_model.specs.Finish.{framing_names}
use Rattle.http_model.specs.Block.{Block, Header, EndHeaders, weight}

-- the block is a header of this name, without regard to case
abbrev pub is_header_named : List ℕ → Block → Bool
is_header_named name (Header n v) = same_name n name
is_header_named name block = false

-- what the block weighs where it is a header of this name, else 0
abbrev pub weight_if_named : List ℕ → Block → ℕ
weight_if_named name b = if is_header_named name b then weight b else 0

-- the list has an end of headers
abbrev pub HasEnd : List Block → Type 0
HasEnd [] = ⊥
HasEnd (EndHeaders ∷ blocks) = Unit {0}
HasEnd (block ∷ blocks) = HasEnd blocks

-- each header of the name goes
abbrev pub without_headers : List ℕ → List Block → List Block
without_headers name blocks = filter (λ block. not (is_header_named name block)) blocks

-- one more block in front of the end of the headers
abbrev pub with_header : Block → List Block → List Block
with_header field [] = []
with_header field (EndHeaders ∷ blocks) = field ∷ EndHeaders ∷ blocks
with_header field (block ∷ blocks) = block ∷ with_header field blocks

-- each header of the name goes, and one of this value stands behind the others
abbrev pub set_header : List ℕ → List ℕ → List Block → List Block
set_header name value blocks = with_header (Header name value) (without_headers name blocks)

-- the block is a header that frames the message or speaks of its connection
abbrev pub is_framing_header : Block → Bool
is_framing_header (Header n v) = is_named_among framing_names (n, v)
is_framing_header block = false

-- each such header goes
abbrev pub without_framing : List Block → List Block
without_framing blocks = filter (λ block. not (is_framing_header block)) blocks
