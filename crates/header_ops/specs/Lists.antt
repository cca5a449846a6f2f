-- The values of the headers of a name (RFC 9110 sections 5.3 and 5.6.1).
use Rattle.std.specs.Prelude.{ℕ, List, map, filter}
use Rattle.http_model.specs.Block.{Block, value_of}
use Rattle.px_bytes.specs.Values.{values_in}
use Rattle.header_ops.specs.Headers.{is_header_named}

-- the whole values of the headers of this name, in order
abbrev pub fulls_named : List ℕ → List Block → List (List ℕ)
fulls_named name blocks = map value_of (filter (is_header_named name) blocks)

-- the comma-separated values of the headers of this name, in order
abbrev pub values_named : List ℕ → List Block → List (List ℕ)
values_named name blocks = values_in (fulls_named name blocks)
