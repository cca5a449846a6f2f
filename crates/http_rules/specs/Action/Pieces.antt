-- Lent pieces.
use Rattle.std.specs.Prelude.{ℕ, List, Option, option_map}
use denote.Ref.{Bor}
use Rattle.uri_parts.specs.Cut.{query_text}

-- a lent query with its `?`
abbrev pub query_bytes : Option (Bor (List ℕ)) → List ℕ
query_bytes query = query_text (option_map (λ q. q.now) query)
