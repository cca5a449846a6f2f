-- Words that stand one behind the other in one run of bytes.
use Rattle.std.specs.Prelude.{ℕ, ◌+◌, ◌≤◌, List, length, take, drop, map, All, Bool, Option, Some, None, if◌then◌else◌}
use Rattle.cfg_lex.specs.declared.words.Span.{Span}

-- the bytes of a span
abbrev pub span_bytes : List ℕ → Span → List ℕ
span_bytes bytes span = take span.len (drop span.from bytes)

-- the bytes of each span
abbrev pub spans_bytes : List ℕ → List Span → List (List ℕ)
spans_bytes bytes spans = map (span_bytes bytes) spans

-- each span lies in the bytes
abbrev pub AreWithin : List ℕ → List Span → Type 0
AreWithin bytes spans = All (λ span. span.from + span.len ≤ length bytes) spans

-- the bytes from a place on, if a word is open there
abbrev pub open_bytes : Bool → ℕ → List ℕ → Option (List ℕ)
open_bytes is_open from bytes = if is_open then Some (drop from bytes) else None
