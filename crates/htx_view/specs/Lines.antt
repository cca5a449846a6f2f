-- What the first of a list of blocks says (RFC 9112 sections 3 and 4).
use Rattle.std.specs.Prelude.{ℕ, ◌==◌, List, ◌∷◌, length, Option, Some, None, unwrap_or, if◌then◌else◌}
use Rattle.htx_model.specs.Block.{Block, RequestLine, ResponseLine}
use Rattle.htx_arena.specs.declared.arena.Line.{Line}
use Rattle.px_bytes.specs.Numbers.{decimal_of}

-- the bytes of the three parts of a line that is lent
abbrev pub shown : Line → List ℕ × List ℕ × List ℕ
shown line = (line.a.now, line.b.now, line.c.now)

-- method, target and version, where the first block is a request line
abbrev pub request_in : List Block → Option (List ℕ × List ℕ × List ℕ)
request_in (RequestLine method target version ∷ blocks) = Some (method, target, version)
request_in blocks = None

-- version, status and reason, where the first block is a response line
abbrev pub response_in : List Block → Option (List ℕ × List ℕ × List ℕ)
response_in (ResponseLine version status reason ∷ blocks) = Some (version, status, reason)
response_in blocks = None

-- the number that three digits write (RFC 9110 section 15); any other text is no status code, and is counted as 0
abbrev pub status_number : List ℕ → ℕ
status_number text = if length text == 3 then unwrap_or (decimal_of 3 text) 0 else 0

-- the number of the status, where the first block is a response line
abbrev pub status_in : List Block → Option ℕ
status_in (ResponseLine version status reason ∷ blocks) = Some (status_number status)
status_in blocks = None
