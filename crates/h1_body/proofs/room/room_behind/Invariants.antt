use Rattle.std.proofs.Common.{◌≡◌, ◌+◌, drop}
use Rattle.std.specs.Prelude.{map}
use Rattle.httparse.specs.Spans.{header_bytes}
use Rattle.htx_model.specs.Blocks.{load}
use Rattle.h1_body.specs.Trailers.{kept_blocks}
use Rattle.h1_body.proofs.room.room_behind.Given as goal

-- what is left, and the trailers of the fields so far
abbrev pub invariant-loop-field : goal.invariant-loop-field
invariant-loop-field l = l.left + load (kept_blocks (map (header_bytes l.section) l.fields)) ≡ l.room + load (kept_blocks (map (header_bytes l.section) (drop l.field-index l.fields)))
