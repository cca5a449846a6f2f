use Rattle.std.proofs.Common.{◌≡◌, ◌++◌, drop}
use Rattle.std.specs.Prelude.{map}
use Rattle.httparse.specs.Spans.{header_bytes}
use Rattle.h1_body.specs.Trailers.{kept_blocks}
use Rattle.h1_body.proofs.trailers.push_trailers.Given as goal

abbrev pub invariant-loop-field : goal.invariant-loop-field
invariant-loop-field l = record {
  size : l.to.size ≡ l.fn.to.size;
  same : l.to.blocks ++ kept_blocks (map (header_bytes l.section) (drop l.field-index l.fields)) ≡ l.fn.to.blocks ++ kept_blocks (map (header_bytes l.section) l.fields);
}
