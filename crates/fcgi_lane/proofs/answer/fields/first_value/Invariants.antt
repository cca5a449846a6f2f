use Rattle.std.proofs.Common.{◌≡◌, drop}
use Rattle.std.specs.Prelude.{map}
use Rattle.httparse.specs.Spans.{header_bytes}
use Rattle.fcgi_model.specs.Head.{first_value}
use Rattle.fcgi_lane.proofs.answer.fields.first_value.Given as goal

abbrev pub invariant-loop-field : goal.invariant-loop-field
invariant-loop-field l = first_value l.name (map (header_bytes l.text) (drop l.field-index l.fields)) ≡ first_value l.name (map (header_bytes l.text) l.fields)
