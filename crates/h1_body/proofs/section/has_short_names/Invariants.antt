use Rattle.std.proofs.Common.{◌≡◌, drop}
use Rattle.std.specs.Prelude.{map}
use Rattle.std.specs.List.{list_all}
use Rattle.httparse.specs.Spans.{header_bytes}
use Rattle.h1_body.specs.Read.{is_short}
use Rattle.h1_body.proofs.section.has_short_names.Given as goal

abbrev pub invariant-loop-field : goal.invariant-loop-field
invariant-loop-field l = list_all is_short (map (header_bytes l.window) (drop l.field-index l.fields)) ≡ list_all is_short (map (header_bytes l.window) l.fields)
