use Rattle.std.proofs.Common.{◌≡◌, drop}
use Rattle.std.specs.Prelude.{map}
use Rattle.httparse.specs.Spans.{header_bytes}
use Rattle.h1_head.specs.Rows.{hosts_fit}
use Rattle.h1_head.proofs.host.hosts_fit.Given as goal

abbrev pub invariant-loop-field : goal.invariant-loop-field
invariant-loop-field l =
    hosts_fit l.target (map (header_bytes l.text) (drop l.field-index l.fields)) ≡ hosts_fit l.target (map (header_bytes l.text) l.fields)
