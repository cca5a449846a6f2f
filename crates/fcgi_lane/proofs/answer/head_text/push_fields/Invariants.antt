use Rattle.std.proofs.Common.{◌≡◌, ◌++◌, drop}
use Rattle.std.specs.Prelude.{map}
use Rattle.httparse.specs.Spans.{header_bytes}
use Rattle.http_model.specs.Spelling.{fields_text}
use Rattle.fcgi_lane.specs.Answer.Head.{passed}
use Rattle.fcgi_lane.proofs.answer.head_text.push_fields.Given as goal

abbrev pub invariant-loop-field : goal.invariant-loop-field
invariant-loop-field l = record {
  bytes : l.http.bytes ++ fields_text (passed (map (header_bytes l.text) (drop l.field-index l.fields)))
      ≡ l.fn.http.bytes ++ fields_text (passed (map (header_bytes l.text) l.fields));
  cap : l.http.cap ≡ l.fn.http.cap;
}
