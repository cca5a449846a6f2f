use Rattle.std.proofs.Common.{◌≡◌, ◌≤◌, ◌+◌, length, get_or, sym, ap, ◌∙◌, arith}
use Rattle.httparse.specs.declared.spans.HeaderSpan.{HeaderSpan}
use Rattle.httparse.specs.Spans.{header_bytes}
use Rattle.http_model.specs.Head.{Field}
use Rattle.fcgi_lane.proofs.AnswerLemmas.Sizes.{one_fits}
use Rattle.fcgi_lane.proofs.answer.head_text.push_fields.Goals as goal

-- no span
abbrev nowhere : HeaderSpan
nowhere = record { name = record { start = 0; end = 0 }; value = record { start = 0; end = 0 } }

-- src/answer/head_text.rt:34:13
pub push_field-requires : goal.push_field-requires
push_field-requires c =
    let l = c.loop-field in
    let field : Field = header_bytes c.args.text.now (get_or c.args.fields.now l.field-index nowhere) in
    let fits : length l.http.bytes + (length field.0 + length field.1 + 4) ≤ c.args.http.now.cap =
    one_fits c.args.text.now c.args.fields.now l.field-index nowhere l.http.bytes c.args.http.now.bytes c.args.http.now.cap c.loop-field-test.true (sym c.is_passed.ensures ∙ c.if-is_passed.true)
    l.invariant.bytes c.requires.room in
    let named : length c.of.result.now ≡ length field.0 = ap length c.of.ensures in
    let valued : length c.of-then-is_passed.result.now ≡ length field.1 = ap length c.of-then-is_passed.ensures in
    omega (arith, fits, named, valued, l.invariant.cap)
