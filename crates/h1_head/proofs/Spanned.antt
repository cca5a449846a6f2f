-- What the spans of a head cover.
use Rattle.std.proofs.Common.{◌≡◌, ℕ, ◌≤◌, Bool, List, length, take, drop, arith}
use Rattle.httparse.specs.declared.spans.HeaderSpan.{HeaderSpan}
use Rattle.httparse.specs.declared.spans.RequestSpans.{RequestSpans}
use Rattle.httparse.specs.declared.spans.ResponseSpans.{ResponseSpans}
use Rattle.httparse.specs.Grammar.{RequestHead, ResponseHead, status_code}
use Rattle.httparse.specs.Spans.{IsRequestWithin, IsRequestAt, IsRequestOf, IsResponseWithin, IsResponseAt, IsResponseOf}
use Rattle.http_model.specs.declared.Limits.{Limits}
use Rattle.h1_head.specs.Numbers.{most_fields}
use Rattle.h1_head.specs.Kind.{request_heads, response_heads, parts_of, response_parts_of}
use Rattle.h1_head.specs.Spans.{span_parts, response_span_parts, AreSpansGood, AreResponseSpansGood}
use Rattle.h1_head.specs.Stream.{behind, BeginsWith}
use Rattle.h1_head.proofs.Fields.{few_fields, fields_good}
use Rattle.h1_head.proofs.Requests.{unled}
use Rattle.h1_head.proofs.Responses.{response_unled}

pub begins_at : (limits : Limits) (text : List ℕ) (spans : List HeaderSpan) (r : RequestSpans) (h : RequestHead) → behind text ≡ text → length text ≤ limits.bufsize → length spans ≤ most_fields
    → IsRequestWithin text spans r → IsRequestAt text spans r h → BeginsWith request_heads limits text h (drop r.len text)
begins_at limits text spans r h alone fits room within at =
    let size = at.len in
    let within_text : r.len ≤ length text = within.section.len_fits in
    record {
      reads = at.reads;
      unled = unled text h (drop r.len text) at.reads alone;
      short = omega arith;
      few = few_fields text spans r.headers h.fields room within.section.count_fits at.fields;
    }

pub parts_at : (text : List ℕ) (spans : List HeaderSpan) (r : RequestSpans) (h : RequestHead) → IsRequestAt text spans r h
    → span_parts text r (take r.headers spans) ≡ parts_of h
parts_at text spans r h at = λ i. record { method = at.method i; target = at.path i; minor = at.version i; fields = at.fields i }

pub spans_good : (text : List ℕ) (spans : List HeaderSpan) (r : RequestSpans) → length spans ≤ most_fields
    → IsRequestWithin text spans r → IsRequestOf text spans r → AreSpansGood text r (take r.headers spans)
spans_good text spans r room within found =
    let len : r.len ≤ length text = within.section.len_fits in
    let method = within.method in
    let path = within.path in
    record {
      method = (method.0, omega (arith, method.1));
      target = (path.0, omega (arith, path.1));
      version = within.version;
      named = fields_good text spans r.len r.headers found.0.fields room within.section found.1.fields found.1.reads.0.fields;
    }

pub response_begins_at : (asked : Bool) (limits : Limits) (text : List ℕ) (spans : List HeaderSpan) (r : ResponseSpans) (h : ResponseHead) → behind text ≡ text → length text ≤ limits.bufsize → length spans ≤ most_fields
    → IsResponseWithin text spans r → IsResponseAt text spans r h → 100 ≤ r.code → BeginsWith (response_heads asked) limits text h (drop r.len text)
response_begins_at asked limits text spans r h alone fits room within at least =
    let size = at.len in
    let within_text : r.len ≤ length text = within.section.len_fits in
    let code : r.code ≡ status_code h = at.code in
    record {
      reads = (at.reads, omega arith);
      unled = response_unled text h (drop r.len text) at.reads alone;
      short = omega arith;
      few = few_fields text spans r.headers h.fields room within.section.count_fits at.fields;
    }

pub response_parts_at : (text : List ℕ) (spans : List HeaderSpan) (r : ResponseSpans) (h : ResponseHead) → IsResponseAt text spans r h
    → response_span_parts text r (take r.headers spans) ≡ response_parts_of h
response_parts_at text spans r h at = λ i. record { minor = at.version i; status = at.code i; reason = at.reason i; fields = at.fields i }

pub response_spans_good : (text : List ℕ) (spans : List HeaderSpan) (r : ResponseSpans) → length spans ≤ most_fields
    → IsResponseWithin text spans r → IsResponseOf text spans r → AreResponseSpansGood text r (take r.headers spans)
response_spans_good text spans r room within found =
    let len : r.len ≤ length text = within.section.len_fits in
    let reason = within.reason in
    record {
      reason = (reason.0, omega (arith, reason.1));
      version = within.version;
      code = within.code;
      named = fields_good text spans r.len r.headers found.0.fields room within.section found.1.fields found.1.reads.0.fields;
    }
