use Rattle.std.proofs.Common.{◌≡◌, ◌-◌, ℕ, List, length, take, drop, arith, subst}
use Rattle.std.specs.Prelude.{Ok}
use Rattle.std.proofs.lemmas.List.{length-take-le, take_rest}
use Rattle.httparse.specs.declared.Error.{Error}
use Rattle.httparse.specs.declared.Status.{Status}
use Rattle.httparse.specs.declared.spans.HeaderSpan.{HeaderSpan}
use Rattle.httparse.specs.Outcome.{IfComplete, OnPartial}
use Rattle.httparse.specs.Grammar.{HasNoSection}
use Rattle.httparse.specs.Spans.{IsSectionOf, IsSectionWithin}
use Rattle.fcgi_lane.proofs.AnswerLemmas.Sizes.{head_fits}
use Rattle.fcgi_lane.proofs.AnswerLemmas.Heads.{no_head, filled, overflows, found_long, tells_by}
use Rattle.fcgi_lane.proofs.answer.head_reading.read_head.Goals as goal

section_of : (text : List ℕ) (headers : List HeaderSpan) (used count : ℕ) (s : Status (ℕ × ℕ)) → s ≡ Status.Complete (used, count)
    → IfComplete {E = Error} (Ok s) (IsSectionOf text 0 headers) → IsSectionOf text 0 headers (used, count)
section_of text headers used count s is found = subst (λ (t : Status (ℕ × ℕ)). IfComplete {E = Error} (Ok t) (IsSectionOf text 0 headers)) is found

within_of : (text : List ℕ) (headers : List HeaderSpan) (used count : ℕ) (s : Status (ℕ × ℕ)) → s ≡ Status.Complete (used, count)
    → IfComplete {E = Error} (Ok s) (λ r. IsSectionWithin text headers r.0 r.1) → IsSectionWithin text headers used count
within_of text headers used count s is within = subst (λ (t : Status (ℕ × ℕ)). IfComplete {E = Error} (Ok t) (λ r. IsSectionWithin text headers r.0 r.1)) is within

none_of : (text : List ℕ) (s : Status (ℕ × ℕ)) → s ≡ Status.Partial → OnPartial {E = Error} (Ok s) (HasNoSection text) → HasNoSection text
none_of text s is h = subst (λ (t : Status (ℕ × ℕ)). OnPartial {E = Error} (Ok t) (HasNoSection text)) is h

pub returns-then-used-limit-clause-tells : goal.returns-then-used-limit-clause-tells
returns-then-used-limit-clause-tells c =
    let parsed = c.in-Ok-Complete in
    let headers = c.parse_headers.new.headers in
    found_long c.args.limit c.args.text.now headers parsed.used parsed.count
    (section_of c.args.text.now headers parsed.used parsed.count parsed.field-0 parsed.field-0-is parsed.ensures.complete) c.if-used-limit.true

pub returns-then-text-limit-clause-tells : goal.returns-then-text-limit-clause-tells
returns-then-text-limit-clause-tells c =
    filled c.args.limit c.args.text.now (none_of c.args.text.now c.in-Ok-Partial.field-0 c.in-Ok-Partial.field-0-is c.in-Ok-Partial.ensures.partial) c.if-text-limit.true

pub whole_head-requires-clause-room : goal.whole_head-requires-clause-room
whole_head-requires-clause-room c =
    let parsed = c.in-Ok-Complete in
    let text = c.args.text.now in
    let headers = c.parse_headers.new.headers in
    let full : length headers ≡ 256 = omega arith in
    let within = within_of text headers parsed.used parsed.count parsed.field-0 parsed.field-0-is parsed.ensures.within in
    head_fits text (take (length text - parsed.used) (drop parsed.used text)) headers parsed.used parsed.count c.args.http.now.cap
    (section_of text headers parsed.used parsed.count parsed.field-0 parsed.field-0-is parsed.ensures.complete)
    (omega (arith, full, within.count_fits, length-take-le parsed.count headers within.count_fits)) (take_rest text parsed.used) c.requires

pub returns-else-used-limit-clause-tells : goal.returns-else-used-limit-clause-tells
returns-else-used-limit-clause-tells c =
    let parsed = c.in-Ok-Complete in
    let text = c.args.text.now in
    let headers = c.parse_headers.new.headers in
    let full : length headers ≡ 256 = omega arith in
    let within = within_of text headers parsed.used parsed.count parsed.field-0 parsed.field-0-is parsed.ensures.within in
    tells_by c.args.limit text (take (length text - parsed.used) (drop parsed.used text)) c.whole_head.new.http.bytes headers parsed.used parsed.count c.whole_head.result
    (section_of text headers parsed.used parsed.count parsed.field-0 parsed.field-0-is parsed.ensures.complete) c.if-used-limit.false
    (omega (arith, full, within.count_fits, length-take-le parsed.count headers within.count_fits)) (take_rest text parsed.used) c.whole_head.ensures.tells

pub returns-else-text-limit-clause-tells : goal.returns-else-text-limit-clause-tells
returns-else-text-limit-clause-tells c = (
  no_head c.args.limit c.args.text.now (none_of c.args.text.now c.in-Ok-Partial.field-0 c.in-Ok-Partial.field-0-is c.in-Ok-Partial.ensures.partial),
  omega (arith, c.if-text-limit.false),
)

pub returns-in-Err-clause-tells : goal.returns-in-Err-clause-tells
returns-in-Err-clause-tells c = overflows c.args.limit c.args.text.now c.in-Err.ensures.no_room
