use Rattle.std.proofs.Common.{◌≡◌, ◌++◌, List, ℕ, map, Some, ap, ◌∙◌}
use Rattle.httparse.specs.Spans.{header_bytes}
use Rattle.http_model.specs.Head.{Field}
use Rattle.fcgi_lane.specs.Answer.Head.{with_status, status_of, http_head}
use Rattle.fcgi_lane.proofs.answer.head_reading.whole_head.Goals as goal

pub returns-clause-tells : goal.returns-clause-tells
returns-clause-tells c =
    let fields : List Field = map (header_bytes c.args.text.now) c.args.fields.now in
    let rest : List ℕ = c.args.rest.now in
    let head : List ℕ = http_head c.in-Some.status.digits.now c.in-Some.status.reason.now fields in
    let is : status_of fields ≡ Some (c.in-Some.status.digits.now, c.in-Some.status.reason.now) = c.in-Some.ensures.some in (
      (head, rest),
      ap (with_status fields rest) is,
      c.push.ensures.bytes ∙ ap (λ (t : List ℕ). t ++ rest) (c.push_head.ensures.bytes ∙ ap (λ (t : List ℕ). t ++ head) c.clear.ensures.bytes),
    )
