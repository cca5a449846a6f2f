use Rattle.std.proofs.Common.{◌≡◌, ℕ, List, length, sym, ap, ◌∙◌, subst}
use Rattle.std.specs.Prelude.{option_map, option_copied}
use Rattle.http_model.specs.Head.{Head}
use Rattle.http_model.specs.Reply.{reply_head}
use Rattle.px_bytes.specs.Blanks.{trimmed}
use Rattle.px_sample.specs.Buffer.{Buffer}
use Rattle.http_rules.specs.declared.action.stepped.Stepped.TheVariants.{Done, Failed}
use Rattle.http_rules.specs.Action.Replies.{length_by}
use Rattle.http_rules.specs.Action.Written.{IsEnded, body_by}
use Rattle.http_rules.proofs.ActionLemmas.Sending.{begun_put, told_reply, ended_reply, failed_reply}
use Rattle.http_rules.proofs.action.returning.write_parts.Goals as goal

pub returns-in-Done-clause-put : goal.returns-in-Done-clause-put
returns-in-Done-clause-put c =
    λ env at.
    let size = c.args.place.msg.now.size in
    let room = c.args.reply.now.size in
    let status = c.args.returned.status in
    let payload = c.args.returned.payload.now in
    let hdrs = c.args.returned.hdrs.now in
    let typed = option_map trimmed (option_copied c.args.content_type) in
    let told = c.length_by-length.result in
    let head = reply_head status typed told in
    let given = c.body_by.result.now in
    let body = body_by payload c.args.scratch.now.text.bytes in
    let mid = c.put_fields.new.reply.blocks in
    let begun : body_by payload c.bytes.result.now ≡ body = ap (body_by payload) c.bytes.ensures.bytes in
    let kept : given ≡ body = c.body_by.ensures ∙ ap (body_by payload) (c.bytes-in-Done.ensures.bytes ∙ ap (λ (b : Buffer). b.bytes) c.in_ok-step.ensures.text) in
    let put = begun_put size room c.begin-begun.new.reply.size env head hdrs c.begin-begun.result c.in_ok-step.step Done c.begin-begun.new.reply.blocks mid
    c.begin-begun.ensures.size c.in-Done.is c.begin-begun.ensures.put (c.in_ok-step.ensures.put env head at)
    in
    told_reply size room status env typed told hdrs given body c.end.result c.end.new.reply.blocks
    (c.length_by-length.ensures ∙ ap (λ (bs : List ℕ). length_by status (length bs)) (begun ∙ sym kept)) kept
    (ended_reply size room env head hdrs given c.end.result mid c.end.new.reply.blocks put
    (λ (h : Head) is. subst (λ (n : ℕ). IsEnded n h given c.end.result c.end.new.reply.blocks) (c.in_ok-step.ensures.size ∙ c.begin-begun.ensures.size) (c.end.ensures.ended h is)))

pub returns-in-Failed-clause-put : goal.returns-in-Failed-clause-put
returns-in-Failed-clause-put c =
    λ env at.
    let size = c.args.place.msg.now.size in
    let room = c.args.reply.now.size in
    let status = c.args.returned.status in
    let payload = c.args.returned.payload.now in
    let hdrs = c.args.returned.hdrs.now in
    let typed = option_map trimmed (option_copied c.args.content_type) in
    let told = c.length_by-length.result in
    let head = reply_head status typed told in
    let given = body_by payload c.bytes.result.now in
    let mid = c.put_fields.new.reply.blocks in
    told_reply size room status env typed told hdrs given (body_by payload c.args.scratch.now.text.bytes) (Failed c.in-Failed.why) mid
    c.length_by-length.ensures (ap (body_by payload) c.bytes.ensures.bytes)
    (failed_reply size room env head hdrs given c.in-Failed.why mid
    (begun_put size room c.begin-begun.new.reply.size env head hdrs c.begin-begun.result c.in_ok-step.step (Failed c.in-Failed.why) c.begin-begun.new.reply.blocks mid
    c.begin-begun.ensures.size c.in-Failed.is c.begin-begun.ensures.put (c.in_ok-step.ensures.put env head at)))
