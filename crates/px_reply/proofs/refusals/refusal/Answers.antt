use Rattle.std.proofs.Common.{◌≡◌, ℕ, ◌≤◌, length, ap, ◌∙◌, arith}
use Rattle.std.specs.Prelude.{decimal}
use Rattle.std.proofs.lemmas.Bool.{false≢true}
use Rattle.http_model.specs.Blocks.{load}
use Rattle.http_model.specs.Head.{head_blocks}
use Rattle.http_model.specs.Refusal.{reason_of, refusal_body}
use Rattle.px_reply.specs.Refused.{refusal_head}
use Rattle.px_reply.proofs.Rooms.{digits_few, refusal_weighs, refusal_fits, refusal_whole, refusal_closes}
use Rattle.px_reply.proofs.refusals.refusal.Goals as goal

pub put_body-requires-clause-light : goal.put_body-requires-clause-light
put_body-requires-clause-light c =
    let status : length (decimal c.args.code) ≤ 20 = digits_few c.args.code (omega arith) in
    let size : length (decimal c.body_len.result) ≤ 20 = digits_few c.body_len.result (omega arith) in
    let reason : length (reason_of c.args.code) ≤ 21 = omega (arith, ap length c.reason_of-reason.ensures.reason, c.reason_of-reason.ensures.short) in
    omega (arith, ap load c.in-Ok.ensures.ok, refusal_weighs c.args.code c.body_len.result status size reason)

pub unreachable-requires : goal.unreachable-requires
unreachable-requires c =
    let status : length (decimal c.args.code) ≤ 20 = digits_few c.args.code (omega arith) in
    let reason : length (reason_of c.args.code) ≤ 21 = omega (arith, ap length c.reason_of-reason.ensures.reason, c.reason_of-reason.ensures.short) in
    false≢true (c.in-Err.ensures.fits.1 (refusal_fits c.args.code c.body_len.result c.args.to.now.size status (omega arith) reason c.requires.least))

pub returns-clause-blocks : goal.returns-clause-blocks
returns-clause-blocks c =
    let head = refusal_head c.args.code (length (refusal_body c.args.code)) in
    let written : c.put_head.new.to.blocks ≡ head_blocks head =
    c.in-Ok.ensures.ok ∙ ap (λ (n : ℕ). head_blocks (refusal_head c.args.code n)) c.body_len.ensures in
    c.put_body.ensures.body head written ∙ refusal_whole c.args.code

pub returns-clause-closes : goal.returns-clause-closes
returns-clause-closes c =
    let status : length (decimal c.args.code) ≤ 20 = digits_few c.args.code (omega arith) in
    let reason : length (reason_of c.args.code) ≤ 21 = omega (arith, ap length c.reason_of-reason.ensures.reason, c.reason_of-reason.ensures.short) in
    omega (arith, refusal_closes c.args.code status reason, c.requires.least)
