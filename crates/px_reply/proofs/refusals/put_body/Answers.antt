use Rattle.std.proofs.Common.{◌++◌, ap, ◌∙◌, arith}
use Rattle.std.specs.Prelude.{codes}
use Rattle.http_model.specs.Head.{front_blocks}
use Rattle.px_reply.proofs.Rooms.{behind_fits, behind_light, first_part, next_part, page}
use Rattle.px_reply.proofs.refusals.put_body.Goals as goal

pub push-requires : goal.push-requires
push-requires c =
    behind_fits c.args.to.now.blocks (codes "<html><body><h1>") 16 200 c.args.to.now.size (omega arith) c.requires.light (omega arith)

pub push-requires-2 : goal.push-requires-2
push-requires-2 c =
    let first = behind_light c.args.to.now.blocks c.push.new.msg.blocks (codes "<html><body><h1>") 16 200 c.push.ensures.blocks (omega arith) c.requires.light in
    behind_fits c.push.new.msg.blocks c.args.digits.now 20 224 c.push.new.msg.size c.requires.few first (omega arith)

pub push-requires-3 : goal.push-requires-3
push-requires-3 c =
    let first = behind_light c.args.to.now.blocks c.push.new.msg.blocks (codes "<html><body><h1>") 16 200 c.push.ensures.blocks (omega arith) c.requires.light in
    let second = behind_light c.push.new.msg.blocks c.push-2.new.msg.blocks c.args.digits.now 20 224 c.push-2.ensures.blocks c.requires.few first in
    behind_fits c.push-2.new.msg.blocks (codes " ") 1 252 c.push-2.new.msg.size (omega arith) second (omega arith)

pub push-requires-4 : goal.push-requires-4
push-requires-4 c =
    let first = behind_light c.args.to.now.blocks c.push.new.msg.blocks (codes "<html><body><h1>") 16 200 c.push.ensures.blocks (omega arith) c.requires.light in
    let second = behind_light c.push.new.msg.blocks c.push-2.new.msg.blocks c.args.digits.now 20 224 c.push-2.ensures.blocks c.requires.few first in
    let third = behind_light c.push-2.new.msg.blocks c.push-3.new.msg.blocks (codes " ") 1 252 c.push-3.ensures.blocks (omega arith) second in
    behind_fits c.push-3.new.msg.blocks c.args.reason.now 21 261 c.push-3.new.msg.size c.requires.short third (omega arith)

pub push-requires-5 : goal.push-requires-5
push-requires-5 c =
    let first = behind_light c.args.to.now.blocks c.push.new.msg.blocks (codes "<html><body><h1>") 16 200 c.push.ensures.blocks (omega arith) c.requires.light in
    let second = behind_light c.push.new.msg.blocks c.push-2.new.msg.blocks c.args.digits.now 20 224 c.push-2.ensures.blocks c.requires.few first in
    let third = behind_light c.push-2.new.msg.blocks c.push-3.new.msg.blocks (codes " ") 1 252 c.push-3.ensures.blocks (omega arith) second in
    let fourth = behind_light c.push-3.new.msg.blocks c.push-4.new.msg.blocks c.args.reason.now 21 261 c.push-4.ensures.blocks c.requires.short third in
    behind_fits c.push-4.new.msg.blocks (codes "</h1></body></html>\n") 20 290 c.push-4.new.msg.size (omega arith) fourth (omega arith)

pub returns-clause-body : goal.returns-clause-body
returns-clause-body c = λ head e.
    let begin = codes "<html><body><h1>" in
    let first = first_part head c.args.to.now.blocks c.push.new.msg.blocks begin e c.push.ensures.blocks in
    let second = next_part head c.push.new.msg.blocks c.push-2.new.msg.blocks begin c.args.digits.now first c.push-2.ensures.blocks in
    let third = next_part head c.push-2.new.msg.blocks c.push-3.new.msg.blocks (begin ++ c.args.digits.now) (codes " ") second c.push-3.ensures.blocks in
    let fourth = next_part head c.push-3.new.msg.blocks c.push-4.new.msg.blocks ((begin ++ c.args.digits.now) ++ codes " ") c.args.reason.now third c.push-4.ensures.blocks in
    next_part head c.push-4.new.msg.blocks c.push-5.new.msg.blocks (((begin ++ c.args.digits.now) ++ codes " ") ++ c.args.reason.now)
    (codes "</h1></body></html>\n") fourth c.push-5.ensures.blocks
    ∙ ap (front_blocks head) (page c.args.code c.args.digits.now c.args.reason.now c.requires.digits c.requires.reason)
