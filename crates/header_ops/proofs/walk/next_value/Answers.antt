use Rattle.std.proofs.Common.{sym, ◌∙◌, arith}
use Rattle.header_ops.proofs.Walking.{onwards_here, onwards_past, onwards_none}
use Rattle.header_ops.proofs.walk.next_value.Goals as goal

pub returns-in-Some : goal.returns-in-Some
returns-in-Some c =
    sym c.loop-at.invariant
    ∙ onwards_here c.args.name.now c.args.msg.now.blocks c.loop-at.at c.loop-at.within c.in-Some.behind c.in-Some.value.now (omega arith) c.in-Some.ensures

pub loop-at-preserved : goal.loop-at-preserved
loop-at-preserved c = onwards_past c.args.name.now c.args.msg.now.blocks c.loop-at.at c.loop-at.within (omega arith) c.in-None.ensures ∙ c.loop-at.invariant

pub returns : goal.returns
returns c = sym c.loop-at.invariant ∙ onwards_none c.args.name.now c.args.msg.now.blocks c.loop-at.at c.loop-at.within (omega arith)
