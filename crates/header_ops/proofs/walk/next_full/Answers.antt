use Rattle.std.proofs.Common.{sym, ◌∙◌, arith}
use Rattle.header_ops.proofs.Walking.{full_here, full_past, full_none}
use Rattle.header_ops.proofs.walk.next_full.Goals as goal

pub returns-in-Some : goal.returns-in-Some
returns-in-Some c =
    sym c.loop-at.invariant ∙ full_here c.args.name.now c.args.msg.now.blocks c.loop-at.at c.in-Some.value.now (omega arith) c.in-Some.ensures.0 c.in-Some.ensures.1

pub loop-at-preserved : goal.loop-at-preserved
loop-at-preserved c = full_past c.args.name.now c.args.msg.now.blocks c.loop-at.at (omega arith) c.in-None.ensures ∙ c.loop-at.invariant

pub returns : goal.returns
returns c = sym c.loop-at.invariant ∙ full_none c.args.name.now c.args.msg.now.blocks c.loop-at.at (omega arith)
