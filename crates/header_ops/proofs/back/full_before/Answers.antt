use Rattle.std.proofs.Common.{◌-◌, arith}
use Rattle.header_ops.proofs.Backwards.{full_passed}
use Rattle.header_ops.proofs.back.full_before.Goals as goal

pub returns-else-n-eq0-clause-left : goal.returns-else-n-eq0-clause-left
returns-else-n-eq0-clause-left c =
    full_passed c.args.name.now c.args.msg.now.blocks c.args.end c.args.n (c.args.n - 1) c.requires.some c.requires.within c.in-Some.ensures.0 (omega arith)
