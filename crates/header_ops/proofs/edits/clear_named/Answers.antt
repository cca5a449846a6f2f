use Rattle.std.proofs.Common.{arith}
use Rattle.header_ops.proofs.Loads.{none_named}
use Rattle.header_ops.proofs.edits.clear_named.Goals as goal

pub returns-else-weight-gt0-clause-blocks : goal.returns-else-weight-gt0-clause-blocks
returns-else-weight-gt0-clause-blocks c = none_named c.args.name.now c.args.msg.now.blocks c.args.weight c.requires.weight (omega arith)
