use Rattle.std.proofs.Common.{arith}
use Rattle.htx_xfer.proofs.Whole.{load_is}
use Rattle.htx_xfer.proofs.payload_bytes.Goals as goal

pub overflow_mul-result : goal.overflow_mul-result
overflow_mul-result c =
    let weighs = load_is c.args.from.now.blocks in
    omega (arith, weighs, c.load.ensures, c.len.ensures, c.load.type_inv)

pub overflow_sub-result : goal.overflow_sub-result
overflow_sub-result c =
    let weighs = load_is c.args.from.now.blocks in
    omega (arith, weighs, c.load.ensures, c.len.ensures)

pub returns : goal.returns
returns c =
    let weighs = load_is c.args.from.now.blocks in
    omega (arith, weighs, c.load.ensures, c.len.ensures)
