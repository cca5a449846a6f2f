use Rattle.std.proofs.Common.{◌<◌, ◌^◌, arith}
use Rattle.px_bytes.proofs.DigitLemmas.{within_digits}
use Rattle.px_bytes.proofs.digits.read_decimal.Goals as goal

pub overflow_mul-number : goal.overflow_mul-number
overflow_mul-number c =
    let small : c.loop-byte.number < 10 ^ 17 = within_digits 10 c.loop-byte.number c.loop-byte.byte-index 17 (omega arith) c.loop-byte.invariant.small (omega arith) in
    omega arith

pub overflow_add-number : goal.overflow_add-number
overflow_add-number c =
    let small : c.loop-byte.number < 10 ^ 17 = within_digits 10 c.loop-byte.number c.loop-byte.byte-index 17 (omega arith) c.loop-byte.invariant.small (omega arith) in
    omega arith

pub returns-clause-small : goal.returns-clause-small
returns-clause-small c = within_digits 10 c.loop-byte.number c.loop-byte.byte-index c.args.digits (omega arith) c.loop-byte.invariant.small (omega arith)
