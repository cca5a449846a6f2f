use Rattle.std.proofs.Common.{◌<◌, ◌^◌, arith}
use Rattle.px_bytes.proofs.DigitLemmas.{within_digits}
use Rattle.px_bytes.proofs.digits.read_hex.Goals as goal

pub overflow_mul-number : goal.overflow_mul-number
overflow_mul-number c =
    let small : c.loop-byte.number < 16 ^ 15 = within_digits 16 c.loop-byte.number c.loop-byte.byte-index 15 (omega arith) c.loop-byte.invariant.small (omega arith) in
    omega arith

pub overflow_add-number : goal.overflow_add-number
overflow_add-number c =
    let small : c.loop-byte.number < 16 ^ 15 = within_digits 16 c.loop-byte.number c.loop-byte.byte-index 15 (omega arith) c.loop-byte.invariant.small (omega arith) in
    omega (arith, c.in-Some.ensures.digit.2)

pub returns-clause-small : goal.returns-clause-small
returns-clause-small c = within_digits 16 c.loop-byte.number c.loop-byte.byte-index c.args.digits (omega arith) c.loop-byte.invariant.small (omega arith)
