use Rattle.std.proofs.Common.{ℕ, arith, length-take}
use Rattle.std.proofs.lemmas.Fmt.{length-decimal-le}
use Rattle.px_proxyproto.proofs.line_text.put_octet.Goals as goal

pub put-requires : goal.put-requires
put-requires c =
    let few = length-decimal-le 3 c.args.n (omega arith) (omega arith) (omega arith) in
    let size = c.write_decimal-len.ensures.size in
    omega (arith, length-take {A = ℕ})

pub returns-clause-within : goal.returns-clause-within
returns-clause-within c =
    let few = length-decimal-le 3 c.args.n (omega arith) (omega arith) (omega arith) in
    let size = c.write_decimal-len.ensures.size in
    omega (arith, length-take {A = ℕ})
