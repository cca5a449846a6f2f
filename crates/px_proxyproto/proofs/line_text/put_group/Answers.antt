use Rattle.std.proofs.Common.{ℕ, arith, length-take}
use Rattle.px_bytes.proofs.PublicLaws.{length-hex-le}
use Rattle.px_proxyproto.proofs.line_text.put_group.Goals as goal

pub put-requires : goal.put-requires
put-requires c =
    let few = length-hex-le 4 c.args.n (omega arith) (omega arith) (omega arith) in
    let size = c.write_hex-len.ensures.size in
    omega (arith, length-take {A = ℕ})

pub returns-then-first-clause-within : goal.returns-then-first-clause-within
returns-then-first-clause-within c =
    let few = length-hex-le 4 c.args.n (omega arith) (omega arith) (omega arith) in
    let size = c.write_hex-len.ensures.size in
    omega (arith, length-take {A = ℕ})

pub put-requires-2 : goal.put-requires-2
put-requires-2 c =
    let few = length-hex-le 4 c.args.n (omega arith) (omega arith) (omega arith) in
    let size = c.write_hex-len.ensures.size in
    omega (arith, length-take {A = ℕ})

pub returns-clause-within : goal.returns-clause-within
returns-clause-within c =
    let few = length-hex-le 4 c.args.n (omega arith) (omega arith) (omega arith) in
    let size = c.write_hex-len.ensures.size in
    omega (arith, length-take {A = ℕ})
