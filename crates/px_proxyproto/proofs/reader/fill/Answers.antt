use Rattle.std.proofs.Common.{◌≡◌, ℕ, ◌+◌, ◌++◌, take, subst, refl, arith, rules, length-take}
use Rattle.px_proxyproto.proofs.Kept.{kept_past, kept_piece}
use Rattle.px_proxyproto.proofs.reader.fill.Goals as goal

pub returns-then-at-ge-LINE : goal.returns-then-at-ge-LINE
returns-then-at-ge-LINE c = kept_past c.args.kept.now c.args.bytes.now c.args.at (search rules) (omega arith)

pub returns : goal.returns
returns c =
    let ends : c.put.result ≡ c.args.at + c.min-n.result = omega (arith, c.put.ensures.end, c.min-n.ensures, length-take {A = ℕ}) in
    let front = subst (λ (k : ℕ). take k c.put.new.into ≡ take c.args.at c.args.kept.now ++ take c.min-n.result c.args.bytes.now) ends c.put.ensures.front in
    kept_piece c.args.kept.now c.put.new.into c.args.bytes.now (take c.min-n.result c.args.bytes.now) c.args.at c.min-n.result (search rules) (search rules) (omega arith) c.min-n.ensures refl front
