use Rattle.std.proofs.Common.{◌++◌, ◌∙◌, ap, arith, List, ℕ}
use Rattle.htx_model.specs.Block.{block}
use Rattle.htx_arena.proofs.LayoutLemmas.ReplaceLemmas.{line_len}
use Rattle.htx_arena.proofs.LayoutLemmas.CodeLemmas.{IsMade, line_made}
use Rattle.htx_arena.proofs.layout.new_block.NewBlock.line.Goals as goal

pub invariant_of-result : goal.invariant_of-result
invariant_of-result c =
    let x = c.args.a.now in
    let y = c.args.b.now in
    let z = c.args.c.now in
    let m : IsMade (block c.args.kind x y z) c.other-info.result.0 c.new-payload.result = line_made c.args.kind x y z c.other-info.result.0 c.new-payload.result c.requires.kind c.requires.small (c.other-info.ensures) (c.new-payload.ensures ∙ ap (λ (h : List ℕ). h ++ (x ++ (y ++ z))) c.requires.head) in
    let long = m.long in
    record { tells = m.tells; some = let all = line_len c.args.kind x y z c.requires.kind in omega arith }

pub returns : goal.returns
returns c =
    let x = c.args.a.now in
    let y = c.args.b.now in
    let z = c.args.c.now in
    let m : IsMade (block c.args.kind x y z) c.other-info.result.0 c.new-payload.result = line_made c.args.kind x y z c.other-info.result.0 c.new-payload.result c.requires.kind c.requires.small (c.other-info.ensures) (c.new-payload.ensures ∙ ap (λ (h : List ℕ). h ++ (x ++ (y ++ z))) c.requires.head) in
    m.is
