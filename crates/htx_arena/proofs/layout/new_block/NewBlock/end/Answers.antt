use Rattle.std.proofs.Common.{ap, arith, [], length}
use Rattle.htx_model.specs.Block.{block}
use Rattle.htx_arena.proofs.LayoutLemmas.CodeLemmas.{IsMade, end_made}
use Rattle.htx_arena.proofs.layout.new_block.NewBlock.end.Goals as goal

pub invariant_of-result : goal.invariant_of-result
invariant_of-result c =
    let m : IsMade (block c.args.kind [] [] []) c.other-info.result.0 c.one-payload.result = end_made c.args.kind c.other-info.result.0 c.one-payload.result c.requires c.other-info.ensures c.one-payload.ensures in
    let long = m.long in
    record { tells = m.tells; some = let one = ap length c.one-payload.ensures in omega arith }

pub returns : goal.returns
returns c =
    let m : IsMade (block c.args.kind [] [] []) c.other-info.result.0 c.one-payload.result = end_made c.args.kind c.other-info.result.0 c.one-payload.result c.requires c.other-info.ensures c.one-payload.ensures in
    m.is
