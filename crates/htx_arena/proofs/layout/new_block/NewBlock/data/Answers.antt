use Rattle.std.proofs.Common.{arith}
use Rattle.htx_model.specs.Block.{Data}
use Rattle.htx_arena.proofs.LayoutLemmas.CodeLemmas.{IsMade, data_made}
use Rattle.htx_arena.proofs.layout.new_block.NewBlock.data.Goals as goal

pub invariant_of-result : goal.invariant_of-result
invariant_of-result c =
    let m : IsMade (Data c.args.piece.now) c.other-info.result.0 c.one-payload.result = data_made c.args.piece.now c.other-info.result.0 c.one-payload.result c.requires.small c.other-info.ensures c.one-payload.ensures in
    let long = m.long in
    record { tells = m.tells; some = let some = c.requires.some in omega arith }

pub returns : goal.returns
returns c =
    let m : IsMade (Data c.args.piece.now) c.other-info.result.0 c.one-payload.result = data_made c.args.piece.now c.other-info.result.0 c.one-payload.result c.requires.small c.other-info.ensures c.one-payload.ensures in
    m.is
