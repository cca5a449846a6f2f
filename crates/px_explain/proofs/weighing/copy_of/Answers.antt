use Rattle.std.proofs.Common.{◌≡◌, ◌+◌, ◌<◌, ◌≤◌, List, [], ◌∷◌, ◌++◌, length, take, sym, ap, ◌∙◌, arith}
use Rattle.std.proofs.lemmas.List.{take_more, take_all}
use Rattle.http_model.specs.Block.{Block, EndHeaders}
use Rattle.http_model.specs.Blocks.{load, block_at}
use Rattle.http_model.specs.Sizes.{most_size}
use Rattle.px_explain.proofs.Weighed.{one_more}
use Rattle.px_explain.proofs.weighing.copy_of.Goals as goal

pub add_block-requires-clause-fits : goal.add_block-requires-clause-fits
add_block-requires-clause-fits c =
    let msg = c.args.msg.now in
    let below : c.loop-at.at < length msg.blocks = omega (arith, c.loop-at-test.true, c.len-at-end.ensures) in
    let fits : load msg.blocks ≤ msg.size = omega (arith, c.room-room.ensures) in
    one_more msg.blocks c.loop-at.copy.blocks c.loop-at.at msg.size most_size c.loop-at.copy.size below c.loop-at.invariant.blocks fits c.requires c.loop-at.invariant.size

pub loop-at-preserved : goal.loop-at-preserved
loop-at-preserved c =
    let msg = c.args.msg.now in
    let at = c.loop-at.at in
    let below : at < length msg.blocks = omega (arith, c.loop-at-test.true, c.len-at-end.ensures) in
    let block = block_at msg.blocks at in
    record {
      blocks = c.add_block.ensures.blocks ∙ (ap (λ (bs : List Block). bs ++ block ∷ []) c.loop-at.invariant.blocks ∙ sym (take_more msg.blocks at EndHeaders below));
      size = c.add_block.ensures.size ∙ c.loop-at.invariant.size;
      some = omega (arith, below);
    }

pub returns-clause-blocks : goal.returns-clause-blocks
returns-clause-blocks c =
    c.loop-at.invariant.blocks ∙ take_all c.loop-at.at c.args.msg.now.blocks (omega (arith, c.loop-at-test.false, c.len-at-end.ensures))
