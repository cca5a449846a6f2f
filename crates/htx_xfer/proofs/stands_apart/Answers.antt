use Rattle.std.proofs.Common.{◌≡◌, ◌<◌, ◌+◌, ◌++◌, [], ◌∷◌, length, take, ap, sym, ◌∙◌, arith}
use Rattle.std.proofs.lemmas.List.{take_more}
use Rattle.htx_model.specs.Block.{EndHeaders, kind_of}
use Rattle.htx_model.specs.Blocks.{block_at, data_overhead}
use Rattle.htx_model.specs.declared.Kind.TheVariants.{Data}
use Rattle.htx_model.specs.Flow.{added}
use Rattle.htx_xfer.proofs.Whole.{apart_more, overhead_behind}
use Rattle.htx_xfer.proofs.stands_apart.Goals as goal
use Rattle.htx_xfer.proofs.stands_apart.Goals.{else-was_data-via-then-was_data+else-is_data, else-was_data-via-else-was_data}

pub loop-at-preserved : goal.loop-at-preserved
loop-at-preserved c =
    let bs = c.args.from.now.blocks in
    let at = c.loop-at.at in
    let b = block_at bs at in
    let told = c.is_data-is_data.ensures in
    let inside : at < length bs = omega (arith, c.loop-at-test.true, c.len-at-end.ensures) in
    let more : take (at + 1) bs ≡ take at bs ++ b ∷ [] = take_more bs at EndHeaders inside in
    let free : kind_of b ≡ Data → data_overhead (take at bs) ≡ 8 =
    elim c.else-was_data.branch [
      | else-was_data-via-then-was_data+else-is_data w ↦ λ is. absurd (told.other w.if-is_data.false is)
      | else-was_data-via-else-was_data w ↦ λ is. c.loop-at.invariant.last w.if-was_data.false
    ] in
    record {
      some = omega (arith, inside);
      apart = ap (added []) more ∙ apart_more (take at bs) b c.loop-at.invariant.apart (λ is. (free is, told.some is)) ∙ sym more;
      last = λ other. ap data_overhead more ∙ overhead_behind (take at bs) b (told.other other);
    }
