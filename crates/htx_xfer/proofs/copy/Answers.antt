use Rattle.std.proofs.Common.{◌≡◌, ℕ, ◌+◌, ◌-◌, ◌<◌, inl, inr, List, [], ◌∷◌, ◌++◌, length, take, sym, ap, ◌∙◌, subst, arith}
use Rattle.std.proofs.lemmas.List.{take_more, take_all}
use Rattle.htx_model.specs.Block.{Block, EndHeaders, payload_len}
use Rattle.htx_model.specs.Blocks.{block_at, load}
use Rattle.htx_model.specs.Flow.{added, AreFilled}
use Rattle.htx_model.proofs.PublicLaws.{added-append}
use Rattle.htx_xfer.specs.Moved.{payload, front_of, rest_of, Stays}
use Rattle.htx_xfer.proofs.Moving.{front_none, front_parts, stays_at, stays_past, filled-append, payload-append, one_payload, one_filled}
use Rattle.htx_xfer.proofs.Staying.{one_stuck}
use Rattle.htx_xfer.proofs.copy.Goals as goal

pub returns-then-part-payload_len-clause-copies : goal.returns-then-part-payload_len-clause-copies
returns-then-part-payload_len-clause-copies c =
    let bs = c.args.from.now.blocks in
    let l = c.loop-at in
    let b = block_at bs l.at in
    let part = c.copy_block-part.result in
    let m = c.copy_block-part.ensures.moves in
    let len = c.payload_len.ensures.len in
    let less : part < payload_len b = omega (arith, c.if-part-payload_len.true) in
    let at : l.at < length bs = omega (arith, c.loop-at-test.true, c.len-at-end.ensures) in
    let split = front_parts bs l.at part at in
    let to = c.copy_block-part.new.to.blocks in
    let sum = one_payload b part less (m.cut less) in
    let total = payload-append (take l.at bs) (front_of (b ∷ []) 0 part) in
    let left : (c.args.limit - l.bytes) - part ≡ c.args.limit - (l.bytes + part) = omega arith in
    record {
      count = omega arith;
      cut = λ some. (at, m.cut less some, less);
      to_is = (m.part less).0 ∙ ap (λ (t : List Block). added t (front_of (b ∷ []) 0 part)) l.invariant.to_is ∙ sym (added-append c.args.to.now.blocks (take l.at bs) (front_of (b ∷ []) 0 part)) ∙ ap (added c.args.to.now.blocks) (sym split);
      bytes = (let all : payload (front_of bs l.at part) ≡ payload (take l.at bs ++ front_of (b ∷ []) 0 part) = ap payload split in omega (arith, l.invariant.bytes));
      filled = subst AreFilled (sym split) (filled-append (take l.at bs) (front_of (b ∷ []) 0 part) l.invariant.filled (one_filled b part less));
      within = omega (arith, m.within, l.invariant.within);
      most = subst (λ (s : ℕ). Stays s (c.args.limit - (l.bytes + part)) to (rest_of bs l.at part)) l.invariant.size
          (subst (λ (n : ℕ). Stays l.to.size n to (rest_of bs l.at part)) left (stays_at l.to.size ((c.args.limit - l.bytes) - part) to bs l.at part at (m.part less).1));
      stuck = λ _.
          let one = one_stuck b part l.to.size ((c.args.limit - l.bytes) - part) l.to.blocks to less (m.cut less) (m.part less).0 (m.part less).1 in
          let base : load l.to.blocks ≡ load (added c.args.to.now.blocks (take l.at bs)) = ap load l.invariant.to_is in
          elim one [
            | inl over ↦ inl (omega (arith, over, m.within, l.invariant.within, l.invariant.bytes))
            | inr over ↦ inr (omega (arith, over, l.invariant.size, base))
          ];
    }

pub loop-at-preserved : goal.loop-at-preserved
loop-at-preserved c =
    let bs = c.args.from.now.blocks in
    let l = c.loop-at in
    let b = block_at bs l.at in
    let part = c.copy_block-part.result in
    let m = c.copy_block-part.ensures.moves in
    let len = c.payload_len.ensures.len in
    let some : 0 < payload_len b = omega (arith, c.payload_len.ensures.some) in
    let whole : part ≡ payload_len b = omega (arith, c.if-part-payload_len.false, m.most) in
    let at : l.at < length bs = omega (arith, c.loop-at-test.true, c.len-at-end.ensures) in
    let more : take (l.at + 1) bs ≡ take l.at bs ++ b ∷ [] = take_more bs l.at EndHeaders at in
    let total = payload-append (take l.at bs) (b ∷ []) in
    let all : payload (take (l.at + 1) bs) ≡ payload (take l.at bs ++ b ∷ []) = ap payload more in
    record {
      to_is = m.all whole ∙ ap (λ (t : List Block). added t (b ∷ [])) l.invariant.to_is ∙ sym (added-append c.args.to.now.blocks (take l.at bs) (b ∷ [])) ∙ ap (added c.args.to.now.blocks) (sym more);
      bytes = omega (arith, l.invariant.bytes);
      filled = subst AreFilled (sym more) (filled-append (take l.at bs) (b ∷ []) l.invariant.filled (some, tt));
      within = omega (arith, m.within, l.invariant.within);
      size = c.copy_block-part.ensures.size ∙ l.invariant.size;
      some = omega arith;
    }

pub returns-clause-copies : goal.returns-clause-copies
returns-clause-copies c =
    let bs = c.args.from.now.blocks in
    let l = c.loop-at in
    let n : c.len.result ≡ length bs = c.len.ensures in
    let all : take l.at bs ≡ bs = take_all l.at bs (omega (arith, c.loop-at-test.false, c.len-at-end.ensures)) in
    let front : front_of bs c.len.result 0 ≡ bs = front_none bs c.len.result ∙ take_all c.len.result bs (omega arith) in
    let same : take l.at bs ≡ front_of bs c.len.result 0 = all ∙ sym front in
    record {
      count = omega arith;
      cut = λ some. absurd (omega (arith, some));
      to_is = l.invariant.to_is ∙ ap (added c.args.to.now.blocks) same;
      bytes = l.invariant.bytes ∙ ap payload same;
      filled = subst AreFilled same l.invariant.filled;
      within = l.invariant.within;
      most = subst (λ (k : ℕ). Stays c.args.to.now.size (c.args.limit - l.bytes) l.to.blocks (rest_of bs k 0)) (sym n) (stays_past c.args.to.now.size (c.args.limit - l.bytes) l.to.blocks bs);
      stuck = λ less. absurd (omega (arith, less, n));
    }
