use Rattle.std.proofs.Common.{arith, ◌≡◌, ◌≤◌, ◌++◌, List, false, not, ap, ◌∙◌, sym, subst, length, take, drop}
use Rattle.std.proofs.lemmas.Grind.{common_steps}
use Rattle.http_model.specs.Block.{Block}
use Rattle.http_model.specs.Blocks.{block_at}
use Rattle.header_ops.specs.Headers.{HasEnd}
use Rattle.header_ops.specs.Removal.{is_taken, without_taken}
use Rattle.header_ops.proofs.Ends.{HasEnd-without_taken}
use Rattle.header_ops.proofs.Removals.{removed, removed_within, gone_and_kept}
use Rattle.header_ops.proofs.remove.remove_taken.Goals as goal

pub overflow_sub-result : goal.overflow_sub-result
overflow_sub-result c =
    let kept : c.loop-at.msg.blocks ≡ without_taken c.args.taken.now c.args.msg.now.blocks = grind (arith, common_steps) in
    omega (arith, ap length kept, gone_and_kept (is_taken c.args.taken.now) c.args.msg.now.blocks)

pub returns-clause-count : goal.returns-clause-count
returns-clause-count c =
    let kept : c.loop-at.msg.blocks ≡ without_taken c.args.taken.now c.args.msg.now.blocks = grind (arith, common_steps) in
    omega (arith, ap length kept, gone_and_kept (is_taken c.args.taken.now) c.args.msg.now.blocks)

pub returns-clause-end : goal.returns-clause-end
returns-clause-end c =
    λ h.
    let kept : c.loop-at.msg.blocks ≡ without_taken c.args.taken.now c.args.msg.now.blocks = grind (arith, common_steps) in
    let P : List Block → Type 0 = HasEnd in subst P (sym kept) (HasEnd-without_taken c.args.taken.now c.args.msg.now.blocks h)

pub loop-at-preserved-then-is_taken : goal.loop-at-preserved-then-is_taken
loop-at-preserved-then-is_taken c =
    let old : List Block = c.loop-at.msg.blocks in
    let gone : not (is_taken c.args.taken.now (block_at old c.loop-at.at)) ≡ false = ap not (sym c.is_taken.ensures ∙ c.if-is_taken.true) in
    record {
      within = subst (λ (bs : List Block). c.loop-at.at ≤ length bs) (sym c.remove.ensures.blocks) (removed_within old c.loop-at.at (omega arith));
      rest =
          ap (λ (bs : List Block). take c.loop-at.at bs ++ without_taken c.args.taken.now (drop c.loop-at.at bs)) c.remove.ensures.blocks
          ∙ removed (λ b. not (is_taken c.args.taken.now b)) old c.loop-at.at (omega arith) gone ∙ c.loop-at.invariant.rest;
      size = c.remove.ensures.size ∙ c.loop-at.invariant.size;
    }
