use Rattle.std.proofs.Common.{◌≡◌, ◌≤◌, ◌++◌, List, false, not, ap, ◌∙◌, sym, subst, length, take, drop, arith}
use Rattle.http_model.specs.Block.{Block}
use Rattle.http_model.specs.Blocks.{block_at}
use Rattle.http_rules.specs.Action.Steps.{by_pattern}
use Rattle.http_rules.specs.Action.Going.{is_going, without_going}
use Rattle.http_rules.proofs.ActionLemmas.Going.{gone, gone_within}
use Rattle.http_rules.proofs.action.removal_by.remove_going.Goals as goal

pub loop-at-preserved-then-branch : goal.loop-at-preserved-then-branch
loop-at-preserved-then-branch c =
    let old : List Block = c.loop-at.msg.blocks in
    let goes : not (is_going (by_pattern c.args.pat.now) (block_at old c.loop-at.at)) ≡ false = ap not (sym c.in_ok-goes_at.ensures.goes ∙ c.if-branch.true) in
    record {
      within = subst (λ (bs : List Block). c.loop-at.at ≤ length bs) (sym c.remove.ensures.blocks) (gone_within old c.loop-at.at (omega arith));
      rest =
          ap (λ (bs : List Block). take c.loop-at.at bs ++ without_going (by_pattern c.args.pat.now) (drop c.loop-at.at bs)) c.remove.ensures.blocks
          ∙ gone (λ b. not (is_going (by_pattern c.args.pat.now) b)) old c.loop-at.at (omega arith) goes ∙ c.loop-at.invariant.rest;
      size = c.remove.ensures.size ∙ c.loop-at.invariant.size;
      cap = c.in_ok-goes_at.ensures.cap ∙ c.loop-at.invariant.cap;
    }
