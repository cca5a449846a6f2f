use Rattle.std.proofs.Common.{◌≡◌, ◌≤◌, take, length}
use Rattle.std.specs.Prelude.{sum_by}
use Rattle.px_reply.specs.Finished.{weight_if_framing}
use Rattle.px_reply.proofs.framing.load_of_framing.Given as goal

-- what goes of the blocks so far is weighed
abbrev pub invariant-loop-at : goal.invariant-loop-at
invariant-loop-at l = record {
  within : l.at ≤ length l.msg.blocks;
  weighed : l.sum ≡ sum_by weight_if_framing (take l.at l.msg.blocks);
}
