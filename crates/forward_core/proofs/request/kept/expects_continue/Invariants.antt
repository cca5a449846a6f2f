use Rattle.std.proofs.Common.{◌≡◌, drop}
use Rattle.std.specs.List.{list_any}
use Rattle.forward_core.specs.Request.Kept.{is_expectation}
use Rattle.forward_core.proofs.request.kept.expects_continue.Given as goal

-- the answer depends on the blocks that are left
abbrev pub invariant-loop-at : goal.invariant-loop-at
invariant-loop-at l = list_any is_expectation (drop l.at l.msg.blocks) ≡ list_any is_expectation l.msg.blocks
