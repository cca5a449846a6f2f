use Rattle.std.proofs.Common.{◌≡◌, ◌-◌, ◌++◌, length}
use Rattle.px_explain.specs.Array.{block_lines}
use Rattle.px_explain.proofs.array.push_blocks.Given as goal

-- the lines of the blocks that are left are still to come
abbrev pub invariant-loop-at : goal.invariant-loop-at
invariant-loop-at l = l.text ++ block_lines l.msg l.at (length l.msg.blocks - l.at) ≡ l.initial.text ++ block_lines l.msg 0 (length l.msg.blocks)
