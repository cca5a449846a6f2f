use Rattle.std.proofs.Common.{ℕ, ◌≡◌, ◌≤◌, ◌<◌, ◌+◌, drop}
use Rattle.htx_model.specs.Blocks.{load}
use Rattle.htx_arena.specs.Space.Windows.{desc_at}
use Rattle.htx_arena.specs.Layout.Raw.{blocks_of}
use Rattle.htx_arena.specs.Layout.Sound.{end_of}
use Rattle.htx_arena.proofs.layout.scan.weigh.Given as goal

abbrev pub invariant-loop-i : goal.invariant-loop-i
invariant-loop-i l = record {
  weight : l.weight + load (drop l.i (blocks_of l.space l.count)) ≡ load (drop l.from (blocks_of l.space l.count));
  up_to : (j : ℕ) → l.from ≤ j → j < l.i → end_of (desc_at l.space j) ≤ l.end;
}
