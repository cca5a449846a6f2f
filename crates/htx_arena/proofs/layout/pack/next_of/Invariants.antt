use Rattle.std.proofs.Common.{◌≡◌, ◌<◌, ◌≤◌, ℕ}
use Rattle.htx_arena.specs.Layout.Raw.{addr_in}
use Rattle.htx_arena.proofs.layout.pack.next_of.Given as goal

abbrev pub invariant-loop-i : goal.invariant-loop-i
invariant-loop-i l = record {
  none : l.count ≤ l.best → l.low ≡ 262145;
  above : l.best < l.count → l.from ≤ l.low;
  found : l.best < l.count → addr_in l.space l.best ≡ l.low;
  least : (j : ℕ) → j < l.i → l.from ≤ addr_in l.space j → l.low ≤ addr_in l.space j;
}
