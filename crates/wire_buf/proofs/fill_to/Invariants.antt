use Rattle.std.proofs.Common.{◌≡◌, ◌≤◌, ◌-◌, length, take}
use Rattle.wire_buf.proofs.fill_to.Given as goal

abbrev pub invariant-loop-ring : goal.invariant-loop-ring
invariant-loop-ring l = record {
  kept : take (length l.fn.ring.items) l.ring.items ≡ l.fn.ring.items;
  grown : length l.fn.ring.items ≤ length l.ring.items;
  capacity : l.ring.capacity ≡ l.fn.ring.capacity;
}

abbrev pub decreases-loop-ring : goal.decreases-loop-ring
decreases-loop-ring l = l.ring.capacity - length l.ring.items
