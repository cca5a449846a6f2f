use Rattle.std.proofs.Common.{◌≡◌, ◌≤◌, ◌-◌, length, drop}
use Rattle.h1_head.specs.Stream.{behind}
use Rattle.px_explain.proofs.heads.find_head.Given as goal

-- empty lines alone were passed over
abbrev pub invariant-windows : goal.invariant-windows
invariant-windows l = record {
  within : l.from ≤ length l.stream;
  same : behind (drop l.from l.stream) ≡ behind l.stream;
  size : l.to.size ≡ l.initial.to.size;
}

abbrev pub decreases-windows : goal.decreases-windows
decreases-windows l = length l.stream - l.from
