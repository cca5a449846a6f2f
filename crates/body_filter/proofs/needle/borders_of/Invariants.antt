use Rattle.std.proofs.Common.{◌≡◌, ◌+◌, length}
use Rattle.body_filter.specs.Kept.{AreBorders}
use Rattle.body_filter.proofs.needle.borders_of.Given as goal

abbrev pub invariant-loop-at : goal.invariant-loop-at
invariant-loop-at l = record {
  size : length l.borders.items ≡ length l.needle + 1;
  table : AreBorders l.needle l.borders.items l.at;
}
