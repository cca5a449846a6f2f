use Rattle.std.proofs.Common.{◌≡◌, ◌≤◌, ◌++◌, ◌∷◌, [], take}
use Rattle.body_filter.specs.Kept.{kept}
use Rattle.body_filter.proofs.needle.longer.Given as goal

abbrev pub invariant-loop-at : goal.invariant-loop-at
invariant-loop-at l = record {
  within : l.at ≤ l.kept;
  same : kept l.needle (take l.at l.needle ++ l.byte ∷ []) ≡ kept l.needle (take l.kept l.needle ++ l.byte ∷ []);
}

abbrev pub decreases-loop-at : goal.decreases-loop-at
decreases-loop-at l = l.at
