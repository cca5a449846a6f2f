use Rattle.std.proofs.Common.{◌≡◌, ◌≤◌, drop, length}
use Rattle.cfg_print.specs.Pairs as spec
use Rattle.cfg_print.proofs.pairs.are_pairs.Given as goal

-- what is left decides, and there was a rule for each name so far
abbrev pub invariant-loop-at : goal.invariant-loop-at
invariant-loop-at l = record {
  decides : spec.are_pairs_of l.names (drop l.at l.names) (drop l.at l.rules) ≡ spec.are_pairs_of l.names l.names l.rules;
  within : l.at ≤ length l.rules;
}
