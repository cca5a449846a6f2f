use Rattle.std.proofs.Common.{◌≡◌, drop}
use Rattle.std.specs.List.{list_any}
use Rattle.acl_eval.specs.Matches.{number_matches}
use Rattle.acl_eval.proofs.matching.matches_a_number.Given as goal

-- the values that are left decide as all of them
abbrev pub invariant-loop-at : goal.invariant-loop-at
invariant-loop-at l = list_any (number_matches l.number) (drop l.at l.values) ≡ list_any (number_matches l.number) l.values
