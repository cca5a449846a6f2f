use Rattle.std.proofs.Common.{◌≡◌, drop}
use Rattle.std.specs.List.{list_any}
use Rattle.acl_eval.specs.Matches.{text_matches}
use Rattle.acl_eval.proofs.matching.matches_a_text.Given as goal

-- the values that are left decide as all of them
abbrev pub invariant-loop-at : goal.invariant-loop-at
invariant-loop-at l = list_any (text_matches l.test.how l.test.icase l.text) (drop l.at l.test.values) ≡ list_any (text_matches l.test.how l.test.icase l.text) l.test.values
