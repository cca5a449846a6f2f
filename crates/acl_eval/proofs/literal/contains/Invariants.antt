use Rattle.std.proofs.Common.{◌≡◌, drop}
use Rattle.acl_eval.specs.Matches.{compared, contains_text}
use Rattle.acl_eval.proofs.literal.contains.Given as goal

-- the bytes that are left contain the literal where all do
abbrev pub invariant-loop-at : goal.invariant-loop-at
invariant-loop-at l = contains_text (compared l.icase (drop l.at l.text)) (compared l.icase l.literal) ≡ contains_text (compared l.icase l.text) (compared l.icase l.literal)
