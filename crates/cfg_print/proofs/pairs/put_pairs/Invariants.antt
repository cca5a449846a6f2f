use Rattle.std.proofs.Common.{◌≡◌, ◌++◌, drop}
use Rattle.cfg_print.specs.Pairs as spec
use Rattle.cfg_print.proofs.pairs.put_pairs.Given as goal

-- what is left of the rules is still to come
abbrev pub invariant-loop-rule : goal.invariant-loop-rule
invariant-loop-rule l = l.page.text.items ++ spec.pairs_text l.keys l.names (drop l.rule-index l.rules) ≡ l.initial.page.text.items ++ spec.pairs_text l.keys l.names l.rules
