use Rattle.std.proofs.Common.{◌≡◌, drop}
use Rattle.std.specs.List.{list_all}
use Rattle.cfg_print.specs.Pairs as spec
use Rattle.cfg_print.proofs.pairs.are_sets.Given as goal

-- what is left decides
abbrev pub invariant-loop-rule : goal.invariant-loop-rule
invariant-loop-rule l = list_all (spec.is_set l.names) (drop l.rule-index l.rules) ≡ list_all (spec.is_set l.names) l.rules
