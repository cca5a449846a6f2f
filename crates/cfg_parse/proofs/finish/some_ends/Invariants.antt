use Rattle.std.proofs.Common.{◌≡◌, drop}
use Rattle.std.specs.List.{list_any}
use Rattle.cfg_parse.specs.Whole.{ends_rules}
use Rattle.cfg_parse.proofs.finish.some_ends.Given as goal

abbrev pub invariant-loop-at : goal.invariant-loop-at
invariant-loop-at l = list_any ends_rules (drop l.at l.rules) ≡ list_any ends_rules l.fn.rules
