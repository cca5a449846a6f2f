use Rattle.std.proofs.Common.{◌≡◌, ◌++◌, drop}
use Rattle.std.specs.List.{flat_map}
use Rattle.cfg_print.specs.Formats.{doubled}
use Rattle.cfg_print.proofs.formats.put_literal.Given as goal

abbrev pub invariant-loop-b : goal.invariant-loop-b
invariant-loop-b l = l.out.items ++ flat_map doubled (drop l.b-index l.text) ≡ l.initial.out.items ++ flat_map doubled l.text
