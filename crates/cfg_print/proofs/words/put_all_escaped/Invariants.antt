use Rattle.std.proofs.Common.{◌≡◌, ◌++◌, drop}
use Rattle.std.specs.List.{flat_map}
use Rattle.cfg_print.specs.Words.{escaped}
use Rattle.cfg_print.proofs.words.put_all_escaped.Given as goal

abbrev pub invariant-loop-b : goal.invariant-loop-b
invariant-loop-b l = l.out.items ++ flat_map escaped (drop l.b-index l.word) ≡ l.initial.out.items ++ flat_map escaped l.word
