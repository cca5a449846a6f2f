use Rattle.std.proofs.Common.{◌≡◌, ◌+◌, ◌++◌, length, map, drop}
use Rattle.cfg_parse.specs.Whole.{param_removal}
use Rattle.cfg_parse.proofs.finish.add_removals.Given as goal

abbrev pub invariant-loop-name : goal.invariant-loop-name
invariant-loop-name l =
    (l.rules ++ map param_removal (drop l.name-index l.names) ≡ l.initial.rules ++ map param_removal l.names)
    × (length l.rules ≡ length l.initial.rules + l.name-index)
