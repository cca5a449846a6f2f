use Rattle.std.proofs.Common.{◌≡◌, ◌++◌, length}
use Rattle.std.specs.Vec.Iter.{into_iter_items, into_iter_len}
use Rattle.cfg_parse.proofs.waiting.WaitingRules.put_behind.Given as goal

abbrev pub invariant-loop-rule : goal.invariant-loop-rule
invariant-loop-rule l = (l.rules ++ into_iter_items l.rule-iterator ≡ l.initial.rules ++ into_iter_items l.initial.rule-iterator)
    × (into_iter_len l.rule-iterator ≡ length (into_iter_items l.rule-iterator))
