use Rattle.cfg_expr.proofs.ConditionLemmas.Closing.{NoClose}
use Rattle.cfg_expr.proofs.condition.words_left.WordsLeft.up_to_close.Given as goal

abbrev pub invariant-each : goal.invariant-each
invariant-each l = NoClose l.self l.number
