use Rattle.std.proofs.Common.{◌≡◌, ◌++◌, drop}
use Rattle.cfg_print.specs.Words.{words_text}
use Rattle.cfg_print.specs.Conditions.{value_words}
use Rattle.cfg_print.proofs.conditions.put_other_values.Given as goal

-- what is left of the values is still to come
abbrev pub invariant-loop-value : goal.invariant-loop-value
invariant-loop-value l = l.page.text.items ++ words_text (value_words (drop l.value-index l.values)) ≡ l.initial.page.text.items ++ words_text (value_words l.values)
