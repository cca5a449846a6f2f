use Rattle.std.proofs.Common.{◌≡◌, ◌++◌, drop}
use Rattle.cfg_print.specs.Words.{words_text}
use Rattle.cfg_print.specs.Rules.{group_words}
use Rattle.cfg_print.proofs.rules.put_group.Given as goal

-- what is left of the terms is still to come
abbrev pub invariant-loop-term : goal.invariant-loop-term
invariant-loop-term l = l.page.text.items ++ words_text (group_words l.keys (drop l.term-index l.terms)) ≡ l.initial.page.text.items ++ words_text (group_words l.keys l.terms)
