use Rattle.std.proofs.Common.{◌≡◌, ◌++◌, drop}
use Rattle.std.specs.List.{flat_map}
use Rattle.cfg_print.specs.Words.{words_text}
use Rattle.cfg_print.specs.Rules.{joined_words}
use Rattle.cfg_print.proofs.rules.put_other_groups.Given as goal

-- what is left of the groups is still to come
abbrev pub invariant-loop-group : goal.invariant-loop-group
invariant-loop-group l = l.page.text.items ++ words_text (flat_map (joined_words l.keys) (drop l.group-index l.groups)) ≡ l.initial.page.text.items ++ words_text (flat_map (joined_words l.keys) l.groups)
