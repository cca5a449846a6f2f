use Rattle.std.proofs.Common.{◌≡◌, ◌++◌, drop}
use Rattle.cfg_print.specs.Rules.{rules_text}
use Rattle.cfg_print.proofs.rules.put_rules.Given as goal

-- what is left of the rules is still to come
abbrev pub invariant-loop-rule : goal.invariant-loop-rule
invariant-loop-rule l = l.page.text.items ++ rules_text l.keys l.list (drop l.rule-index l.rules) ≡ l.initial.page.text.items ++ rules_text l.keys l.list l.rules
