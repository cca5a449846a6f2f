use Rattle.std.proofs.Common.{◌≡◌, drop}
use Rattle.forward_core.specs.Rules.Steady.{some_turn}
use Rattle.forward_core.proofs.rules.steady.some_turn.Given as goal

-- none so far does
abbrev pub invariant-loop-rule : goal.invariant-loop-rule
invariant-loop-rule l = some_turn (drop l.rule-index l.rules) ≡ some_turn l.rules
