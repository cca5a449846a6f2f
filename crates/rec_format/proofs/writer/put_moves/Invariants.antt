use Rattle.std.proofs.Common.{◌≡◌, ◌++◌, drop}
use Rattle.std.specs.List.{flat_map}
use Rattle.rec_format.specs.Written.{turn_text}
use Rattle.rec_format.proofs.writer.put_moves.Given as goal

abbrev pub invariant-loop-turn : goal.invariant-loop-turn
invariant-loop-turn l = l.text.items ++ flat_map turn_text (drop l.turn-index l.turns) ≡ l.initial.text.items ++ flat_map turn_text l.turns
