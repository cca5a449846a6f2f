use Rattle.std.proofs.Common.{◌≡◌, ◌-◌}
use Rattle.rec_format.specs.Recorded.{turns_of}
use Rattle.rec_format.specs.Parts.{behind_turns}
use Rattle.rec_format.proofs.parts.turns.Given as goal

abbrev pub invariant-loop-left : goal.invariant-loop-left
invariant-loop-left l = turns_of l.fn.total l.fn.numbered l.fn.connections l.fn.count l.fn.text ≡ behind_turns l.turns.items (turns_of l.fn.total l.fn.numbered l.fn.connections (l.fn.count - l._left) l.rest)
