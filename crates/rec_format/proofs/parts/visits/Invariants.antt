use Rattle.std.proofs.Common.{◌≡◌, ◌-◌}
use Rattle.rec_format.specs.Read.{visits}
use Rattle.rec_format.specs.Recorded.{visits_of}
use Rattle.rec_format.specs.Parts.{behind_visits}
use Rattle.rec_format.proofs.parts.visits.Given as goal

abbrev pub invariant-loop-left : goal.invariant-loop-left
invariant-loop-left l = visits_of l.fn.total l.fn.numbered l.fn.more 65536 l.fn.text ≡ behind_visits (visits l.conns.items) (visits_of l.fn.total l.fn.numbered (l.fn.more - l._left) l.room l.rest)
