use Rattle.std.proofs.Common.{◌≡◌, ◌-◌, ◌++◌}
use Rattle.htx_drive.specs.Drill.Plan.{lengths_of}
use Rattle.htx_drive.proofs.drill.draws.lengths.Given as goal

abbrev pub invariant-loop-at : goal.invariant-loop-at
invariant-loop-at l =
    (l.drawn.items ++ (lengths_of (l.count - l._at) l.state).0, (lengths_of (l.count - l._at) l.state).1) ≡ lengths_of l.count l.initial.state
