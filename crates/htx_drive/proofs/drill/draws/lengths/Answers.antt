use Rattle.std.proofs.Common.{◌+◌, ◌-◌, ◌<◌, ◌++◌, List, ℕ, ap, ◌∙◌, arith}
use Rattle.htx_drive.specs.Drill.Plan.{lengths_of}
use Rattle.htx_drive.proofs.DrillLemmas.Plans.{lengths_more}
use Rattle.htx_drive.proofs.drill.draws.lengths.Goals as goal

pub loop-at-preserved : goal.loop-at-preserved
loop-at-preserved c =
    let l = c.loop-at in
    let n : ℕ = c.args.count in
    let less : l._at < n = omega arith in
    let to : ℕ = c.draw-length.new.state in
    ap (λ (xs : List ℕ). (xs ++ (lengths_of (n - (l._at + 1)) to).0, (lengths_of (n - (l._at + 1)) to).1)) c.in_ok-push.ensures.items
    ∙ lengths_more l.drawn.items n l._at l.state to c.draw-length.result (lengths_of n c.args.state.now) less c.draw-length.ensures.state c.draw-length.ensures.drawn l.invariant
