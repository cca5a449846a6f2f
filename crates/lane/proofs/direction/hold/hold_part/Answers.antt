use Rattle.std.proofs.Common.{ℕ, List, drop, sym, ◌∙◌, subst}
use Rattle.std.specs.Prelude.{Some}
use Rattle.h1_body.specs.Stands.{bytes_of}
use Rattle.lane.specs.Direction.Holding.{Holds}
use Rattle.lane.proofs.DirectionLemmas.HoldLemmas.{held}
use Rattle.lane.proofs.direction.hold.hold_part.Goals as goal

pub returns-clause-holds : goal.returns-clause-holds
returns-clause-holds c =
    let w = c.args.text.now in
    let step = c.feed_grown-step.result in
    let e = c.feed_grown-step.ensures in
    let old = c.args.reader.now in
    let new = c.feed_grown-step.new.self in
    let h = held old new w c.args.room step.used step.piece (bytes_of w step.trailers) step.state
    (record { within = e.used; span = (e.small, e.piece_within); leads = e.leads; told = e.state; waits = e.waits }) c.requires.room in
    subst (λ (p : List ℕ). Holds old new w (drop step.used w) p c.hold.new.self.section.items step.used step.state) (sym (c.hold.ensures.held ∙ c.covered-piece.ensures))
    (subst (λ (s : List ℕ). Holds old new w (drop step.used w) (bytes_of w (Some step.piece)) s step.used step.state) (sym (c.hold.ensures.section ∙ c.covered-section.ensures)) h)
