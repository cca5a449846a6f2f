use Rattle.std.proofs.Common.{◌∙◌, ap}
use Rattle.htx_arena.specs.Layout.Contents.{Contents}
use Rattle.htx_arena.specs.Layout.Place.{settled}
use Rattle.htx_arena.proofs.LayoutLemmas.FrontLemmas.{laid_settled, settled_top}
use Rattle.htx_arena.proofs.LayoutLemmas.KnownLemmas.{known_settled}
use Rattle.htx_arena.proofs.layout.array.Array.settle.Goals as goal

pub invariant_of-self : goal.invariant_of-self
invariant_of-self c =
    let a = c.self.inside in
    let was = c.self.invariant in
    let f = c.settle-self-inside.result in
    let is = c.settle-self-inside.ensures ∙ settled_top a.space a.count a.ends.front a.ends.top was.laid was.topped in
    record { laid = laid_settled a.space a.count a.ends.front f was.laid is; loaded = was.loaded; topped = was.topped; known = known_settled a.space a.count a.ends.front f a.ends.low is was.known; fits = was.fits }

pub returns-clause-front : goal.returns-clause-front
returns-clause-front c =
    let a = c.self.inside in
    c.settle-self-inside.ensures ∙ settled_top a.space a.count a.ends.front a.ends.top c.self.invariant.laid c.self.invariant.topped ∙ ap (λ (s : Contents). settled s.front s.addrs) c.self.view_is
