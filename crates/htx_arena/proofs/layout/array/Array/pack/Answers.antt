use Rattle.std.proofs.Common.{◌∙◌, ap, arith}
use Rattle.htx_model.specs.Blocks.{load}
use Rattle.htx_arena.proofs.LayoutLemmas.MoveLemmas.{shifted_blocks}
use Rattle.htx_arena.proofs.LayoutLemmas.FrontLemmas.{laid_shifted}
use Rattle.htx_arena.specs.Layout.Contents.{Contents}
use Rattle.htx_arena.proofs.LayoutLemmas.KnownLemmas.{unknown}
use Rattle.htx_arena.proofs.layout.array.Array.pack.Goals as goal

pub invariant_of-self : goal.invariant_of-self
invariant_of-self c =
    let a = c.self.inside in
    let is = c.defrag-top.ensures.shifted in
    let size = is.size in
    let now = ap load (shifted_blocks a.space c.defrag-top.new.space a.count is) in
    let loaded = c.self.invariant.loaded in
    let fits = c.self.invariant.fits in
    record { laid = laid_shifted a.space c.defrag-top.new.space a.count a.ends.front c.self.invariant.laid is c.defrag-top.ensures.sound; loaded = omega arith; topped = c.defrag-top.ensures.topped; known = unknown _ _ _; fits = omega arith }

pub returns-clause-blocks : goal.returns-clause-blocks
returns-clause-blocks c = shifted_blocks c.self.inside.space c.defrag-top.new.space c.self.inside.count c.defrag-top.ensures.shifted ∙ ap (λ (s : Contents). s.blocks) c.self.view_is
