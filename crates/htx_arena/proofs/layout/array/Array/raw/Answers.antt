use Rattle.std.proofs.Common.{subst, sym, ap, ◌∙◌, List, ℕ}
use Rattle.htx_arena.specs.Layout.Held.{held, blocks_of as told_blocks}
use Rattle.htx_arena.specs.Layout.Raw.{blocks_of, addrs_of}
use Rattle.htx_arena.proofs.LayoutLemmas.HeldLemmas.{laid_held, laid_told}
use Rattle.htx_arena.specs.Layout.Contents.{Contents}
use Rattle.htx_arena.proofs.LayoutLemmas.WholeLemmas.{numbers}
use Rattle.htx_arena.proofs.layout.array.Array.raw.Goals as goal

pub returns-clause-held : goal.returns-clause-held
returns-clause-held c =
    let a = c.self.inside in
    subst (λ (s : Contents). held c.bytes.result.now s.blocks s.addrs) c.self.view_is
    (subst (λ (raw : List ℕ). held raw (blocks_of a.space a.count) (addrs_of a.space a.count)) (sym c.bytes.ensures) (laid_held a.space a.count a.ends.front c.self.invariant.laid))

pub returns-clause-gives_back : goal.returns-clause-gives_back
returns-clause-gives_back c =
    let a = c.self.inside in
    let n = numbers a c.args.self.now c.self.invariant c.self.view_is in
    (λ j. told_blocks (c.bytes.ensures j) (n.count j)) ∙ laid_told a.space a.count a.ends.front c.self.invariant.laid ∙ ap (λ (s : Contents). s.blocks) c.self.view_is
