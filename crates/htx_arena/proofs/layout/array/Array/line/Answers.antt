use Rattle.std.proofs.Common.{◌≡◌, ◌+◌, ◌≤◌, ◌∙◌, ap, sym, subst, arith, List, ℕ, length}
use Rattle.htx_model.specs.Block.{line_of, IsLineKind}
use Rattle.htx_arena.specs.Space.Windows.{desc_at, word_at, window}
use Rattle.htx_arena.specs.Layout.Raw.{payload_in}
use Rattle.htx_arena.proofs.LayoutLemmas.TellLemmas.{line_told, line_fits, length-payload_in}
use Rattle.htx_arena.proofs.LayoutLemmas.WholeLemmas.{at, kind_at}
use Rattle.htx_arena.proofs.layout.array.Array.line.Goals as goal

abbrev cut : List ℕ → List ℕ × List ℕ × List ℕ
cut p = (window p 12 (word_at p 0), window p (12 + word_at p 0) (word_at p 4), window p (12 + word_at p 0 + word_at p 4) (word_at p 8))

pub line-requires : goal.line-requires
line-requires c =
    let a = c.self.inside in
    let i = c.args.at in
    let small = (at a c.args.self.now i c.self.invariant c.self.view_is c.requires.within).small in
    let kind = subst IsLineKind (kind_at a c.args.self.now i c.self.invariant c.self.view_is c.requires.within) c.requires.line in
    let laid = c.self.invariant.laid in
    let long = length-payload_in a.space a.count i laid.sound small in
    let ends = laid.sound.within i small in
    let most = laid.most in
    subst (λ (p : List ℕ). 12 + word_at p 0 + word_at p 4 + word_at p 8 ≤ length p) (sym c.payload.ensures) (line_fits (desc_at a.space i).info (payload_in a.space i) (laid.told.told i small) kind (sym long) (omega arith))

pub returns : goal.returns
returns c =
    let a = c.self.inside in
    let i = c.args.at in
    let kind = subst IsLineKind (kind_at a c.args.self.now i c.self.invariant c.self.view_is c.requires.within) c.requires.line in
    let parts : (c.line.result.0.now, c.line.result.1.now, c.line.result.2.now) ≡ cut c.payload.result.now = λ j. (c.line.ensures.first j, c.line.ensures.second j, c.line.ensures.third j) in
    parts ∙ ap cut c.payload.ensures ∙ sym (line_told (desc_at a.space i).info (payload_in a.space i) kind) ∙ sym (ap line_of (at a c.args.self.now i c.self.invariant c.self.view_is c.requires.within).block)
