use Rattle.std.proofs.Common.{◌≡◌, ◌∙◌, ◌+◌, ◌-◌, ◌*◌, subst, sym, ap, ℕ, List}
use Rattle.htx_arena.specs.Space.Windows.{window, overwritten}
use Rattle.htx_arena.specs.Layout.Sound.{IsLaid}
use Rattle.htx_arena.specs.Layout.Steps.{unlisted}
use Rattle.htx_arena.proofs.LayoutLemmas.EachLemmas.{IsLaid-unlisted}
use Rattle.htx_arena.proofs.layout.edits.close.Goals as goal

pub returns-clause-laid : goal.returns-clause-laid
returns-clause-laid c =
    let raw = c.args.space.now in
    let n = c.args.count in
    let i = c.args.at in
    let k = c.args.n in
    let now : c.slide.new.self ≡ unlisted raw n i k = c.slide.ensures ∙ ap (λ (s : ℕ). overwritten raw (s - 8 * n + 8 * k) (window raw (s - 8 * n) (8 * (n - i - k)))) c.size.ensures.value in
    λ front laid. subst (λ (x : List ℕ). IsLaid x (n - k) front) (sym now) (IsLaid-unlisted raw n i k front laid c.requires.within)
