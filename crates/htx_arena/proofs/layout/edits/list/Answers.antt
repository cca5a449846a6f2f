use Rattle.std.proofs.Common.{◌≡◌, ◌∙◌, ap, List, ℕ}
use Rattle.htx_arena.specs.Space.Windows.{overwritten, desc_place, desc_bytes}
use Rattle.htx_arena.specs.Layout.Steps.{listed_at}
use Rattle.htx_arena.proofs.LayoutLemmas.RawLemmas.{shift_up}
use Rattle.htx_arena.proofs.LayoutLemmas.GrowLemmas.{listed_placed}
use Rattle.htx_arena.proofs.layout.edits.list.Goals as goal

pub returns : goal.returns
returns c =
    let raw = c.args.space.now in
    let n = c.args.count in
    let i = c.args.at in
    let d = c.args.desc in
    let now : c.set_descriptor.new.self ≡ listed_at raw n i d =
    c.set_descriptor.ensures ∙ ap (λ (s : List ℕ). overwritten s (desc_place s i) (desc_bytes d)) (c.shift.ensures ∙ shift_up raw n i c.requires.within) in
    now ∙ listed_placed raw n i d c.requires
