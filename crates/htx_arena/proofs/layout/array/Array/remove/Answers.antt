use Rattle.std.proofs.Common.{◌∙◌}
use Rattle.htx_arena.specs.Layout.Place.{settled}
use Rattle.htx_arena.proofs.layout.array.Array.remove.Goals as goal

pub returns : goal.returns
returns c =
    let u = c.unlist.ensures in
    let s = c.settle.ensures in
    record { blocks = s.blocks ∙ u.blocks; size = s.size ∙ u.size; addrs = s.addrs ∙ u.addrs; front = s.front ∙ (λ j. settled (u.front j) (u.addrs j)) }
