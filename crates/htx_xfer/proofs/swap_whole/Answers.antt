use Rattle.std.proofs.Common.{◌≡◌, ◌≤◌, List, refl, ap, sym, subst, arith}
use Rattle.htx_model.specs.Block.{Block}
use Rattle.htx_xfer.specs.Moved.{Moves}
use Rattle.htx_xfer.proofs.Whole.{all_move}
use Rattle.htx_xfer.proofs.swap_whole.Goals as goal

pub returns-clause-moves : goal.returns-clause-moves
returns-clause-moves c =
    let from = c.args.from.now.blocks in
    let to = c.args.to.now.blocks in
    let size = c.args.to.now.size in
    let limit = c.args.limit in
    let moved = c.payload_bytes-bytes.result in
    let whole = c.if-not-goes_whole.ensures in
    let left : c.swap.new.x.blocks ≡ to = ap (λ a. a.blocks) c.swap.ensures.x_after in
    let got : c.swap.new.y.blocks ≡ from = ap (λ a. a.blocks) c.swap.ensures.y_after in
    let short : moved ≤ limit = omega (arith, c.if-bytes-limit.false) in
    let all = all_move from size limit to moved (whole.empty refl) (whole.apart refl) c.payload_bytes-bytes.ensures short in
    subst (λ (bs : List Block). Moves from size limit to bs c.swap.new.y.blocks moved) (sym left)
    (subst (λ (bs : List Block). Moves from size limit to to bs moved) (sym got) all)
