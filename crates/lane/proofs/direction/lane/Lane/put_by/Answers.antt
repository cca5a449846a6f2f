use Rattle.std.proofs.Common.{◌≡◌, ◌≤◌, List, [], ◌++◌, sym, ap, ◌∙◌, arith, subst}
use Rattle.std.proofs.lemmas.List.{append-nil}
use Rattle.htx_model.specs.Block.{Block}
use Rattle.htx_model.specs.Blocks.{flow, load, Fits}
use Rattle.lane.proofs.DirectionLemmas.RoomLemmas.{payload-le}
use Rattle.lane.specs.Direction.State.{LaneState}
use Rattle.lane.specs.contracts.direction.lane.Lane.{the_view}
use Rattle.lane.proofs.direction.lane.Lane.put_by.Goals as goal

pub returns-clause-list : goal.returns-clause-list
returns-clause-list c =
    let l = the_view c.self.inside in
    let was_size = subst (λ (s : LaneState). s.msg.size ≡ s.limits.bufsize) (sym c.self.view_is) c.requires.size in
    let was_fits = subst (λ (s : LaneState). Fits c.args.list.now.blocks s.limits.bufsize) (sym c.self.view_is) c.requires.fits in
    let none : load c.clear.new.self.blocks ≡ 0 = ap load c.clear.ensures.blocks in
    let size : c.clear.new.self.size ≡ l.limits.bufsize = c.clear.ensures.size ∙ was_size in
    let fits : load c.args.list.now.blocks ≤ l.limits.bufsize = was_fits in
    let light = payload-le c.args.list.now.blocks in
    c.xfer.ensures.all (omega arith) (omega arith)

pub returns-clause-flow : goal.returns-clause-flow
returns-clause-flow c =
    let l = the_view c.self.inside in
    let was_size = subst (λ (s : LaneState). s.msg.size ≡ s.limits.bufsize) (sym c.self.view_is) c.requires.size in
    let was_fits = subst (λ (s : LaneState). Fits c.args.list.now.blocks s.limits.bufsize) (sym c.self.view_is) c.requires.fits in
    let none : load c.clear.new.self.blocks ≡ 0 = ap load c.clear.ensures.blocks in
    let size : c.clear.new.self.size ≡ l.limits.bufsize = c.clear.ensures.size ∙ was_size in
    let fits : load c.args.list.now.blocks ≤ l.limits.bufsize = was_fits in
    let light = payload-le c.args.list.now.blocks in
    let all : c.xfer.new.from.blocks ≡ [] = c.xfer.ensures.all (omega arith) (omega arith) in
    ap flow (sym (append-nil c.xfer.new.to.blocks)) ∙ ap (λ (bs : List Block). flow (c.xfer.new.to.blocks ++ bs)) (sym all) ∙ c.xfer.ensures.flow
    ∙ ap (λ (bs : List Block). flow (bs ++ c.args.list.now.blocks)) c.clear.ensures.blocks
