use Rattle.std.proofs.Common.{◌≡◌, List, [], ◌++◌, sym, ap, ◌∙◌, arith, subst}
use Rattle.std.proofs.lemmas.List.{append-nil}
use Rattle.htx_model.specs.Block.{Block}
use Rattle.htx_model.specs.Blocks.{flow, load}
use Rattle.lane.proofs.DirectionLemmas.CarryLemmas.{head_front}
use Rattle.lane.proofs.DirectionLemmas.RoomLemmas.{payload-le}
use Rattle.lane.specs.Direction.State.{LaneState}
use Rattle.lane.specs.contracts.direction.lane.Lane.{the_view}
use Rattle.lane.specs.Direction.Sends.{IsReady}
use Rattle.lane.proofs.direction.lane.Lane.show.Goals as goal

pub returns-clause-msg : goal.returns-clause-msg
returns-clause-msg c =
    let l = the_view c.self.inside in
    let was_ready = subst (λ (s : LaneState). IsReady s) (sym c.self.view_is) c.requires.ready in
    let none : load l.out.blocks ≡ 0 = ap load was_ready.out in
    let sized = was_ready.sound.sized in
    let light = payload-le l.msg.blocks in
    c.xfer.ensures.all (omega arith) (omega arith)

pub returns-clause-shows : goal.returns-clause-shows
returns-clause-shows c =
    let l = the_view c.self.inside in
    let was_ready = subst (λ (s : LaneState). IsReady s) (sym c.self.view_is) c.requires.ready in
    rw (← c.self.view_is) (λ head is.
    let none : load l.out.blocks ≡ 0 = ap load was_ready.out in
    let sized = was_ready.sound.sized in
    let light = payload-le l.msg.blocks in
    let all : c.xfer.new.from.blocks ≡ [] = c.xfer.ensures.all (omega arith) (omega arith) in
    record {
      taken = [];
      has = c.new-self-inside.ensures.written c.xfer.new.to.blocks;
      flows = ap flow (sym (append-nil c.xfer.new.to.blocks)) ∙ ap (λ (bs : List Block). flow (c.xfer.new.to.blocks ++ bs)) (sym all) ∙ c.xfer.ensures.flow
          ∙ ap (λ (bs : List Block). flow (bs ++ l.msg.blocks)) was_ready.out ∙ head_front l.msg.blocks head is ∙ append-nil _;
    })
