use Rattle.std.proofs.Common.{◌≡◌, Bool, true, false, sym, ◌∙◌}
use Rattle.px_explain.specs.Wanted.{is_one_edit, lacks_room}
use Rattle.px_explain.proofs.Weighed.{wanted_so, wanted_not, wanted_none}
use Rattle.px_explain.proofs.weighing.wanted.Goals as goal

pub returns-then-not-lacks_room-clause-wanted : goal.returns-then-not-lacks_room-clause-wanted
returns-then-not-lacks_room-clause-wanted c = λ env at shows.
    let lacks : lacks_room c.args.step ≡ false = sym c.lacks_room.ensures ∙ c.if-not-lacks_room.true in
    wanted_none c.args.step c.args.msg.now.size c.args.action.now env lacks

pub returns-then-not-is_one_edit-clause-wanted : goal.returns-then-not-is_one_edit-clause-wanted
returns-then-not-is_one_edit-clause-wanted c = λ env at shows.
    let msg = c.args.msg.now in
    let lacks : lacks_room c.args.step ≡ true = sym c.lacks_room.ensures ∙ c.if-not-lacks_room.false in
    let one : is_one_edit c.args.action.now msg.blocks ≡ false = sym c.is_one_edit.ensures ∙ c.if-not-is_one_edit.true in
    wanted_not c.args.step msg.size c.args.action.now env msg.blocks lacks one at.blocks_are

pub returns-clause-wanted : goal.returns-clause-wanted
returns-clause-wanted c = λ env at shows.
    let msg = c.args.msg.now in
    let lacks : lacks_room c.args.step ≡ true = sym c.lacks_room.ensures ∙ c.if-not-lacks_room.false in
    let one : is_one_edit c.args.action.now msg.blocks ≡ true = sym c.is_one_edit.ensures ∙ c.if-not-is_one_edit.false in
    c.past.ensures ∙ wanted_so c.args.step msg.size c.args.action.now env msg.blocks c.in_ok-load.load lacks one at.blocks_are (c.in_ok-load.ensures.load env at)
