use Rattle.std.proofs.Common.{◌≡◌, ◌≤◌, ◌∙◌, arith}
use Rattle.http_model.specs.Blocks.{load}
use Rattle.http_rules.proofs.ActionLemmas.Came.{taken}
use Rattle.http_rules.proofs.action.removal.remove_meant.Goals as goal

pub returns-clause-came : goal.returns-clause-came
returns-clause-came c =
    λ side env vars at.
    let fits : load c.remove_where.new.msg.blocks ≤ c.args.msg.now.size = omega (arith, c.room-room.ensures, c.remove_where.ensures.size) in
    taken side env vars c.args.which.now c.args.msg.now.size c.args.msg.now.blocks c.remove_where.new.msg.blocks at c.remove_where.ensures.blocks fits
