use Rattle.std.proofs.Common.{◌≤◌, arith}
use Rattle.http_model.specs.Blocks.{load}
use Rattle.http_rules.specs.Action.Steps.{by_pattern}
use Rattle.http_rules.proofs.ActionLemmas.Going.{taken_out}
use Rattle.http_rules.proofs.action.removal_by.remove_matching.Goals as goal

pub returns-clause-came : goal.returns-clause-came
returns-clause-came c =
    λ side env vars at.
    let fits : load c.remove_going.new.msg.blocks ≤ c.args.msg.now.size = omega (arith, c.room-room.ensures, c.remove_going.ensures.size) in
    taken_out side env vars (by_pattern c.args.pat.now) c.args.msg.now.size c.args.msg.now.blocks c.remove_going.new.msg.blocks at c.in_ok-remove_going.ensures.blocks fits
