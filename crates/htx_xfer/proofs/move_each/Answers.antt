use Rattle.std.proofs.Common.{List, ◌++◌, ap, ◌∙◌}
use Rattle.htx_model.specs.Block.{Block}
use Rattle.htx_model.specs.Blocks.{flow}
use Rattle.htx_model.specs.Flow.{added}
use Rattle.htx_xfer.specs.Moved.{front_of}
use Rattle.htx_xfer.proofs.Moving.{moved_flows}
use Rattle.htx_xfer.proofs.Staying.{all_goes}
use Rattle.htx_xfer.proofs.move_each.Goals as goal

pub returns-clause-flow : goal.returns-clause-flow
returns-clause-flow c =
    let m = c.copy-copied.ensures.copies in
    let r = c.copy-copied.result in
    ap (λ (l : List Block). flow (l ++ c.leave.new.from.blocks)) m.to_is ∙ ap (λ (l : List Block). flow (added c.args.to.now.blocks (front_of c.args.from.now.blocks r.count r.part) ++ l)) c.leave.ensures.left ∙ moved_flows c.args.to.now.blocks c.args.from.now.blocks r.count r.part m.filled

pub returns-clause-all : goal.returns-clause-all
returns-clause-all c = λ fits short.
    c.leave.ensures.left ∙ all_goes c.args.from.now.blocks c.args.to.now.size c.args.limit c.args.to.now.blocks c.copy-copied.new.to.blocks c.copy-copied.result c.copy-copied.ensures.copies fits short
