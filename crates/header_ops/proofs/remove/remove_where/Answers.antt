use Rattle.std.proofs.Common.{filter, List, ap, ◌∙◌}
use Rattle.http_model.specs.Block.{Block}
use Rattle.header_ops.specs.Headers.{is_framing_header}
use Rattle.header_ops.proofs.Frames.{framing_kept}
use Rattle.header_ops.proofs.remove.remove_where.Goals as goal

pub returns-clause-framing : goal.returns-clause-framing
returns-clause-framing c =
    ap (λ (bs : List Block). filter is_framing_header bs) c.remove_taken.ensures.blocks ∙ framing_kept c.args.which.now c.args.msg.now.blocks
