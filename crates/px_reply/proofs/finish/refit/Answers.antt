use Rattle.std.proofs.Common.{◌+◌, ◌<◌, arith, rules}
use Rattle.std.proofs.lemmas.Bool.{false≢true}
use Rattle.http_model.specs.Finish.{close_fields}
use Rattle.header_ops.specs.Headers.{without_framing}
use Rattle.htx_model.specs.Blocks.{load}
use Rattle.px_reply.specs.Finished.{told_fields, fields_load}
use Rattle.px_reply.proofs.Weights.{too_much}
use Rattle.px_reply.proofs.finish.refit.Goals as goal

pub returns-then-not-has_room-clause-fits : goal.returns-then-not-has_room-clause-fits
returns-then-not-has_room-clause-fits c =
    let over : c.args.msg.now.size < fields_load (told_fields c.args.told.now) + fields_load (close_fields c.args.close) + load (without_framing c.args.msg.now.blocks) =
    omega (arith, c.weight_of.ensures.load, c.weight_of_close.ensures, c.has_room.ensures.full (search rules)) in (
      λ h. absurd (false≢true h),
      λ fits. absurd (too_much (told_fields c.args.told.now) c.args.close c.args.msg.now.blocks c.args.msg.now.size c.requires over fits),
    )
