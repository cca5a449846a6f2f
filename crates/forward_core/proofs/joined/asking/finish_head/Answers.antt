use Rattle.std.proofs.Common.{ap, ◌∙◌}
use Rattle.htx_arena.specs.Layout.Contents.{Contents}
use Rattle.forward_core.proofs.JoinedLemmas.Finished.{finishes, finishes_not, has_end}
use Rattle.forward_core.proofs.joined.asking.finish_head.Goals as goal

pub finish_request-requires : goal.finish_request-requires
finish_request-requires c =
    has_end c.head.result.now.blocks c.edits_of_heads.ensures.end (c.requires.head.0, ap (λ (x : Contents). x.blocks) c.head.ensures.value ∙ c.requires.head.1)

pub returns-in-Ok : goal.returns-in-Ok
returns-in-Ok c =
    let e = c.in-Ok.ensures in
    finishes (record { size = c.edited.ensures.size; edits = c.edited.ensures.edits }) c.args.request.now c.head.result.now c.finish_request.new.msg c.args.framing c.requires.idle c.requires.has
    (ap (λ (x : Contents). x.blocks) c.head.ensures.value) (ap (λ (x : Contents). x.size) c.head.ensures.value) e.size e.ok e.fits

pub returns-in-Err : goal.returns-in-Err
returns-in-Err c =
    let e = c.in-Err.ensures in
    finishes_not (record { size = c.edited.ensures.size; edits = c.edited.ensures.edits }) c.args.request.now c.head.result.now c.finish_request.new.msg c.args.framing c.requires.idle c.requires.has
    c.head.ensures.value e.full e.fits
