use Rattle.std.proofs.Common.{ap, ◌∙◌}
use Rattle.htx_arena.specs.Layout.Contents.{Contents}
use Rattle.forward_core.specs.Request.Edits.{with_head}
use Rattle.forward_core.proofs.joined.asking.keep_head.Goals as goal

pub returns-clause-kept : goal.returns-clause-kept
returns-clause-kept c = λ received holds line.
    c.kept_of.ensures.kept received
    (record { line = line; blocks = ap (λ (x : Contents). x.blocks) c.head.ensures.value ∙ holds.blocks; framing = c.framing-framing.ensures ∙ holds.framing; close = c.close-close.ensures ∙ holds.close })

pub returns-clause-same : goal.returns-clause-same
returns-clause-same c = ap (λ (x : Contents). with_head c.args.request.now x) c.head.ensures.value
