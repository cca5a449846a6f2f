use Rattle.std.proofs.lemmas.Result.{IfOk-weaker}
use Rattle.px_explain.specs.Text.{IsBlockText}
use Rattle.proxy_commands.proofs.Replayed.{explained}
use Rattle.proxy_commands.proofs.explaining.block_explanation.Goals as goal

pub returns : goal.returns
returns c =
    IfOk-weaker c.explain_blocks.result _ _
    (λ text told.
    explained c.args.config.now c.args.recorded.now c.index.result.now told.0 (λ traced. IsBlockText traced text) c.requires.some c.index.ensures told.1 c.sessions_answer_so.ensures told.2)
    c.explain_blocks.ensures
