use Rattle.std.proofs.Common.{◌≡◌, ℕ, List, map, ap, ◌∙◌}
use Rattle.std.specs.Prelude.{Option}
use Rattle.std.proofs.lemmas.Result.{IfOk-weaker}
use Rattle.px_explain.specs.declared.trace.TraceLine.{TraceLine}
use Rattle.px_explain.specs.Entry.{line_in}
use Rattle.px_explain.specs.Text.{lines_text, text_of}
use Rattle.proxy_commands.proofs.Replayed.{explained}
use Rattle.proxy_commands.proofs.explaining.explanation.Goals as goal

pub returns : goal.returns
returns c =
    let trace = c.in_ok-trace.trace in
    let told = c.in_ok-trace.ensures in
    IfOk-weaker c.trace_text.result _ _
    (λ text is.
    explained c.args.config.now c.args.recorded.now c.index.result.now told.0 (λ traced. text ≡ text_of traced) c.requires.some c.index.ensures told.1 c.sessions_answer_so.ensures
    (is ∙ (ap (λ (lines : List TraceLine). lines_text lines trace.answer) told.2 ∙ ap (λ (answer : Option ℕ). lines_text (map line_in told.0.lines) answer) told.3)))
    c.trace_text.ensures
