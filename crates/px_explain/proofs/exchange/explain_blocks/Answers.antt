use Rattle.std.proofs.Common.{List, ℕ, ◌++◌, ap, ◌∙◌}
use Rattle.std.specs.Prelude.{Option}
use Rattle.px_explain.specs.Text.{answer_line}
use Rattle.px_explain.proofs.Shown.{text_of_all}
use Rattle.px_explain.proofs.exchange.explain_blocks.Goals as goal

pub returns : goal.returns
returns c =
    let told = c.in_ok-told.ensures in (
      told.traced,
      told.is_traced,
      record {
        front = told.lines.piece;
        shown = told.lines.shown;
        is =
            c.in_ok-push_answer.ensures ∙ (ap (λ (t : List ℕ). t ++ answer_line c.in_ok-told.told.answer) (text_of_all _ _ told.traced.lines c.in_ok-new.ensures told.lines)
            ∙ ap (λ (a : Option ℕ). told.lines.piece ++ answer_line a) told.status);
      },
    )
