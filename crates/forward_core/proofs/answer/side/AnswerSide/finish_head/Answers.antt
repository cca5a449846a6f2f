use Rattle.std.proofs.Common.{ap, ◌∙◌}
use Rattle.htx_arena.specs.Layout.Contents.{Contents}
use Rattle.forward_core.proofs.AnswerLemmas.JudgeLemmas.{edits_by}
use Rattle.forward_core.proofs.answer.side.AnswerSide.finish_head.Goals as goal

pub returns-clause-edits : goal.returns-clause-edits
returns-clause-edits c =
    edits_by (record { answers = c.edited_answer.ensures.answers; sound = c.edited_answer.ensures.sound }) c.args.self.now c.finish_response.new.msg c.requires.between c.requires.has.stage (c.finish_response.ensures.size ∙ ap (λ (m : Contents). m.size) c.head.ensures.value)
