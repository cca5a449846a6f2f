use Rattle.std.proofs.Common.{sym, ap, ◌∙◌}
use Rattle.htx_arena.specs.Layout.Contents.{Contents}
use Rattle.forward_core.proofs.AnswerLemmas.JudgeLemmas.{edits_by}
use Rattle.forward_core.proofs.answer.side.AnswerSide.run_rules.Goals as goal

pub on_response-requires-clause-size : goal.on_response-requires-clause-size
on_response-requires-clause-size c = ap (λ (m : Contents). m.size) c.head.ensures.value ∙ c.edited_answer.ensures.size c.args.self.now.lane c.requires.between.lane ∙ sym c.requires.size

pub on_response-requires-clause-head : goal.on_response-requires-clause-head
on_response-requires-clause-head c = (c.requires.has.head, ap (λ (m : Contents). m.blocks) c.head.ensures.value ∙ c.requires.has.blocks)

pub returns-clause-edits : goal.returns-clause-edits
returns-clause-edits c =
    edits_by (record { answers = c.edited_answer.ensures.answers; sound = c.edited_answer.ensures.sound }) c.args.self.now c.on_response.new.msg c.requires.between c.requires.has.stage (c.on_response.ensures.size ∙ ap (λ (m : Contents). m.size) c.head.ensures.value)
