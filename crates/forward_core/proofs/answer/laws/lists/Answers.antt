use Rattle.forward_core.proofs.AnswerLemmas.Listed.{listed_blocks, listed_spells, closing_listed, refusal_listed, reply_listed}
use Rattle.http_model.specs.Refusal.{refusal}
use Rattle.forward_core.proofs.answer.laws.lists.Goals as goal

pub returns-clause-blocks : goal.returns-clause-blocks
returns-clause-blocks c = listed_blocks

pub returns-clause-spelled : goal.returns-clause-spelled
returns-clause-spelled c = listed_spells

pub returns-clause-refusal : goal.returns-clause-refusal
returns-clause-refusal c = refusal_listed

pub returns-clause-closing : goal.returns-clause-closing
returns-clause-closing c = λ code. closing_listed (refusal code) (refusal_listed code)

pub returns-clause-sent : goal.returns-clause-sent
returns-clause-sent c = λ cfg. reply_listed cfg
