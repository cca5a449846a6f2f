use Rattle.h1_head.specs.declared.answer.Side.TheVariants.{Response}
use Rattle.forward_core.proofs.AnswerLemmas.HeardLaws.{head_begins, heard_once}
use Rattle.forward_core.proofs.answer.laws.head_heard.Goals as goal

pub returns-clause-came : goal.returns-clause-came
returns-clause-came c = λ cfg side asking server put now saying s told. head_begins cfg side asking server put now saying s told

pub returns-clause-read : goal.returns-clause-read
returns-clause-read c = λ cfg side asking server put now saying sound s serves rest head.
    heard_once (λ asked. c.one_reading.ensures (Response asked)) cfg side asking server put now saying sound s serves rest head
