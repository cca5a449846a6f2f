-- What the answer direction is once the text that it lends is given back.
use Rattle.std.specs.Prelude.{ℕ, List}
use Rattle.std.specs.Borrow.{Lends, MutBor, Fml, Array, u8}
use Rattle.lane.specs.Lending.{with_answer_text}
use Rattle.forward_core.specs.declared.answer.side.AnswerSide.{AnswerSide}
use Rattle.forward_core.specs.contracts.answer.side.AnswerSide.{the_row}

-- the side with these bytes as the text that was not taken, as many as stood there
abbrev pub with_text : AnswerSide → List ℕ → AnswerSide
with_text side text = record side { lane = with_answer_text side.lane text }

-- the side has the text that the borrow leaves, as long as it was
abbrev pub LendsText : MutBor AnswerSide → MutBor (List ℕ) → Fml
LendsText side r = Lends the_row (Array u8 0) side r (with_text side.now)
