use Rattle.lane.proofs.EditLemmas.{edited_answers, edited_answer_sound}
use Rattle.lane.proofs.laws.edited_answer.Goals as goal

pub returns-clause-size : goal.returns-clause-size
returns-clause-size c = λ lane sound. sound.sound.sized.msg

pub returns-clause-sound : goal.returns-clause-sound
returns-clause-sound c = edited_answer_sound

pub returns-clause-answers : goal.returns-clause-answers
returns-clause-answers c = edited_answers
