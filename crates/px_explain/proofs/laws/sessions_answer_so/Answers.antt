use Rattle.px_explain.proofs.Sessions.{answers_so}
use Rattle.px_explain.proofs.laws.sessions_answer_so.Goals as goal

pub returns : goal.returns
returns c = λ cfg visit traced out t s. answers_so cfg visit traced out c.one_reading.ensures t s
