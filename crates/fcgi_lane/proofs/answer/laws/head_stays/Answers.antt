use Rattle.fcgi_lane.proofs.AnswerLemmas.Heads.{head_more}
use Rattle.fcgi_lane.proofs.answer.laws.head_stays.Goals as goal

pub returns : goal.returns
returns c = head_more
