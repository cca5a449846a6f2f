use Rattle.fcgi_lane.proofs.AnswerLemmas.Sizes.{cgi_short}
use Rattle.fcgi_lane.proofs.answer.laws.stream_is_short.Goals as goal

pub returns : goal.returns
returns c = cgi_short
