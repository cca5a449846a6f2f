use Rattle.fcgi_lane.specs.Answer.Cgi.{Behind}
use Rattle.fcgi_lane.proofs.AnswerLemmas.Translating.{left_grown, left_stopped, left_cut, left_unheaded}
use Rattle.fcgi_lane.proofs.answer.laws.what_is_left.Goals as goal

pub returns-clause-passes : goal.returns-clause-passes
returns-clause-passes c = λ limit left xs out rest a b h. left_grown limit (Behind left) xs out rest a b h

pub returns-clause-stopped : goal.returns-clause-stopped
returns-clause-stopped c = left_stopped

pub returns-clause-cut : goal.returns-clause-cut
returns-clause-cut c = left_cut

pub returns-clause-unheaded : goal.returns-clause-unheaded
returns-clause-unheaded c = left_unheaded
