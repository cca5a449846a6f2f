use Rattle.fcgi_lane.specs.Answer.Cgi.{InHead, Behind}
use Rattle.fcgi_lane.proofs.AnswerLemmas.Translating.{stands_new, stands_fed, stands_begun, stands_bad, stands_given}
use Rattle.fcgi_lane.proofs.answer.laws.any_cut.Goals as goal

pub returns-clause-new : goal.returns-clause-new
returns-clause-new c = stands_new

pub returns-clause-head : goal.returns-clause-head
returns-clause-head c = λ limit text xs out given bytes a b h s. stands_fed limit (InHead text) xs out given bytes a b h s

pub returns-clause-begun : goal.returns-clause-begun
returns-clause-begun c = stands_begun

pub returns-clause-none : goal.returns-clause-none
returns-clause-none c = stands_bad

pub returns-clause-behind : goal.returns-clause-behind
returns-clause-behind c = λ limit left xs out given bytes a b h s. stands_fed limit (Behind left) xs out given bytes a b h s

pub returns-clause-given : goal.returns-clause-given
returns-clause-given c = stands_given
