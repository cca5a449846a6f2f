use Rattle.http_rules.proofs.Stepping.{all, first}
use Rattle.http_rules.proofs.laws.stepping_is_the_run.Goals as goal

pub returns-clause-all : goal.returns-clause-all
returns-clause-all c = λ size rules strict env. all size rules strict env

pub returns-clause-first : goal.returns-clause-first
returns-clause-first c = λ size rule rules strict env. first size rule rules strict env
