use Rattle.http_rules.proofs.Bodies.{passes_body}
use Rattle.http_rules.proofs.laws.body_stays.Goals as goal

pub returns : goal.returns
returns c = λ size rules env left is. passes_body size rules env left is
