use Rattle.http_rules.specs.declared.rule.action.Direction.TheVariants as directions
use Rattle.http_rules.proofs.Replies.{replied}
use Rattle.http_rules.proofs.laws.replies_are_plain.Goals as goal

pub returns-clause-trailers : goal.returns-clause-trailers
returns-clause-trailers c = λ size rules env left m is. (replied size directions.Request rules env left m is).trailers

pub returns-clause-framing : goal.returns-clause-framing
returns-clause-framing c = λ size rules env left m is. (replied size directions.Request rules env left m is).framing

pub returns-clause-fits : goal.returns-clause-fits
returns-clause-fits c = λ size rules env left m is. (replied size directions.Request rules env left m is).fits

pub returns-clause-body : goal.returns-clause-body
returns-clause-body c = λ size direction rules env left m good is. (replied size direction rules env left m is).body good.each
