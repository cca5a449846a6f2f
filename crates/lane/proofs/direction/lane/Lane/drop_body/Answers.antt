use Rattle.std.proofs.Common.{◌≡◌, false, rules, ◌∙◌}
use Rattle.lane.proofs.direction.lane.Lane.drop_body.Goals as goal

pub returns-clause-rests : goal.returns-clause-rests
returns-clause-rests c = λ p d s.
    let no_more : c.drop_part.result ≡ false = search rules in
    c.drop_part.ensures.rests p (c.parts.invariant.keeps.dropped ∙ d) (c.parts.invariant.leads d p s) no_more
