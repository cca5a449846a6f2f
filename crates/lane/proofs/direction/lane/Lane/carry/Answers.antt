use Rattle.std.proofs.Common.{◌≡◌, false, rules}
use Rattle.lane.proofs.direction.lane.Lane.carry.Goals as goal

pub returns-clause-rests : goal.returns-clause-rests
returns-clause-rests c = λ p s.
    let no_more : c.turn.result ≡ false = search rules in
    c.turn.ensures.rests p (c.turns.invariant.leads p s) no_more
