use Rattle.std.proofs.Common.{◌≡◌, ◌+◌, ◌*◌, true, rules, arith}
use Rattle.lane.specs.Direction.Filtering.{held_left}
use Rattle.lane.specs.Direction.Sends.{reads_left, brings_left, is_going}
use Rattle.lane.proofs.DirectionLemmas.StallLemmas.{reads_same, brings_none}
use Rattle.lane.proofs.direction.lane.Lane.refill.Goals as goal

pub returns-clause-nearer : goal.returns-clause-nearer
returns-clause-nearer c = λ _.
    let e : brings_left c.hand_over.new.self ≡ 2 * (held_left c.fill.new.self.sieve + is_going c.fill.new.self.source) = brings_none c.fill.new.self c.hand_over.new.self c.hand_over.ensures.all c.hand_over.ensures.same.2 c.hand_over.ensures.sieve in
    let yes_ : c.fill.result ≡ true = search rules in
    let less = c.fill.ensures.nearer yes_ in
    omega (arith, e, less)

pub returns-clause-reads : goal.returns-clause-reads
returns-clause-reads c =
    let e : reads_left c.hand_over.new.self ≡ reads_left c.fill.new.self = reads_same c.fill.new.self c.hand_over.new.self c.hand_over.ensures.same.1 c.hand_over.ensures.same.2 c.hand_over.ensures.sieve in
    let less = c.fill.ensures.reads in
    omega (arith, e, less)
