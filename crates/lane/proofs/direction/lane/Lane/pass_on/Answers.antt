use Rattle.std.proofs.Common.{◌≡◌, arith}
use Rattle.lane.specs.Direction.Sends.{reads_left, brings_left}
use Rattle.lane.proofs.DirectionLemmas.StallLemmas.{reads_same, brings_same}
use Rattle.lane.proofs.direction.lane.Lane.pass_on.Goals as goal

pub returns-then-is_full-clause-reads : goal.returns-then-is_full-clause-reads
returns-then-is_full-clause-reads c =
    let e : reads_left c.write.new.self ≡ reads_left c.args.self.now = reads_same c.args.self.now c.write.new.self c.write.ensures.same.1 c.write.ensures.same.2 c.write.ensures.sieve in
    omega (arith, e)

pub returns-clause-nearer : goal.returns-clause-nearer
returns-clause-nearer c = λ more.
    let e : brings_left c.write.new.self ≡ brings_left c.args.self.now = brings_same c.args.self.now c.write.new.self c.write.ensures.same.0 c.write.ensures.same.2 c.write.ensures.sieve in
    let less = c.refill.ensures.nearer more in
    omega (arith, e, less)

pub returns-clause-reads : goal.returns-clause-reads
returns-clause-reads c =
    let e : reads_left c.write.new.self ≡ reads_left c.args.self.now = reads_same c.args.self.now c.write.new.self c.write.ensures.same.1 c.write.ensures.same.2 c.write.ensures.sieve in
    let less = c.refill.ensures.reads in
    omega (arith, e, less)
