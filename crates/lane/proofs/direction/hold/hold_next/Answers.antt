use Rattle.std.proofs.Common.{arith}
use Rattle.lane.proofs.DirectionLemmas.HoldLemmas.{Read, next_whole, next_bad, next_more, next_met}
use Rattle.lane.proofs.direction.hold.hold_next.Goals as goal

pub returns-in-Whole-clause-holds : goal.returns-in-Whole-clause-holds
returns-in-Whole-clause-holds c =
    let e = c.hold-pulled.ensures in
    let x : Read c.args.reader.now c.hold-pulled.new.reader c.args.input.now.items c.hold-pulled.new.self.items c.args.sieve.now c.hold-pulled.new.sieve c.hold-pulled.result.used c.hold-pulled.result.state =
    record { holds = e.holds; open_ = e.end; was = c.requires.idle.end; still = e.still; sieved = e.sieved } in
    next_whole c.args.ended c.args.reader.now c.hold-pulled.new.reader c.args.input.now.items c.hold-pulled.new.self.items c.args.sieve.now c.hold-pulled.new.sieve c.set_whole.new.self
    c.hold-pulled.result.used c.hold-pulled.result.state x c.in-Whole.is c.set_whole.ensures.same

pub returns-in-Bad-clause-holds : goal.returns-in-Bad-clause-holds
returns-in-Bad-clause-holds c =
    let e = c.hold-pulled.ensures in
    let x : Read c.args.reader.now c.hold-pulled.new.reader c.args.input.now.items c.hold-pulled.new.self.items c.args.sieve.now c.hold-pulled.new.sieve c.hold-pulled.result.used c.hold-pulled.result.state =
    record { holds = e.holds; open_ = e.end; was = c.requires.idle.end; still = e.still; sieved = e.sieved } in
    next_bad c.args.ended c.args.reader.now c.hold-pulled.new.reader c.args.input.now.items c.hold-pulled.new.self.items c.args.sieve.now c.hold-pulled.new.sieve c.set_cut.new.self
    c.hold-pulled.result.used c.hold-pulled.result.state x c.in-Bad.is c.set_cut.ensures.same

pub returns-then-pulled-gt0-clause-holds : goal.returns-then-pulled-gt0-clause-holds
returns-then-pulled-gt0-clause-holds c =
    let e = c.hold-pulled.ensures in
    let x : Read c.args.reader.now c.hold-pulled.new.reader c.args.input.now.items c.hold-pulled.new.self.items c.args.sieve.now c.hold-pulled.new.sieve c.hold-pulled.result.used c.hold-pulled.result.state =
    record { holds = e.holds; open_ = e.end; was = c.requires.idle.end; still = e.still; sieved = e.sieved } in
    next_more c.args.ended c.args.reader.now c.hold-pulled.new.reader c.args.input.now.items c.hold-pulled.new.self.items c.args.sieve.now c.hold-pulled.new.sieve
    c.hold-pulled.result.used c.hold-pulled.result.state x c.in-More.is (omega arith)

pub returns-else-pulled-gt0-clause-holds : goal.returns-else-pulled-gt0-clause-holds
returns-else-pulled-gt0-clause-holds c =
    let e = c.hold-pulled.ensures in
    let x : Read c.args.reader.now c.hold-pulled.new.reader c.args.input.now.items c.hold-pulled.new.self.items c.args.sieve.now c.hold-pulled.new.sieve c.hold-pulled.result.used c.hold-pulled.result.state =
    record { holds = e.holds; open_ = e.end; was = c.requires.idle.end; still = e.still; sieved = e.sieved } in
    next_met c.args.ended c.args.reader.now c.hold-pulled.new.reader c.args.input.now.items c.hold-pulled.new.self.items c.args.sieve.now c.hold-pulled.new.sieve c.meet_end.new.sieve
    c.hold-pulled.result.used c.hold-pulled.result.state x c.in-More.is (omega arith) c.meet_end.result c.meet_end.ensures.open c.meet_end.ensures.met
