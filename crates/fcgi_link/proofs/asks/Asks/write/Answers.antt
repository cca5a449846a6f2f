use Rattle.std.proofs.Common.{refl, sym}
use Rattle.fcgi_link.specs.Asking.{AsksSeen}
use Rattle.fcgi_link.proofs.asks.Asks.write.Goals as goal

pub returns-clause-writes : goal.returns-clause-writes
returns-clause-writes g c = λ answers.
    let now : AsksSeen = record { translating = c.write_asking.new.translator; stopped = c.write_asking.new.stopped; faults = c.write_asking.new.faults } in
    c.write_asking.ensures.writes answers c.args.self.now now (sym c.self.view_is) refl
