use Rattle.session_core.proofs.Turning.{holds_first}
use Rattle.session_core.proofs.machine.Core.reset_for.Goals as goal

pub returns-clause-stands : goal.returns-clause-stands
returns-clause-stands g c = λ cfg other past s.
    let told = g.S.RenewableFor.for_peer cfg c.args.peer in
    let r = c.renew_for.ensures.stands cfg other s.sided s.stand in
    record {
      sided = r.0;
      stand = r.1;
      holds = holds_first (g.S.Works.meaning told) (g.S.Works.request c.renew_for.new.self) (g.S.Works.answer c.renew_for.new.self) r.0 r.2;
    }
