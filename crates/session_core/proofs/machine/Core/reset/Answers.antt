use Rattle.session_core.proofs.Turning.{holds_first}
use Rattle.session_core.proofs.machine.Core.reset.Goals as goal

pub returns-clause-stands : goal.returns-clause-stands
returns-clause-stands g c = λ cfg past s.
    let r = c.renew.ensures.stands cfg s.sided s.stand in
    record {
      sided = r.0;
      stand = r.1;
      holds = holds_first (g.S.Works.meaning cfg) (g.S.Works.request c.renew.new.self) (g.S.Works.answer c.renew.new.self) r.0 r.2;
    }
