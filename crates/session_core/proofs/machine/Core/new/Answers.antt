use Rattle.session_core.proofs.Turning.{holds_first}
use Rattle.session_core.proofs.machine.Core.new.Goals as goal

pub returns-clause-stands : goal.returns-clause-stands
returns-clause-stands g c = λ cfg p s fresh.
    record {
      sided = p;
      stand = s;
      holds = holds_first (g.S.Works.meaning cfg) (g.S.Works.request c.args.sides) (g.S.Works.answer c.args.sides) p fresh;
    }
