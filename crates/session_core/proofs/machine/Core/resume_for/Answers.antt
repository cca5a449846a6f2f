use Rattle.std.proofs.Common.{subst, None}
use Rattle.session_core.specs.Stands.{Holds}
use Rattle.session_core.specs.declared.Phase.TheVariants as phase
use Rattle.session_core.proofs.Resting.{holds_resumed}
use Rattle.session_core.proofs.machine.Core.resume_for.Goals as goal

pub returns-clause-stands : goal.returns-clause-stands
returns-clause-stands g c = λ cfg other before s rested past t is_rested count.
    let told = g.S.RenewableFor.for_peer cfg c.args.peer in
    let M = g.S.Works.meaning told in
    let q = g.S.Works.request c.renew_for.new.self in
    let a = g.S.Works.answer c.renew_for.new.self in
    let r = c.renew_for.ensures.stands cfg other s.sided s.stand in
    record {
      sided = r.0;
      stand = r.1;
      holds =
          subst (λ count. Holds M (record { phase = phase.Reading; cut = None; exchanges = count }) q a r.0 past) count
          (holds_resumed M rested.at (g.S.Works.request rested.sides) q (g.S.Works.answer rested.sides) a t.sided r.0 past is_rested.phase is_rested.taken (is_rested.untouched told t.sided t.stand) r.2 t.holds);
    }
