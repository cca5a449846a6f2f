use Rattle.std.proofs.Common.{subst}
use Rattle.px_link.specs.Net.{address_of}
use Rattle.px_run.specs.Next.{IsAllowed}
use Rattle.px_run.specs.declared.next.Next.{Next}
use Rattle.px_run.specs.declared.next.Ready.{Ready}
use Rattle.px_run.proofs.Courses.{takes_turn, waits, stands_so, ends_so}
use Rattle.px_run.proofs.step.act.Goals as goal

pub turns-requires-clause-takes : goal.turns-requires-clause-takes
turns-requires-clause-takes g c =
    let P : Next → Type 0 = λ n. (ready : Ready) × IsAllowed c.args.wants.now ready n in
    takes_turn c.args.wants.now c.in-Move.turn (subst P c.in-Move.is c.requires.allowed)

pub returns-in-End-clause-goes : goal.returns-in-End-clause-goes
returns-in-End-clause-goes g c = λ cfg first first_net w.
    record {
      so = ends_so (g.C.Machine.meaning cfg) (g.C.Machine.stands cfg) g.C.Machine.seen g.L.Link.seen g.L.Link.wrote first (address_of c.args.to.now) (g.N.Net.seen first_net) c.args.core.now _ _ _ _ _ _ (λ all ahead count h. c.finish.ensures.ended cfg all ahead count first (address_of c.args.to.now) first_net h) w;
      core = stands_so (g.C.Machine.meaning cfg) (g.C.Machine.stands cfg) g.C.Machine.seen g.L.Link.seen g.L.Link.wrote first (address_of c.args.to.now) (g.N.Net.seen first_net) c.args.core.now _ _ _ w;
    }

pub returns-in-Close-clause-goes : goal.returns-in-Close-clause-goes
returns-in-Close-clause-goes g c = λ cfg first first_net w. c.closes.ensures.goes cfg first (address_of c.args.to.now) first_net w

pub returns-in-Close-clause-logs : goal.returns-in-Close-clause-logs
returns-in-Close-clause-logs g c = λ cfg first first_net w. c.closes.ensures.logs cfg first (address_of c.args.to.now) first_net w

pub returns-in-Move-clause-logs : goal.returns-in-Move-clause-logs
returns-in-Move-clause-logs g c = λ cfg first first_net w. c.turns.ensures.logs cfg first (address_of c.args.to.now) first_net w

pub returns-in-Wait-clause-goes : goal.returns-in-Wait-clause-goes
returns-in-Wait-clause-goes g c = λ cfg first first_net w.
    waits (g.C.Machine.meaning cfg) (g.C.Machine.stands cfg) g.C.Machine.seen g.L.Link.seen g.L.Link.wrote first (address_of c.args.to.now) (g.N.Net.seen first_net) c.args.core.now _ _ _ w
