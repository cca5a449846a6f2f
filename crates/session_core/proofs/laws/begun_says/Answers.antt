use Rattle.std.proofs.Common.{refl}
use Rattle.session_core.proofs.Begun.{refusal_begun, reply_begun, turned_begun, turned_closed}
use Rattle.session_core.proofs.Driving.{begun_so, begun_closed}
use Rattle.session_core.proofs.Placing.{placed_in, says}
use Rattle.session_core.specs.declared.Phase.TheVariants as phase
use Rattle.session_core.proofs.laws.begun_says.Goals as goal

pub returns-clause-answer : goal.returns-clause-answer
returns-clause-answer g c = λ cfg sides at past s is turned. begun_so (g.S.Works.meaning cfg) at (g.S.Works.request sides) (g.S.Works.answer sides) s.sided past is turned s.holds

pub returns-clause-refusal : goal.returns-clause-refusal
returns-clause-refusal g c = λ cfg sides at past s placed is.
    let a = g.S.Works.answer sides in
    let begins = g.met.S.Works.begins_so cfg sides s.sided _ s.stand refl (placed_in (g.S.Works.placed sides) a at.phase phase.Refusing at.cut is placed) in
    refusal_begun (g.S.Works.meaning cfg) (g.S.Works.stands cfg sides) at (g.S.Works.request sides) a s.sided past is s.stand begins s.holds

pub returns-clause-reply : goal.returns-clause-reply
returns-clause-reply g c = λ cfg sides at past kept s placed is.
    let a = g.S.Works.answer sides in
    let begins = g.met.S.Works.begins_so cfg sides s.sided _ s.stand refl (placed_in (g.S.Works.placed sides) a at.phase (phase.Replying kept) at.cut is placed).0 in
    reply_begun (g.S.Works.meaning cfg) (g.S.Works.stands cfg sides) at kept (g.S.Works.request sides) a s.sided past is s.stand begins s.holds

pub returns-clause-turned : goal.returns-clause-turned
returns-clause-turned g c = λ cfg sides at past s placed is cut.
    let a = g.S.Works.answer sides in
    let begins = g.met.S.Works.begins_so cfg sides s.sided _ s.stand refl (says (g.S.Works.placed sides) at.cut cut (placed_in (g.S.Works.placed sides) a at.phase phase.Serving at.cut is placed)) in
    turned_begun (g.S.Works.meaning cfg) (g.S.Works.stands cfg sides) at (g.S.Works.request sides) a s.sided past is cut s.stand begins s.holds

pub returns-clause-closed : goal.returns-clause-closed
returns-clause-closed g c = λ cfg sides at past s is turned. begun_closed (g.S.Works.meaning cfg) at (g.S.Works.request sides) (g.S.Works.answer sides) s.sided past is turned s.holds

pub returns-clause-closed_turned : goal.returns-clause-closed_turned
returns-clause-closed_turned g c = λ cfg sides at past s placed is cut.
    let a = g.S.Works.answer sides in
    let begins = g.met.S.Works.begins_so cfg sides s.sided _ s.stand refl (says (g.S.Works.placed sides) at.cut cut (placed_in (g.S.Works.placed sides) a at.phase phase.Served at.cut is placed).0) in
    turned_closed (g.S.Works.meaning cfg) (g.S.Works.stands cfg sides) at (g.S.Works.request sides) a s.sided past is cut s.stand begins s.holds
