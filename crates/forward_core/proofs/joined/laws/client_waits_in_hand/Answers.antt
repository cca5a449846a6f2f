use Rattle.std.proofs.Common.{subst}
use Rattle.session_core.specs.Place.{IsPlaced}
use Rattle.session_core.specs.declared.Phase.{Phase}
use Rattle.forward_core.specs.Joined.Joined.{Placed, answer_of}
use Rattle.forward_core.proofs.JoinedLemmas.Sending.{idle_heard}
use Rattle.forward_core.proofs.JoinedLemmas.HeldBack.{rests_answering}
use Rattle.forward_core.proofs.JoinedLemmas.Waiting.{hears, waits_for_head, waits_for_none, waits_opening}
use Rattle.forward_core.proofs.joined.laws.client_waits_in_hand.Goals as goal

pub returns-clause-waits : goal.returns-clause-waits
returns-clause-waits c = λ cfg size d at past h is uncut wants.
    let x = hears cfg size d at past is (c.exchanges_are.ensures (cfg, size) d at past h.stands) in
    let r = rests_answering cfg size d at past h is uncut in
    waits_for_head cfg d at past x (c.head_heard.ensures.read cfg d.answer x.served.asking x.server x.put x.now x.saying r.is_at.sound.answer x.answer r.is_at.stand.1 r.answer) wants

pub returns-clause-free : goal.returns-clause-free
returns-clause-free c = λ cfg size d at past h is wants.
    let x = hears cfg size d at past is (c.exchanges_are.ensures (cfg, size) d at past h.stands) in
    waits_for_none cfg d at past x is (c.head_heard.ensures.came cfg d.answer x.served.asking x.server x.put x.now x.saying x.answer) wants

pub returns-clause-opening : goal.returns-clause-opening
returns-clause-opening c = λ cfg size d at past h is.
    let placed = (subst (λ (f : Phase). IsPlaced (Placed d) (answer_of d) f at.cut) is h.placed).0 in
    waits_opening d at is (idle_heard d.answer placed.is_at.sound.answer placed.is_at.stand.1)
