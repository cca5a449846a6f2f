use Rattle.forward_core.proofs.JoinedLemmas.HeldBack.{rests_answering, is_unturned, awaits_answer, answered_so_far, is_response}
use Rattle.forward_core.proofs.joined.laws.answer_not_held_back.Goals as goal

pub returns-clause-waits : goal.returns-clause-waits
returns-clause-waits c = λ cfg size d at past h is unturned empty silent.
    let s = c.serves_in_hand.ensures (cfg, size) d at past h.stands is in
    let p = s.sided in
    let r = rests_answering cfg size d at past h is unturned in
    awaits_answer cfg size d at past s
    (c.begun_or_waits.ensures.waits cfg d.answer p.asking p.server p.to_client p.now p.saying r.is_at.sound.answer s.stand.directions.answer r.is_at.stand.1 r.answer empty silent)

pub returns-clause-answered : goal.returns-clause-answered
returns-clause-answered c = λ cfg size d at past h is empty begun tells.
    let s = c.serves_in_hand.ensures (cfg, size) d at past h.stands is in
    let p = s.sided in
    let r = rests_answering cfg size d at past h is (is_unturned cfg size d at past h is tells) in
    answered_so_far cfg size d at past s
    (c.body_put_out.ensures cfg d.answer p.asking p.server p.to_client p.now p.saying s.stand.directions.answer (is_response d.answer r.is_at.sound.answer r.is_at.stand.1 tells begun) tells r.answer empty)
