use Rattle.forward_core.proofs.JoinedLemmas.HeldBack.{rests_reading, awaits_request}
use Rattle.forward_core.proofs.joined.laws.head_not_held_back.Goals as goal

pub returns : goal.returns
returns c = λ cfg size d at past h is.
    let s = c.reads_in_hand.ensures (cfg, size) d at past h.stands is in
    let p = s.sided in
    let r = rests_reading cfg size d at past h is in
    awaits_request cfg size d at past s (c.waits_for_a_head.ensures cfg d.request p.vars p.came p.asking p.to_server p.reply r.is_at.sound.request s.stand.directions.request r.is_at.stand.0 r.request)
