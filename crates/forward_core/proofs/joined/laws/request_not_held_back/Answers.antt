use Rattle.forward_core.proofs.JoinedLemmas.HeldBack.{rests_sending, is_unmet, uncut_so_far, sent_so_far}
use Rattle.forward_core.proofs.joined.laws.request_not_held_back.Goals as goal

pub returns-clause-no_cut : goal.returns-clause-no_cut
returns-clause-no_cut c = λ cfg size d at past h is uncut free.
    let s = c.serves_in_hand.ensures (cfg, size) d at past h.stands is in
    let p = s.sided in
    let r = rests_sending cfg size d at past h is uncut in
    uncut_so_far cfg size d at past uncut s
    (λ going. c.nothing_held_back.ensures.no_cut cfg d.request p.vars p.came p.asking p.to_server p.reply r.is_at.sound.request s.stand.directions.request r.is_at.stand.0 r.request going free)

pub returns-clause-sent : goal.returns-clause-sent
returns-clause-sent c = λ cfg size d at past h is going empty takes.
    let s = c.serves_in_hand.ensures (cfg, size) d at past h.stands is in
    let p = s.sided in
    let r = rests_sending cfg size d at past h is (is_unmet cfg size d at past s going) in
    sent_so_far cfg size d at past s
    (c.nothing_held_back.ensures.puts cfg d.request p.vars p.came p.asking p.to_server p.reply r.is_at.sound.request s.stand.directions.request r.is_at.stand.0 r.request going empty takes)
