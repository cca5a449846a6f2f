use Rattle.htx_drive.proofs.WeaveLemmas.Moving.{at_most}
use Rattle.htx_drive.proofs.weave.laws.ended_pays_less.Goals as goal

pub returns : goal.returns
returns g c = λ cfg all ahead first client to first_net net ran count bytes requests answers ks b one few told_bytes told_answers told_kept e.
    at_most _ _ _ e.more
    (c.moved_is_bounded.ensures cfg first client to first_net net bytes requests answers ks e.so.past b one few told_bytes told_answers told_kept (_, g.met.C.Machine.taken_is_a_front cfg e.core e.so.past e.so.stand) e.so.came e.so.dials)
