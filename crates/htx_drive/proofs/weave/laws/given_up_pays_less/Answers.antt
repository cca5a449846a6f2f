use Rattle.htx_drive.proofs.WeaveLemmas.Moving.{at_most}
use Rattle.htx_drive.proofs.weave.laws.given_up_pays_less.Goals as goal

pub returns : goal.returns
returns g c = λ cfg all first client failed to first_net net count bytes requests answers ks b one few told_bytes told_answers told_kept e.
    at_most _ _ _ e.more (c.moved_is_bounded.ensures cfg first client to first_net net bytes requests answers ks e.past b one few told_bytes told_answers told_kept e.so.left_core.front e.came e.dials)
