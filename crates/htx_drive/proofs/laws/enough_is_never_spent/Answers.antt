use Rattle.std.proofs.Common.{refl}
use Rattle.htx_drive.proofs.Budgets.{moved_within, less_than_spent}
use Rattle.htx_drive.proofs.laws.enough_is_never_spent.Goals as goal

pub returns : goal.returns
returns g c = λ cfg core first client to first_net net budget xs m answers ks b one requests told_xs told_answers told_kept large gave.
    less_than_spent _ _ _
    (moved_within (g.C.Machine.meaning cfg) (g.L.Link.seen first) (g.L.Link.seen client) to (g.N.Net.seen first_net) (g.N.Net.seen net) xs m answers ks gave.past b one requests told_xs told_answers told_kept gave.front gave.came gave.dials)
    large (gave.spent refl)
