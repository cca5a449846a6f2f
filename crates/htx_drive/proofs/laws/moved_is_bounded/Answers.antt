use Rattle.htx_drive.proofs.Budgets.{moved_within}
use Rattle.htx_drive.proofs.laws.moved_is_bounded.Goals as goal

pub returns : goal.returns
returns g c = λ cfg first client to first_net net xs m answers ks past b one requests told_xs told_answers told_kept front came dials.
    moved_within (g.C.Machine.meaning cfg) (g.L.Link.seen first) (g.L.Link.seen client) to (g.N.Net.seen first_net) (g.N.Net.seen net) xs m answers ks past b one requests told_xs told_answers told_kept front came dials
