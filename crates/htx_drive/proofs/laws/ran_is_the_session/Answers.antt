use Rattle.htx_drive.proofs.Headlines.{session_of_past}
use Rattle.htx_drive.proofs.laws.ran_is_the_session.Goals as goal

pub returns : goal.returns
returns g c = λ cfg core first client to first_net net ran own ending answers ks told_own told_ending told_answers told_kept r.
    let M = g.C.Machine.meaning cfg in
    let of_past = session_of_past M (g.C.Machine.stands cfg core) g.L.Link.seen g.L.Link.wrote first client to first_net net ran own ending answers ks told_own told_ending told_answers told_kept r in
    of_past.session
