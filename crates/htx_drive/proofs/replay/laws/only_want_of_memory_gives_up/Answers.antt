use Rattle.std.proofs.Common.{[], length, map, refl}
use Rattle.session_model.specs.Meaning.{Meaning}
use Rattle.session_core.specs.MeaningLaws.Bound.{IsBounded}
use Rattle.htx_drive.specs.Replay.Memory.{answer_of}
use Rattle.htx_drive.proofs.ReplayLemmas.Fresh.{told_bytes}
use Rattle.htx_drive.proofs.ReplayLemmas.Whole.{enough_by, never_refuses}
use Rattle.htx_drive.proofs.replay.laws.only_want_of_memory_gives_up.Goals as goal

pub returns-clause-unspent : goal.returns-clause-unspent
returns-clause-unspent g c = λ cores core v to first client first_net net budget ready fresh fresh_net large gave.
    let cfg = g.K.Cores.settings cores in
    let M : Meaning = g.C.Machine.meaning cfg in
    let bounded : IsBounded M = g.met.K.Cores.is_bounded cores ready in
    let requests = c.bytes_bound_requests.ensures cfg v.client.bytes bounded (g.met.K.Cores.is_total cores ready) in
    c.enough_is_never_spent.ensures cfg core first client to first_net net budget v.client.bytes (length v.client.bytes) (map answer_of v.servers) []
    bounded (g.met.K.Cores.some_room cores ready) requests (told_bytes g.L.Link.seen g.L.Link.wrote v.client first fresh) fresh_net.answers fresh_net.kept (enough_by v M.limits.bufsize budget large) gave

pub returns-clause-written : goal.returns-clause-written
returns-clause-written g c = λ cores core v to first client first_net net budget fresh gave.
    never_refuses g.L.Link.seen g.L.Link.wrote v.client first (length gave.past.taken) fresh (gave.put.full fresh.unwritten refl)
