use Rattle.std.proofs.Common.{◌<◌, [], length, map, drop}
use Rattle.session_model.specs.Meaning.{Meaning}
use Rattle.session_core.specs.MeaningLaws.Bound.{IsBounded}
use Rattle.px_link.specs.MemLink.{link_of}
use Rattle.htx_drive.specs.Replay.Memory.{answer_of, needed_by}
use Rattle.htx_drive.specs.Replay.Seen.{wrote_by}
use Rattle.htx_drive.specs.Weave.Memory.{sees_net}
use Rattle.htx_drive.proofs.ReplayLemmas.Fresh.{untouched, untouched_net, told_bytes}
use Rattle.htx_drive.proofs.RecordLemmas.Paid.{by_ran, less_by}
use Rattle.htx_drive.proofs.weave.record.laws.each_pays_less.Goals as goal

pub returns-clause-ended : goal.returns-clause-ended
returns-clause-ended g c = λ cores turns v to first conn ran count ready fresh done.
    let cfg = g.K.Cores.settings cores in
    let M : Meaning = g.C.Machine.meaning cfg in
    let bounded : IsBounded M = g.met.K.Cores.is_bounded cores ready in
    let requests = c.bytes_bound_requests.ensures cfg v.client.bytes bounded (g.met.K.Cores.is_total cores ready) in
    let room = g.met.K.Cores.some_room cores ready in
    let bytes = told_bytes link_of wrote_by v.client first.client (untouched v.client first.client fresh.client) in
    let net = untouched_net v.servers first.net.net first.net.refused fresh.net in
    let own = drop done.waited turns in
    by_ran M (g.C.Machine.stands cfg) g.C.Machine.seen own link_of wrote_by first.client conn.client to (sees_net first.net) (sees_net conn.net) ran count (count < needed_by v M.limits.bufsize) done.so
    (λ r ahead e. less_by v M.limits.bufsize count (c.ended_pays_less.ensures cfg own ahead first.client conn.client to first.net conn.net r count v.client.bytes (length v.client.bytes) (map answer_of v.servers) [] bounded room requests bytes net.answers net.kept e))
    (λ e. less_by v M.limits.bufsize count (c.given_up_pays_less.ensures cfg own first.client conn.client _ to first.net conn.net count v.client.bytes (length v.client.bytes) (map answer_of v.servers) [] bounded room requests bytes net.answers net.kept e))

pub returns-clause-given_up : goal.returns-clause-given_up
returns-clause-given_up g c = λ cores turns v to first conn failed count ready fresh given.
    let cfg = g.K.Cores.settings cores in
    let M : Meaning = g.C.Machine.meaning cfg in
    let bounded : IsBounded M = g.met.K.Cores.is_bounded cores ready in
    let requests = c.bytes_bound_requests.ensures cfg v.client.bytes bounded (g.met.K.Cores.is_total cores ready) in
    let net = untouched_net v.servers first.net.net first.net.refused fresh.net in
    less_by v M.limits.bufsize count
    (c.given_up_pays_less.ensures cfg turns first.client conn.client failed to first.net conn.net count v.client.bytes (length v.client.bytes) (map answer_of v.servers) [] bounded (g.met.K.Cores.some_room cores ready) requests
    (told_bytes link_of wrote_by v.client first.client (untouched v.client first.client fresh.client)) net.answers net.kept given)
