use Rattle.std.proofs.Common.{List, subst}
use Rattle.std.proofs.lemmas.Result.{IfOk-weaker}
use Rattle.px_link.specs.Net.{address_of}
use Rattle.px_link.specs.declared.turns.Turn.{Turn}
use Rattle.session_model.specs.Session.{Out}
use Rattle.htx_drive.specs.Replay.Replayed.{Replays}
use Rattle.rec_format.specs.ReportParts.{out_of}
use Rattle.htx_drive.specs.Replay.Streams.{visit_in}
use Rattle.htx_drive.proofs.ReplayLemmas.Fresh.{untouched, untouched_net}
use Rattle.htx_drive.proofs.ReplayLemmas.Whole.{is_enough, replays}
use Rattle.htx_drive.proofs.replay.sessions.replay_streams.Goals as goal

pub run_over-requires-clause-paid : goal.run_over-requires-clause-paid
run_over-requires-clause-paid g c =
    let v = visit_in c.args.streams in
    record {
      visit = v;
      client = untouched v.client _ c.in_ok-client.ensures;
      servers = untouched_net v.servers _ _ c.in_ok-net.ensures;
      enough = is_enough v c.bufsize.result _ c.in-Some.budget c.bufsize.ensures c.in-Some.ensures;
    }

pub returns : goal.returns
returns g c =
    let v = visit_in c.args.streams in
    let cfg = g.K.Cores.settings c.args.cores.now in
    let net = c.in_ok-net.net in
    let after = c.run_over.new.over.net in
    let M = g.C.Machine.meaning cfg in
    let stands = g.C.Machine.stands cfg in
    let R : List Turn → Out → Type 0 = λ turns out. Replays M stands g.C.Machine.seen turns v out in
    IfOk-weaker c.report_of.result _ _
    (λ report is. subst (λ turns. R turns (out_of report)) c.new-turns.ensures (replays M stands g.C.Machine.seen c.new-turns.result c.run_over.new.turns v (address_of c.args.to.now) c.in_ok-client.client c.run_over.new.over.client net.net net.refused after.net after.refused c.in_ok-ran.ran (out_of report) c.in_ok-client.ensures c.in_ok-net.ensures (c.in_ok-ran.ensures v (untouched v.client _ c.in_ok-client.ensures) (untouched_net v.servers _ _ c.in_ok-net.ensures)) is))
    c.report_of.ensures
