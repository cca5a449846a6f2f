use Rattle.std.proofs.Common.{List, Some, ap, subst, ◌∙◌}
use Rattle.std.proofs.lemmas.Result.{IfOk-weaker}
use Rattle.px_link.specs.Net.{NetSeen, address_of}
use Rattle.px_link.specs.declared.turns.Turn.{Turn}
use Rattle.px_proxyproto.specs.Nets.{manner_of, manner_under}
use Rattle.session_model.specs.Session.{Out}
use Rattle.rec_format.specs.ReportParts.{out_of}
use Rattle.htx_drive.specs.Replay.Headed.{ReplaysIn}
use Rattle.htx_drive.specs.Replay.Streams.{visit_in}
use Rattle.htx_drive.proofs.ReplayLemmas.Headed.{plain_untouched, introduced_untouched, headed}
use Rattle.htx_drive.proofs.ReplayLemmas.Whole.{is_enough}
use Rattle.htx_drive.proofs.replay.headed.replay_headed.Goals as goal

pub run_over-requires-clause-paid : goal.run_over-requires-clause-paid
run_over-requires-clause-paid g c =
    let v = visit_in c.args.streams in
    record {
      visit = v;
      client = plain_untouched v.client _ _ c.plain.ensures c.in_ok-client.ensures;
      servers = introduced_untouched v.servers _ (Some c.args.heading) _ _ c.new-net.ensures.seen c.introduce.ensures c.in_ok-found.ensures;
      enough = is_enough v c.bufsize.result _ c.in-Some.budget c.bufsize.ensures c.in-Some.ensures;
    }

pub returns : goal.returns
returns g c =
    let v = visit_in c.args.streams in
    let cfg = g.K.Cores.settings c.args.cores.now in
    let M = g.C.Machine.meaning cfg in
    let stands = g.C.Machine.stands cfg in
    let R : List Turn → Out → Type 0 = λ turns out. ReplaysIn (manner_of (Some c.args.heading)) M stands g.C.Machine.seen turns v out in
    let client = plain_untouched v.client _ _ c.plain.ensures c.in_ok-client.ensures in
    let net = introduced_untouched v.servers _ (Some c.args.heading) _ _ c.new-net.ensures.seen c.introduce.ensures c.in_ok-found.ensures in
    IfOk-weaker c.report_of.result _ _
    (λ report is. subst (λ turns. R turns (out_of report)) c.new-turns.ensures (headed M stands g.C.Machine.seen c.new-turns.result c.run_over.new.turns v (Some c.args.heading) c.plain.result c.run_over.new.over.client (address_of c.args.to.now) _ c.run_over.new.over.net c.in_ok-ran.ran c.inner.result.now c.inner-2.result.now (out_of report) (ap (λ (n : NetSeen). n.manner) c.introduce.ensures ∙ ap (λ (n : NetSeen). manner_under (Some c.args.heading) n.manner) c.new-net.ensures.seen) client net (c.in_ok-ran.ensures v client net) c.inner.ensures c.inner-2.ensures is))
    c.report_of.ensures
