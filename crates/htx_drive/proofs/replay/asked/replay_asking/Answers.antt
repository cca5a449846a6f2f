use Rattle.std.proofs.Common.{ℕ, List, ap, subst}
use Rattle.std.proofs.lemmas.Result.{IfOk-weaker}
use Rattle.px_link.specs.Net.{NetSeen, address_of}
use Rattle.px_link.specs.declared.turns.Turn.{Turn}
use Rattle.session_model.specs.Session.{Out}
use Rattle.rec_format.specs.ReportParts.{out_of}
use Rattle.htx_drive.specs.Replay.Asked.{ReplaysAsking, visit_asked}
use Rattle.htx_drive.specs.Replay.Memory.{IsEnough}
use Rattle.htx_drive.specs.Replay.Streams.{visit_in}
use Rattle.htx_drive.proofs.ReplayLemmas.Asked.{plain_untouched, asking_untouched, asked}
use Rattle.htx_drive.proofs.replay.asked.replay_asking.Goals as goal

pub run_over-requires-clause-paid : goal.run_over-requires-clause-paid
run_over-requires-clause-paid g c =
    let v = visit_in c.args.streams in
    let E : ℕ → Type 0 = λ n. IsEnough (visit_asked c.args.asked.limit v) n c.in-Some.budget in
    record {
      visit = visit_asked c.args.asked.limit v;
      client = plain_untouched v.client _ _ c.plain.ensures c.in_ok-client.ensures;
      servers = asking_untouched v _ c.args.asked.application c.args.asked.limit _ c.asking.ensures.seen c.in_ok-found.ensures;
      enough = subst E c.bufsize.ensures (c.in-Some.ensures c.args.asked.limit);
    }

pub returns : goal.returns
returns g c =
    let v = visit_in c.args.streams in
    let application = c.args.asked.application in
    let limit = c.args.asked.limit in
    let cfg = g.K.Cores.settings c.args.cores.now in
    let M = g.C.Machine.meaning cfg in
    let stands = g.C.Machine.stands cfg in
    let R : List Turn → Out → Type 0 = λ turns out. ReplaysAsking application limit M stands g.C.Machine.seen turns v out in
    let client = plain_untouched v.client _ _ c.plain.ensures c.in_ok-client.ensures in
    let net = asking_untouched v _ application limit _ c.asking.ensures.seen c.in_ok-found.ensures in
    IfOk-weaker c.report_of.result _ _
    (λ report is. subst (λ turns. R turns (out_of report)) c.new-turns.ensures (asked M stands g.C.Machine.seen c.new-turns.result c.run_over.new.turns v application limit c.plain.result c.run_over.new.over.client (address_of c.args.to.now) _ c.run_over.new.over.net c.in_ok-ran.ran c.inner.result.now c.inner-2.result.now (out_of report) (ap (λ (n : NetSeen). n.manner) c.asking.ensures.seen) client net (c.in_ok-ran.ensures (visit_asked limit v) client net) c.inner.ensures c.inner-2.ensures is))
    c.report_of.ensures
