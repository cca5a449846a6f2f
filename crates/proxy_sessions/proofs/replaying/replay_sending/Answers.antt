use Rattle.std.proofs.Common.{◌≡◌, List, Some, None, sym, subst}
use Rattle.http_rules.specs.declared.config.Config.{Config}
use Rattle.std.specs.Prelude.{Option, Result, IfOk}
use Rattle.px_link.specs.declared.turns.Turn.{Turn}
use Rattle.px_proxyproto.specs.declared.heading.Heading.{Heading}
use Rattle.rec_format.specs.Recorded.{Visit}
use Rattle.rec_format.specs.ReportParts.{out_of}
use Rattle.rec_format.specs.declared.report.Report.{Report}
use Rattle.htx_drive.specs.Replay.Streams.{visit_in}
use Rattle.proxy_sessions.specs.Recorded.{ReplaysSending}
use Rattle.proxy_sessions.proofs.Callers.{ready_for}
use Rattle.proxy_sessions.proofs.replaying.replay_sending.Goals as goal

pub replay_streams-requires : goal.replay_streams-requires
replay_streams-requires c = record { ready = ready_for c.args.config.now c.args.caller.peer c.requires.valid c.bounded.ensures c.total.ensures }

pub replay_headed-requires : goal.replay_headed-requires
replay_headed-requires c = record { ready = ready_for c.args.config.now c.args.caller.peer c.requires.valid c.bounded.ensures c.total.ensures }

sends_as : {E : Type 0} (heading other : Option Heading) (cfg : Config) (turns : List Turn) (visit : Visit) (r : Result Report E) → heading ≡ other
    → IfOk r (λ report. ReplaysSending other cfg turns visit (out_of report)) → IfOk r (λ report. ReplaysSending heading cfg turns visit (out_of report))
sends_as heading other cfg turns visit r is replayed = subst (λ (h : Option Heading). IfOk r (λ report. ReplaysSending h cfg turns visit (out_of report))) (sym is) replayed

pub returns-in-None : goal.returns-in-None
returns-in-None c = sends_as c.args.caller.heading None (record c.args.config.now { peer = c.args.caller.peer }) c.args.turns.items (visit_in c.args.streams) c.replay_streams.result c.in-None.is c.replay_streams.ensures

pub returns-in-Some : goal.returns-in-Some
returns-in-Some c =
    sends_as c.args.caller.heading (Some c.in-Some.heading) (record c.args.config.now { peer = c.args.caller.peer }) c.args.turns.items (visit_in c.args.streams) c.replay_headed.result c.in-Some.is c.replay_headed.ensures
