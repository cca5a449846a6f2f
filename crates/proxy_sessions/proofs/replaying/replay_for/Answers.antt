use Rattle.std.proofs.Common.{◌≡◌, List, Some, None, sym, subst}
use Rattle.std.specs.Prelude.{Option, Result, IfOk}
use Rattle.http_rules.specs.declared.config.Config.{Config}
use Rattle.fcgi_model.specs.Application.{Application}
use Rattle.px_link.specs.declared.turns.Turn.{Turn}
use Rattle.px_proxyproto.specs.declared.heading.Heading.{Heading}
use Rattle.rec_format.specs.Recorded.{Visit}
use Rattle.rec_format.specs.ReportParts.{out_of}
use Rattle.rec_format.specs.declared.report.Report.{Report}
use Rattle.htx_drive.specs.Replay.Streams.{visit_in}
use Rattle.proxy_sessions.specs.Recorded.{ReplaysOver}
use Rattle.proxy_sessions.proofs.replaying.replay_for.Goals as goal

over_as : {E : Type 0} (application other : Option Application) (heading : Option Heading) (cfg : Config) (turns : List Turn) (visit : Visit) (r : Result Report E) → application ≡ other
    → IfOk r (λ report. ReplaysOver other heading cfg turns visit (out_of report)) → IfOk r (λ report. ReplaysOver application heading cfg turns visit (out_of report))
over_as application other heading cfg turns visit r is replayed = subst (λ (a : Option Application). IfOk r (λ report. ReplaysOver a heading cfg turns visit (out_of report))) (sym is) replayed

pub returns-in-None : goal.returns-in-None
returns-in-None c =
    over_as c.args.config.now.application None c.args.caller.heading (record c.args.config.now { peer = c.args.caller.peer }) c.args.turns.items (visit_in c.args.streams) c.replay_sending.result c.in-None.is c.replay_sending.ensures

pub returns-in-Some : goal.returns-in-Some
returns-in-Some c =
    over_as c.args.config.now.application (Some c.in-Some.application) c.args.caller.heading (record c.args.config.now { peer = c.args.caller.peer }) c.args.turns.items (visit_in c.args.streams) c.replay_application.result c.in-Some.is c.replay_application.ensures
