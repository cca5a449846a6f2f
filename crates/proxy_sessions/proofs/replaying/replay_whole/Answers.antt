use Rattle.std.proofs.Common.{rules, ◌≡◌, List, None, subst}
use Rattle.std.specs.Prelude.{Option, Result, IfOk}
use Rattle.http_rules.specs.declared.config.Config.{Config}
use Rattle.px_link.specs.declared.turns.Turn.{Turn}
use Rattle.px_proxyproto.specs.Nets.{heading_for}
use Rattle.px_proxyproto.specs.declared.heading.Heading.{Heading}
use Rattle.rec_format.specs.Recorded.{Visit}
use Rattle.rec_format.specs.Read.{visit}
use Rattle.rec_format.specs.ReportParts.{out_of}
use Rattle.rec_format.specs.declared.report.Report.{Report}
use Rattle.proxy_sessions.specs.Recorded.{ReplaysOver}
use Rattle.proxy_sessions.proofs.replaying.replay_whole.Goals as goal

headed_as : {E : Type 0} (heading other : Option Heading) (cfg : Config) (turns : List Turn) (visit : Visit) (r : Result Report E) → other ≡ heading
    → IfOk r (λ report. ReplaysOver cfg.application other cfg turns visit (out_of report)) → IfOk r (λ report. ReplaysOver cfg.application heading cfg turns visit (out_of report))
headed_as heading other cfg turns visit r is replayed = subst (λ (h : Option Heading). IfOk r (λ report. ReplaysOver cfg.application h cfg turns visit (out_of report))) is replayed

pub returns : goal.returns
returns c =
    let replayed : IfOk c.replay_for.result (λ report. ReplaysOver c.args.config.now.application c.heading_for.result (record c.args.config.now { peer = c.args.config.now.peer }) c.args.turns.items (visit c.args.conn.now) (out_of report)) = search rules in
    headed_as (heading_for c.args.config.now.send_proxy None) c.heading_for.result c.args.config.now c.args.turns.items (visit c.args.conn.now) c.replay_for.result c.heading_for.ensures replayed
