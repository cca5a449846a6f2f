use Rattle.std.proofs.Common.{◌≡◌, ℕ, List, subst}
use Rattle.std.specs.Prelude.{Result, IfOk}
use Rattle.http_rules.specs.declared.config.Config.{Config}
use Rattle.fcgi_model.specs.Application.{Application}
use Rattle.px_link.specs.declared.turns.Turn.{Turn}
use Rattle.rec_format.specs.Recorded.{Visit}
use Rattle.rec_format.specs.ReportParts.{out_of}
use Rattle.rec_format.specs.declared.report.Report.{Report}
use Rattle.forward_core.specs.Meaning.Product.{meaning_of}
use Rattle.htx_drive.specs.Replay.Asked.{ReplaysAsking}
use Rattle.htx_drive.specs.Replay.Streams.{visit_in}
use Rattle.proxy_sessions.specs.Driven.{stands_for, seen_of}
use Rattle.proxy_sessions.proofs.Callers.{ready_for}
use Rattle.proxy_sessions.proofs.replaying.replay_application.Goals as goal

pub replay_asking-requires : goal.replay_asking-requires
replay_asking-requires c = record { ready = ready_for c.args.config.now c.args.peer c.requires.valid c.bounded.ensures c.total.ensures }

asks_as : {E : Type 0} (application other : Application) (cfg : Config) (turns : List Turn) (visit : Visit) (r : Result Report E) → other ≡ application
    → IfOk r (λ report. ReplaysAsking other cfg.limits.bufsize (meaning_of cfg) (stands_for cfg) seen_of turns visit (out_of report))
    → IfOk r (λ report. ReplaysAsking application cfg.limits.bufsize (meaning_of cfg) (stands_for cfg) seen_of turns visit (out_of report))
asks_as application other cfg turns visit r is replayed =
    subst (λ (a : Application). IfOk r (λ report. ReplaysAsking a cfg.limits.bufsize (meaning_of cfg) (stands_for cfg) seen_of turns visit (out_of report))) is replayed

pub returns : goal.returns
returns c =
    asks_as c.args.application.now c.in_ok-copy.field-0 (record c.args.config.now { peer = c.args.peer }) c.args.turns.items (visit_in c.args.streams) c.replay_asking.result c.in_ok-copy.ensures c.replay_asking.ensures
