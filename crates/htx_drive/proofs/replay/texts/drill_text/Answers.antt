use Rattle.std.proofs.Common.{List, subst}
use Rattle.px_link.specs.declared.turns.Turn.{Turn}
use Rattle.rec_format.specs.Read.{visit}
use Rattle.rec_format.specs.ReportParts.{out_of}
use Rattle.htx_drive.specs.Replay.Replayed.{Replays}
use Rattle.htx_drive.proofs.ReplayLemmas.Reported.{drilled}
use Rattle.htx_drive.proofs.replay.texts.drill_text.Goals as goal

pub returns : goal.returns
returns g c =
    let cfg = g.K.Cores.settings c.args.cores.now in
    let R : List Turn → Type 0 = λ turns. Replays (g.C.Machine.meaning cfg) (g.C.Machine.stands cfg) g.C.Machine.seen turns (visit c.in_ok-conn.conn) (out_of c.in_ok-report.report) in
    drilled (g.C.Machine.meaning cfg) (g.C.Machine.stands cfg) g.C.Machine.seen c.args.seed c.args.exchanges c.in_ok-conn.conn c.in_ok-report.report c.write_lines-lines.result c.in_ok-conn.ensures (subst R c.new.ensures.items c.in_ok-report.ensures) c.write_lines-lines.ensures
