use Rattle.rec_format.specs.Read.{meaning_of}
use Rattle.rec_format.specs.Recorded.{Recorded}
use Rattle.htx_drive.specs.Replay.Replayed.{Replays}
use Rattle.htx_drive.proofs.ReplayLemmas.Reported.{report_by}
use Rattle.htx_drive.proofs.RecordLemmas.Woven.{weave_of}
use Rattle.htx_drive.proofs.weave.record.texts.weave_text.Goals as goal

pub returns-clause-woven : goal.returns-clause-woven
returns-clause-woven g c =
    let r = c.args.recorded.now in
    let cfg = g.K.Cores.settings c.args.cores.now in
    weave_of (g.C.Machine.meaning cfg) (g.C.Machine.stands cfg) g.C.Machine.seen (meaning_of r) c.in_ok-reports.reports.items c.deref.result.now c.write_reports-text.result c.in_ok-reports.ensures.woven c.deref.ensures.value c.write_reports-text.ensures

pub returns-clause-at_once : goal.returns-clause-at_once
returns-clause-at_once g c = λ enough.
    let second : Recorded = record (meaning_of c.args.recorded.now) { version = 2 } in
    let cfg = g.K.Cores.settings c.args.cores.now in
    report_by (Replays (g.C.Machine.meaning cfg) (g.C.Machine.stands cfg) g.C.Machine.seen) second c.in_ok-reports.reports.items c.deref.result.now c.write_reports-text.result (c.in_ok-reports.ensures.at_once enough) c.deref.ensures.value c.write_reports-text.ensures
