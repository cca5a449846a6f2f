use Rattle.std.proofs.Common.{vec_len}
use Rattle.rec_format.specs.Read.{meaning_of}
use Rattle.htx_drive.proofs.ReplayLemmas.Reported.{reportable, report_by}
use Rattle.htx_drive.proofs.replay.reports.report_text.Goals as goal

pub write_reports-text-requires : goal.write_reports-text-requires
write_reports-text-requires g c =
    let r = c.args.recorded.now in
    reportable (g.R.Replayer.comes_to c.args.replayer.now) r.turns.items r.version (vec_len r.conns) r.conns.items c.in_ok-reports.reports.items c.deref.result.now c.requires.reportable r.conns.ok.0 c.deref.ensures.value c.in_ok-reports.ensures

pub returns : goal.returns
returns g c =
    let r = c.args.recorded.now in
    report_by (g.R.Replayer.comes_to c.args.replayer.now) (meaning_of r) c.in_ok-reports.reports.items c.deref.result.now c.write_reports-text.result c.in_ok-reports.ensures c.deref.ensures.value c.write_reports-text.ensures
