use Rattle.std.proofs.Common.{ap, ◌∙◌}
use Rattle.px_run.specs.Log.{entry_of, TellsOf}
use Rattle.px_run.proofs.Logs.{logs_one}
use Rattle.px_run.proofs.log.tell_now.Goals as goal

pub returns-in-Ok-clause-logs : goal.returns-in-Ok-clause-logs
returns-in-Ok-clause-logs g c =
    let same = c.waiting-waits.ensures.same in
    let told = c.told_of-told.ensures in
    let p = c.in-Ok.ensures.put in
    logs_one c.args.log.now.logs c.args.log.now.connection (TellsOf (g.C.Machine.seen c.args.core.now)) c.put.new.log.logs c.put.new.log.connection c.args.log.now.text.items c.put.new.log.text.items
    (entry_of c.told_of-told.result p.0 c.request_line-words.result.now) c.requires.asked told.connection
    (record {
      exchange = told.exchange ∙ ap (λ (core : g.row.C.Denot). (g.C.Machine.seen core).exchanges) same;
      words = c.request_line-words.ensures ∙ ap (λ (core : g.row.C.Denot). (g.C.Machine.seen core).line) same;
      status = told.status ∙ ap (λ (core : g.row.C.Denot). (g.C.Machine.seen core).status) same;
    })
    c.put.ensures.logs c.put.ensures.connection p.1
