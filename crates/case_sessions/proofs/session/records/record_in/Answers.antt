use Rattle.rec_format.specs.Read.{meaning_of}
use Rattle.case_sessions.proofs.session.records.record_in.Goals as goal

pub returns-in-Ok : goal.returns-in-Ok
returns-in-Ok c = record { numbered = c.numbered.ensures c.args.text.now (meaning_of c.in-Ok.record) c.in-Ok.ensures.read }
