use Rattle.std.proofs.Common.{[], refl}
use Rattle.http_model.specs.Reading.{Refused, Begins}
use Rattle.session_core.proofs.MeaningLaws.Decides as decides
use Rattle.session_core.proofs.meaning_laws.laws.stays_decided.Goals as goal

pub returns-clause-refused : goal.returns-clause-refused
returns-clause-refused g c = λ cfg vars bytes code h rest. record { head = Refused code; reads = h rest.bytes; asks = refl }

pub returns-clause-asked : goal.returns-clause-asked
returns-clause-asked g c = λ cfg vars used received h rest. record { head = Begins received rest.bytes; reads = h rest.bytes; asks = refl }

pub returns-clause-answered : goal.returns-clause-answered
returns-clause-answered g c = λ cfg asker vars used received h final rest last answers.
    record { heads = []; interim = decides.interim_none asker; final = (Begins received rest.bytes, h rest.bytes, (final, answers)) }

pub returns-clause-cut_request : goal.returns-clause-cut_request
returns-clause-cut_request g c = λ cfg. decides.cut_request (g.C.Means.meaning cfg)

pub returns-clause-cut_answer : goal.returns-clause-cut_answer
returns-clause-cut_answer g c = λ cfg. decides.cut_answer (g.C.Means.meaning cfg)
