use Rattle.session_core.proofs.MeaningLaws.Bounds.{session_size}
use Rattle.session_core.proofs.meaning_laws.laws.text_bound.Goals as goal

pub returns : goal.returns
returns g c = λ cfg client servers out b s. session_size (g.C.Means.meaning cfg) client servers out b s
