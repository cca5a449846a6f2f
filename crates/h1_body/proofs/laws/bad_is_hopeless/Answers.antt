use Rattle.h1_body.proofs.Chunks as lemmas
use Rattle.h1_body.proofs.laws.bad_is_hopeless.Goals as goal

pub returns : goal.returns
returns c = lemmas.bad_hopeless
