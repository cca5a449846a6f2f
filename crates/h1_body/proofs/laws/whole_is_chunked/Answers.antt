use Rattle.h1_body.proofs.Chunks as lemmas
use Rattle.h1_body.proofs.laws.whole_is_chunked.Goals as goal

pub returns : goal.returns
returns c = lemmas.whole_iff
