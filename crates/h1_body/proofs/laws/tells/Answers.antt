use Rattle.h1_body.proofs.Told as lemmas
use Rattle.h1_body.proofs.laws.tells.Goals as goal

pub returns : goal.returns
returns c = lemmas.told
