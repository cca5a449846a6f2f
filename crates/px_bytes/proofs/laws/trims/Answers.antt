use Rattle.px_bytes.proofs.BlankLemmas as blanks
use Rattle.px_bytes.proofs.laws.trims.Goals as goal

pub returns : goal.returns
returns c = blanks.trims
