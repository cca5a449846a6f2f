use Rattle.px_bytes.proofs.DigitLemmas.{decimal_back}
use Rattle.px_bytes.proofs.laws.decimal_read_back.Goals as goal

pub returns : goal.returns
returns c = decimal_back
