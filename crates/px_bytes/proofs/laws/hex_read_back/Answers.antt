use Rattle.px_bytes.proofs.DigitLemmas.{hex_back}
use Rattle.px_bytes.proofs.laws.hex_read_back.Goals as goal

pub returns : goal.returns
returns c = hex_back
