use Rattle.px_bytes.specs.Values.{pieces_of}
use Rattle.px_bytes.proofs.ValueLemmas.{map-placed_from}
use Rattle.px_bytes.proofs.laws.offsets_beside.Goals as goal

pub returns : goal.returns
returns c = λ bytes. map-placed_from 0 (pieces_of bytes)
