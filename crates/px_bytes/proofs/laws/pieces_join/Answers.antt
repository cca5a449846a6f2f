use Rattle.px_bytes.specs.declared.pieces.Place.TheVariants.{Outside}
use Rattle.px_bytes.proofs.ValueLemmas.{join-pieces_from}
use Rattle.px_bytes.proofs.laws.pieces_join.Goals as goal

pub returns : goal.returns
returns c = λ bytes. join-pieces_from Outside bytes
