use Rattle.std.proofs.Common.{arith}
use Rattle.std.proofs.lemmas.List.{length-map}
use Rattle.px_bytes.specs.declared.pieces.Place.TheVariants.{Outside}
use Rattle.px_bytes.specs.Blanks.{trimmed}
use Rattle.px_bytes.specs.Values.{pieces_of}
use Rattle.px_bytes.proofs.ValueLemmas.{some_pieces, length-pieces_from}
use Rattle.px_bytes.proofs.laws.some_values.Goals as goal

pub returns-clause-some : goal.returns-clause-some
returns-clause-some c = λ bytes. omega (arith, length-map (pieces_of bytes) trimmed, some_pieces Outside bytes)

pub returns-clause-few : goal.returns-clause-few
returns-clause-few c = λ bytes. omega (arith, length-map (pieces_of bytes) trimmed, length-pieces_from Outside bytes)
