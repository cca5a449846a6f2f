use Rattle.std.proofs.Common.{arith}
use Rattle.px_bytes.specs.declared.pieces.Place.TheVariants.{Outside}
use Rattle.px_bytes.specs.Values.{pieces_of}
use Rattle.px_bytes.proofs.ValueLemmas.{map-placed_from, length-placed_from, length-pieces_from, join-pieces_from, all_lie}
use Rattle.px_bytes.proofs.pieces.value_indices.Goals as goal

pub returns-clause-values : goal.returns-clause-values
returns-clause-values c = map-placed_from 0 (pieces_of c.args.bytes.now)

pub returns-clause-few : goal.returns-clause-few
returns-clause-few c = omega (arith, length-placed_from 0 (pieces_of c.args.bytes.now), length-pieces_from Outside c.args.bytes.now)

pub returns-clause-lie : goal.returns-clause-lie
returns-clause-lie c = all_lie c.args.bytes.now 0 (pieces_of c.args.bytes.now) (omega arith) (join-pieces_from Outside c.args.bytes.now)
