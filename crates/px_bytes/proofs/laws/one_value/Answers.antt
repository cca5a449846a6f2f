use Rattle.std.proofs.Common.{ap, map}
use Rattle.px_bytes.specs.declared.pieces.Place.TheVariants.{Outside}
use Rattle.px_bytes.specs.Blanks.{trimmed}
use Rattle.px_bytes.proofs.ValueLemmas.{one_piece}
use Rattle.px_bytes.proofs.laws.one_value.Goals as goal

pub returns : goal.returns
returns c = λ bytes h. ap (λ ps. map trimmed ps) (one_piece Outside bytes h)
