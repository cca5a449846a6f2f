use Rattle.px_bytes.specs.declared.pieces.Place.TheVariants.{Outside}
use Rattle.px_bytes.proofs.PieceLemmas.{in_front-nil}
use Rattle.px_bytes.proofs.pieces.piece_len.Goals as goal

pub loop-i-init : goal.loop-i-init
loop-i-init c = in_front-nil Outside c.args.bytes.now
