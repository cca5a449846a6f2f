use Rattle.std.proofs.Common.{◌≡◌, take, drop}
use Rattle.px_bytes.specs.Values.{pieces_from, pieces_of}
use Rattle.px_bytes.proofs.PieceLemmas.{in_front}
use Rattle.px_bytes.proofs.pieces.piece_len.Given as goal

abbrev pub invariant-loop-i : goal.invariant-loop-i
invariant-loop-i l = pieces_of l.bytes ≡ in_front (take l.i l.bytes) (pieces_from l.place (drop l.i l.bytes))
