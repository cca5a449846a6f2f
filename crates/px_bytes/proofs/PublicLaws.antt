-- The public laws of digits and pieces.
use Rattle.std.proofs.Common.{ℕ, ◌^◌, ◌<◌, ◌≤◌, false, length, ◌+◌, List}
use Rattle.std.specs.Fmt.{digits}
use Rattle.px_bytes.specs.declared.pieces.Place.{Place}
use Rattle.px_bytes.specs.Values.{pieces_from}
use Rattle.px_bytes.proofs.HexLemmas as hex_lemmas
use Rattle.px_bytes.proofs.ValueLemmas as value_lemmas

-- A number below 16 ^ k has at most k hexadecimal digits.
pub length-hex-le : (k n : ℕ) → 0 < k → n < 16 ^ k → n < 16 ^ 64 → length (digits 16 false n) ≤ k
length-hex-le = hex_lemmas.length-hex-le

-- There are at most as many pieces as bytes, and one more.
pub length-pieces_from : (place : Place) (bytes : List ℕ) → length (pieces_from place bytes) ≤ length bytes + 1
length-pieces_from = value_lemmas.length-pieces_from

-- There is always a piece.
pub some_pieces : (place : Place) (bytes : List ℕ) → 1 ≤ length (pieces_from place bytes)
some_pieces = value_lemmas.some_pieces
