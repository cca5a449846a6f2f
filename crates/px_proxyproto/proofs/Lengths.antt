-- The length of a block, of more bytes.
use Rattle.std.proofs.Common.{◌≡◌, ℕ, ◌≤◌, List, ◌++◌, length, take, drop, ap, ◌∙◌, arith}
use Rattle.std.specs.Int.{w16, from_be_bytes}
use Rattle.std.proofs.lemmas.List.{take-append-le, drop-append-le, length-drop}
use Rattle.px_proxyproto.specs.Binary.{block_len}

pub more_len : (bytes rest : List ℕ) → 16 ≤ length bytes → block_len (bytes ++ rest) ≡ block_len bytes
more_len bytes rest long =
    ap (λ (t : List ℕ). from_be_bytes w16 (take 2 t)) (drop-append-le 14 bytes rest (omega (arith, long)))
    ∙ ap (from_be_bytes w16) (take-append-le 2 (drop 14 bytes) rest (omega (arith, length-drop 14 bytes, long)))
