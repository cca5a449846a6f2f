-- Headers of both versions, and what is known of bytes that may become one.
use Rattle.std.specs.Prelude.{◌≡◌, ℕ, ◌≤◌, ◌<◌, ◌⊎◌, true, false, List, ◌++◌, length, Option}
use Rattle.px_peer.specs.declared.Pair.{Pair}
use Rattle.px_proxyproto.specs.Binary.{IsBinary, is_signed}
use Rattle.px_proxyproto.specs.Lines.{IsText}

-- the bytes are a header, and its pair
abbrev pub IsHeader : (bytes : List ℕ) → Option Pair → Type 0
IsHeader bytes pair = IsText bytes pair ⊎ IsBinary bytes pair

-- no header begins so
abbrev pub NoHeader : List ℕ → Type 0
NoHeader bytes = (rest : List ℕ) (pair : Option Pair) → ¬ (IsHeader (bytes ++ rest) pair)

-- no front of the bytes is a header, nor are they
abbrev pub NoneYet : List ℕ → Type 0
NoneYet bytes = (front rest : List ℕ) (pair : Option Pair) → bytes ≡ front ++ rest → ¬ (IsHeader front pair)

-- each header that begins so has as many bytes more
abbrev pub Lacks : (bytes : List ℕ) → (least : ℕ) → Type 0
Lacks bytes least = (rest : List ℕ) (pair : Option Pair) → IsHeader (bytes ++ rest) pair → least ≤ length rest

-- What is said of a front that isn't given up: no header ends in it; it is below 107 bytes without the signature; with it, and with the
-- length, there is a header that begins so.
pub record MayStill (bytes : List ℕ) : Type 0 where
  pub none_yet : NoneYet bytes
  pub text : is_signed bytes ≡ false → length bytes < 107
  pub binary : is_signed bytes ≡ true → 16 ≤ length bytes → (rest : List ℕ) × (pair : Option Pair) × IsHeader (bytes ++ rest) pair
