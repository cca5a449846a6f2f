-- Version 1: one line of text.
use Rattle.std.specs.Prelude.{◌≡◌, ◌≢◌, ℕ, ◌≤◌, ◌⊎◌, Bool, true, false, List, [], ◌∷◌, ◌++◌, length, All, codes, take, Option, Some, None}
use Rattle.px_peer.specs.declared.Pair.{Pair}
use Rattle.px_proxyproto.specs.Addresses.{IsAddress, IsPort}

-- neither CR nor LF
abbrev pub IsInLine : ℕ → Type 0
IsInLine b = (b ≢ 13) × (b ≢ 10)

abbrev pub line_end : List ℕ
line_end = 13 ∷ 10 ∷ []

-- the first byte is CR or LF
abbrev pub LeavesLine : List ℕ → Type 0
LeavesLine [] = ⊥
LeavesLine (b ∷ rest) = (b ≡ 13) ⊎ (b ≡ 10)

-- each of both is a front of the other, or they are one
abbrev pub Agrees : (bytes word : List ℕ) → Type 0
Agrees bytes word = take (length word) bytes ≡ take (length bytes) word

-- no space
abbrev pub IsInWord : ℕ → Type 0
IsInWord b = b ≢ 32

-- the words before both addresses
abbrev pub family_word : (v6 : Bool) → List ℕ
family_word true = codes "PROXY TCP6 "
family_word false = codes "PROXY TCP4 "

-- source, destination, and their ports, each a word without a space, with one space between
pub record Words : Type 0 where
  pub src : List ℕ
  pub dst : List ℕ
  pub src_port : List ℕ
  pub dst_port : List ℕ

abbrev pub four_words : (src dst src_port dst_port : List ℕ) → Words
four_words a b c d = record { src = a; dst = b; src_port = c; dst_port = d }

abbrev pub spelled : Words → List ℕ
spelled w = w.src ++ (32 ∷ (w.dst ++ (32 ∷ (w.src_port ++ (32 ∷ w.dst_port)))))

pub record AreWords (text : List ℕ) (w : Words) : Type 0 where
  pub whole : text ≡ spelled w
  pub src : All IsInWord w.src
  pub dst : All IsInWord w.dst
  pub src_port : All IsInWord w.src_port

pub record AreOf (v6 : Bool) (w : Words) (pair : Pair) : Type 0 where
  pub src_family : pair.src.v6 ≡ v6
  pub dst_family : pair.dst.v6 ≡ v6
  pub src : IsAddress v6 w.src pair.src.addr
  pub dst : IsAddress v6 w.dst pair.dst.addr
  pub src_port : IsPort w.src_port pair.src.port
  pub dst_port : IsPort w.dst_port pair.dst.port

-- what follows the family's word writes this pair
abbrev pub IsPairText : (v6 : Bool) → (text : List ℕ) → Pair → Type 0
IsPairText v6 text pair = (w : Words) × AreWords text w × AreOf v6 w pair

-- a line of this family
abbrev pub IsFamilyLine : (v6 : Bool) → (line : List ℕ) → Pair → Type 0
IsFamilyLine v6 line pair = (text : List ℕ) × (line ≡ family_word v6 ++ text) × IsPairText v6 text pair

-- what a line tells: no pair where it begins with PROXY UNKNOWN, whatever follows, and else both addresses
abbrev pub IsLineOf : (line : List ℕ) → Option Pair → Type 0
IsLineOf line None = (rest : List ℕ) × (line ≡ codes "PROXY UNKNOWN" ++ rest)
IsLineOf line (Some pair) = IsFamilyLine false line pair ⊎ IsFamilyLine true line pair

-- the bytes are a header of version 1 with this pair: at most 107 bytes with CR LF
pub record IsText (bytes : List ℕ) (pair : Option Pair) : Type 0 where
  pub line : List ℕ
  pub ends : bytes ≡ line ++ line_end
  pub inside : All IsInLine line
  pub len : length bytes ≤ 107
  pub tells : IsLineOf line pair

-- no line begins so
abbrev pub NoText : List ℕ → Type 0
NoText bytes = (rest : List ℕ) (pair : Option Pair) → ¬ (IsText (bytes ++ rest) pair)
