-- Which bytes at the end of a text may become a needle.
use Rattle.std.specs.Prelude.{◌≡◌, ℕ, ◌<◌, ◌≤◌, ◌-◌, if◌then◌else◌, List, [], ◌∷◌, length, take, drop, slice_index}
use Rattle.body_filter.specs.Filter.{begins}

-- the longest end of the text with which the needle begins
unfoldable pub kept : List ℕ → List ℕ → List ℕ
kept needle [] = []
kept needle (b ∷ bs) = if begins (b ∷ bs) needle then b ∷ bs else kept needle bs

-- the bytes in front of it
unfoldable pub settled : List ℕ → List ℕ → List ℕ
settled needle [] = []
settled needle (b ∷ bs) = if begins (b ∷ bs) needle then [] else b ∷ settled needle bs

-- of so many bytes of the needle, how many are kept once the first of them is not
abbrev pub border : List ℕ → ℕ → ℕ
border needle k = length (kept needle (drop 1 (take k needle)))

-- the table of borders, as far as `most`
pub record AreBorders (needle borders : List ℕ) (most : ℕ) : Type 0 where
  pub long : most < length borders
  pub each : (k : ℕ) → 0 < k → k ≤ most → slice_index borders k ≡ border needle k

-- a needle of 1 to 256 bytes and its table
pub record IsNeedle (needle borders : List ℕ) : Type 0 where
  pub some : 0 < length needle
  pub few : length needle ≤ 256
  pub table : AreBorders needle borders (length needle - 1)
