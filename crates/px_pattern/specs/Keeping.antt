-- What contracts see of the builders of this crate.
use Rattle.std.specs.Prelude.{ℕ, ◌+◌, ◌-◌, ◌^◌, min, Option, None, Some}
use Rattle.px_pattern.specs.Refusals.{Kept}
use Rattle.px_pattern.specs.declared.kept.KeptText.{KeptText}

-- how many texts were refused, and the last of them
pub record Builder : Type 0 where
  pub refusals : ℕ
  pub last : Kept

-- the same of a builder that refuses by number: that number, and how many builds there were
pub record NumberedBuilder : Type 0 where
  pub refuse : ℕ
  pub builds : ℕ
  pub refusals : ℕ
  pub last : Kept

-- a text that is kept
abbrev pub kept_of : Option KeptText → Kept
kept_of None = None
kept_of (Some kept) = Some (kept.text.items, kept.icase)

-- the number of the next build, counted from 1; it stays at its last value
abbrev pub next_build : ℕ → ℕ
next_build builds = min (builds + 1) (2 ^ 32 - 1)
