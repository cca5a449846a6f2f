-- What a session leaves of a net and of its client's link.
use Rattle.std.specs.Prelude.{◌≡◌, ℕ, List, ◌++◌, Option, Some}
use Rattle.px_link.specs.Net.{Place, Coming, Kept, NetSeen}
use Rattle.htx_drive.specs.Dialled.{Dialled}

-- Each link that was lent was given back. Connects went to one address alone, and their links stand behind those that were kept.
pub record Visits (to : Place) (first now : NetSeen) : Type 0 where
  pub lent : now.lent ≡ first.lent
  pub plain : now.plain ≡ first.plain
  pub accepts : now.accepts ≡ first.accepts
  pub bound : now.bound ≡ first.bound
  pub binds : now.bind_faults ≡ first.bind_faults
  pub dialled : Dialled first.dialled now.dialled to
  pub told : (answers : List (Option Coming)) (kept : List Kept) → first.answers ≡ Some answers → first.kept ≡ Some kept
      → (left : List (Option Coming)) × (servers : List Kept) × (now.answers ≡ Some left) × (now.kept ≡ Some (kept ++ servers))

-- something was put behind what was written
abbrev pub Puts : (old new : List ℕ → Type 0) → Type 0
Puts old new = (put : List ℕ) × ((bytes : List ℕ) → old bytes → new (bytes ++ put))

-- nothing but connections was served: the addresses of binds stay, connects went to one address, no link is lent
pub record Leaves (to : Place) (first now : NetSeen) : Type 0 where
  pub lent : now.lent ≡ first.lent
  pub plain : now.plain ≡ first.plain
  pub bound : now.bound ≡ first.bound
  pub dialled : Dialled first.dialled now.dialled to
