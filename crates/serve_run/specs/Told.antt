-- What `serve` did with the links of a net that tells them.
use Rattle.std.specs.Prelude.{◌≡◌, ℕ, List, [], ◌∷◌, ◌++◌, length, map, Some}
use Rattle.std.specs.List.{flat_map}
use Rattle.px_link.specs.Net.{Coming, Kept, NetSeen}

-- a connection: the link that was to come, those of its servers, and its client's, as they were kept
pub record Visit : Type 0 where
  pub coming : Coming
  pub servers : List Kept
  pub client : Kept

abbrev pub kept_of : Visit → List Kept
kept_of visit = visit.servers ++ visit.client ∷ []

-- So many of the links that were to come were accepted, in order, and each connection's servers and then its client were kept.
pub record Visited (now : NetSeen) (coming : List Coming) (before : List Kept) (count : ℕ) : Type 0 where
  pub visits : List Visit
  pub later : List Coming
  pub all : length visits ≡ count
  pub accepted : coming ≡ map (λ visit. visit.coming) visits ++ later
  pub accepts : now.accepts ≡ Some later
  pub kept : now.kept ≡ Some (before ++ flat_map kept_of visits)
