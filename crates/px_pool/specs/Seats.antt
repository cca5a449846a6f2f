-- Connections and their cores.
use Rattle.std.specs.Prelude.{◌≡◌, ℕ, ◌+◌, false, if◌then◌else◌, List, [], ◌∷◌, ◌++◌, length, Option, Some, None, ⊤, slice_set}
use Rattle.px_pool.specs.Owners.{is_of, has_one, place_of, count_out}

-- for each core, in one order, who has it; and the cores
pub record Seats (C : Type 0) : Type 0 where
  pub owners : List (Option ℕ)
  pub cores : List C

-- the core that a connection has
abbrev pub core_in : {C : Type 0} → ℕ → List (Option ℕ) → List C → Option C
core_in conn [] cores = None
core_in conn (owner ∷ owners) [] = None
core_in conn (owner ∷ owners) (core ∷ cores) = if is_of conn owner then Some core else core_in conn owners cores

abbrev pub core_of : {C : Type 0} → ℕ → Seats C → Option C
core_of conn pool = core_in conn pool.owners pool.cores

-- each connection has one core at most
abbrev pub IsAlone : Option ℕ → List (Option ℕ) → Type 0
IsAlone None owners = ⊤
IsAlone (Some conn) owners = has_one conn owners ≡ false

abbrev pub AreApart : List (Option ℕ) → Type 0
AreApart [] = ⊤
AreApart (owner ∷ owners) = IsAlone owner owners × AreApart owners

-- each core has its owner or none
pub record IsShared (owners : List (Option ℕ)) (count : ℕ) : Type 0 where
  pub same : length owners ≡ count
  pub apart : AreApart owners

-- the cores that nobody has
abbrev pub free_in : {C : Type 0} → List (Option ℕ) → List C → List C
free_in [] cores = []
free_in (owner ∷ owners) [] = []
free_in (None ∷ owners) (core ∷ cores) = core ∷ free_in owners cores
free_in (Some conn ∷ owners) (core ∷ cores) = free_in owners cores

abbrev pub free_of : {C : Type 0} → Seats C → List C
free_of pool = free_in pool.owners pool.cores

-- how many cores there are, free or out
abbrev pub count_sets : {C : Type 0} → Seats C → ℕ
count_sets pool = length (free_of pool) + count_out pool.owners

abbrev pub first_of : {C : Type 0} → List C → Option C
first_of [] = None
first_of (core ∷ cores) = Some core

abbrev pub rest_of : {C : Type 0} → List C → List C
rest_of [] = []
rest_of (core ∷ cores) = cores

-- the core that the connection has is this one
abbrev pub with_core : {C : Type 0} → ℕ → Seats C → C → Seats C
with_core conn pool core = record pool { cores = slice_set pool.cores (place_of conn pool.owners) core }

-- one core stands among the others
pub record Inserted {C : Type 0} (core : Option C) (old new : List C) : Type 0 where
  pub one : C
  pub is : core ≡ Some one
  pub before : List C
  pub behind : List C
  pub was : old ≡ before ++ behind
  pub has : new ≡ before ++ one ∷ behind
