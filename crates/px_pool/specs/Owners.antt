-- Who has which core.
use Rattle.std.specs.Prelude.{◌≡◌, ◌≢◌, ℕ, suc, ◌+◌, Bool, true, false, nat_eq, if◌then◌else◌, List, [], ◌∷◌, length, Option, Some, None, is_some}
use Rattle.std.specs.List.{list_any, list_all}

-- this connection has the core
abbrev pub is_of : ℕ → Option ℕ → Bool
is_of conn None = false
is_of conn (Some owner) = nat_eq owner conn

-- it has one of them
abbrev pub has_one : ℕ → List (Option ℕ) → Bool
has_one conn owners = list_any (is_of conn) owners

-- somebody has each of them
abbrev pub all_out : List (Option ℕ) → Bool
all_out owners = list_all is_some owners

-- where the core stands that a connection has
abbrev pub place_of : ℕ → List (Option ℕ) → ℕ
place_of conn [] = 0
place_of conn (owner ∷ owners) = if is_of conn owner then 0 else suc (place_of conn owners)

-- where the first stands that nobody has
abbrev pub first_free : List (Option ℕ) → ℕ
first_free [] = 0
first_free (None ∷ owners) = 0
first_free (Some owner ∷ owners) = suc (first_free owners)

-- how many are out
abbrev pub one_out : Option ℕ → ℕ
one_out None = 0
one_out (Some owner) = 1

abbrev pub count_out : List (Option ℕ) → ℕ
count_out [] = 0
count_out (owner ∷ owners) = one_out owner + count_out owners

abbrev pub one_if : Bool → ℕ
one_if true = 1
one_if false = 0

-- only what this connection has changed: there are as many cores, every other connection has one exactly where it had one, and one more is out where it
-- has got one, one less where it has given its own back
pub record SameBeside (conn : ℕ) (old new : List (Option ℕ)) : Type 0 where
  pub sets : length new ≡ length old
  pub others : (other : ℕ) → other ≢ conn → has_one other new ≡ has_one other old
  pub counts : count_out new + one_if (has_one conn old) ≡ count_out old + one_if (has_one conn new)
