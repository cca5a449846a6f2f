-- A parameter of a query.
use Rattle.std.specs.Prelude.{ℕ, Bool, not, ◌||◌, ◌==◌, nat_eq, List, [], ◌∷◌, length, drop, Option, Some, None, if◌then◌else◌}
use Rattle.std.specs.List.{onto_first, starts_with}

-- `&` or `;`
abbrev pub is_parting : ℕ → Bool
is_parting b = b == 38 || b == 59

-- neither of them
abbrev pub is_plain : ℕ → Bool
is_plain b = not (is_parting b)

-- what stands between them
abbrev pub params_of : List ℕ → List (List ℕ)
params_of [] = [] ∷ []
params_of (b ∷ bs) = if is_parting b then [] ∷ params_of bs else onto_first b (params_of bs)

-- what follows the `=` that the text begins with
abbrev pub behind_sign : List ℕ → Option (List ℕ)
behind_sign [] = None
behind_sign (b ∷ bs) = if b == 61 then Some bs else None

-- the value of a part that begins with this name and `=`
abbrev pub value_of_param : List ℕ → List ℕ → Option (List ℕ)
value_of_param name part = if starts_with nat_eq part name then behind_sign (drop (length name) part) else None

-- the first value, where there is one
abbrev pub or_else : Option (List ℕ) → Option (List ℕ) → Option (List ℕ)
or_else None other = other
or_else (Some value) other = Some value

-- the value of the first of these parts that has the name
abbrev pub first_param : List ℕ → List (List ℕ) → Option (List ℕ)
first_param name [] = None
first_param name (part ∷ parts) = or_else (value_of_param name part) (first_param name parts)

-- the value of a parameter: of the first part of the query that begins with its name and `=`
abbrev pub param : List ℕ → List ℕ → Option (List ℕ)
param name query = first_param name (params_of query)
