-- Lists that are given from their front.
use Rattle.std.specs.Prelude.{List, [], ◌∷◌, Option, Some, None}

-- the first, if there is one
abbrev pub first_of : {A : Type 0} → List A → Option A
first_of [] = None
first_of (item ∷ items) = Some item

-- all but the first
abbrev pub rest_of : {A : Type 0} → List A → List A
rest_of [] = []
rest_of (item ∷ items) = items
