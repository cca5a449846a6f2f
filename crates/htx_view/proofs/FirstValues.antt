-- The first header of a name, by the list of headers.
use Rattle.std.proofs.Common.{◌≡◌, ℕ, ◌+◌, List, [], ◌∷◌, cond, Option, Some, None, refl, ap}
use Rattle.htx_model.specs.Block.{Block, RequestLine, ResponseLine, Header, EndHeaders, Data, Trailer, EndTrailers}
use Rattle.http_model.specs.Fields.{same_name}
use Rattle.htx_arena.specs.Fields.{fields_from, fields_of}
use Rattle.htx_view.specs.Values.{first_of}

-- the value of the first of these fields with the name
abbrev pub first_in : List ℕ → List (ℕ × List ℕ × List ℕ) → Option (List ℕ)
first_in name [] = None
first_in name (f ∷ fs) = cond (same_name f.1 name) (Some f.2) (first_in name fs)

first_from : (name : List ℕ) (i : ℕ) (bs : List Block) → first_in name (fields_from i bs) ≡ first_of name bs
first_from name i [] = refl
first_from name i (Header n v ∷ bs) = ap (λ t. cond (same_name n name) (Some v) t) (first_from name (i + 1) bs)
first_from name i (RequestLine a b c ∷ bs) = first_from name (i + 1) bs
first_from name i (ResponseLine a b c ∷ bs) = first_from name (i + 1) bs
first_from name i (EndHeaders ∷ bs) = first_from name (i + 1) bs
first_from name i (Data p ∷ bs) = first_from name (i + 1) bs
first_from name i (Trailer n v ∷ bs) = first_from name (i + 1) bs
first_from name i (EndTrailers ∷ bs) = first_from name (i + 1) bs

pub first-fields_of : (name : List ℕ) (bs : List Block) → first_in name (fields_of bs) ≡ first_of name bs
first-fields_of name bs = first_from name 0 bs

pub ruleset firsts = (first-fields_of)
