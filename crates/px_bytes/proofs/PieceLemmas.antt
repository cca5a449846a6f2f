-- What was read in front of the first piece of what is left.
use Rattle.std.proofs.Common.{◌≡◌, ℕ, List, [], ◌∷◌, ◌++◌, refl}
use Rattle.std.proofs.Common.{Bool, true, false, cond}
use Rattle.std.specs.List.{onto_first}
use Rattle.px_bytes.specs.declared.pieces.Place.{Place}
use Rattle.px_bytes.specs.declared.pieces.Place.TheVariants.{Outside}
use Rattle.px_bytes.specs.Values.{pieces_from, separates, next_place}

-- the bytes in front of the first of the pieces
abbrev pub in_front : List ℕ → List (List ℕ) → List (List ℕ)
in_front front [] = front ∷ []
in_front front (piece ∷ pieces) = (front ++ piece) ∷ pieces

-- nothing in front changes no pieces, since there is always one
pub in_front-nil : (place : Place) (bytes : List ℕ) → pieces_from place bytes ≡ in_front [] (pieces_from place bytes)
in_front-nil place [] = refl
in_front-nil place (b ∷ bytes) = by_test (separates place b) (pieces_from Outside bytes) (pieces_from (next_place place b) bytes)
  where
    with_onto : (b : ℕ) (ps : List (List ℕ)) → onto_first b ps ≡ in_front [] (onto_first b ps)
    with_onto b [] = refl
    with_onto b (p ∷ ps) = refl

    by_test : (t : Bool) (ps qs : List (List ℕ)) → cond t ([] ∷ ps) (onto_first b qs) ≡ in_front [] (cond t ([] ∷ ps) (onto_first b qs))
    by_test true ps qs = refl
    by_test false ps qs = with_onto b qs
