-- Pieces, values and their offsets.
use Rattle.std.proofs.Common.{◌≡◌, ◌≢◌, ℕ, suc, ◌+◌, ◌-◌, ◌≤◌, Bool, true, false, cond, List, [], ◌∷◌, ◌++◌, length, take, drop, map, refl, sym, ap, ◌∙◌, arith}
use Rattle.std.proofs.lemmas.Bool.{eqb-true}
use Rattle.std.proofs.lemmas.List.{map-append, append-nil, length-append, length-drop, length-take-le, drop-drop, drop-append-le, take-append-le}
use Rattle.std.proofs.lemmas.List.Elements.{All-cons}
use Rattle.std.proofs.lemmas.List.Sums.{prefix_len-le-length}
use Rattle.std.proofs.Math.Seq.{drop-append-add}
use Rattle.std.specs.Prelude.{All}
use Rattle.std.specs.List.{join_with_byte, onto_first, prefix_len, suffix_len}
use Rattle.px_bytes.specs.declared.pieces.Place.{Place}
use Rattle.px_bytes.specs.declared.pieces.Place.TheVariants.{Outside, Quoted, Escaped}
use Rattle.px_bytes.specs.Blanks.{is_blank, trimmed}
use Rattle.px_bytes.specs.Values.{next_place, separates, pieces_from, pieces_of, values_of, placed_from, value_at, place_behind, IsClosed, LiesIn}
use Rattle.px_bytes.proofs.PieceLemmas.{in_front, in_front-nil}

-- the values with their offsets are the values
pub map-placed_from : (at : ℕ) (pieces : List (List ℕ)) → map value_at (placed_from at pieces) ≡ map trimmed pieces
map-placed_from at [] = refl
map-placed_from at (p ∷ ps) = ap (λ vs. trimmed p ∷ vs) (map-placed_from (at + length p + 1) ps)

pub length-placed_from : (at : ℕ) (pieces : List (List ℕ)) → length (placed_from at pieces) ≡ length pieces
length-placed_from at [] = refl
length-placed_from at (p ∷ ps) = ap (λ n. suc n) (length-placed_from (at + length p + 1) ps)

-- there are at most as many pieces as bytes, and one more
pub length-pieces_from : (place : Place) (bytes : List ℕ) → length (pieces_from place bytes) ≤ length bytes + 1
length-pieces_from place [] = omega arith
length-pieces_from place (b ∷ bytes) = by_test (separates place b) (pieces_from Outside bytes) (pieces_from (next_place place b) bytes) (length bytes) (length-pieces_from Outside bytes) (length-pieces_from (next_place place b) bytes)
  where
    onto : (b : ℕ) (qs : List (List ℕ)) (n : ℕ) → length qs ≤ n + 1 → length (onto_first b qs) ≤ suc n + 1
    onto b [] n h = omega arith
    onto b (q ∷ qs) n h = omega arith

    by_test : (t : Bool) (ps qs : List (List ℕ)) (n : ℕ) → length ps ≤ n + 1 → length qs ≤ n + 1 → length (cond t ([] ∷ ps) (onto_first b qs)) ≤ suc n + 1
    by_test true ps qs n p q = omega arith
    by_test false ps qs n p q = onto b qs n q

-- there is always a piece
pub some_pieces : (place : Place) (bytes : List ℕ) → 1 ≤ length (pieces_from place bytes)
some_pieces place bytes = by_first (pieces_from place bytes) (in_front-nil place bytes)
  where
    by_first : (ps : List (List ℕ)) → ps ≡ in_front [] ps → 1 ≤ length ps
    by_first [] e = cc
    by_first (p ∷ ps) e = omega arith

-- ---- the pieces join to the field again

join-onto_first : (b : ℕ) (ps : List (List ℕ)) → join_with_byte 44 (onto_first b ps) ≡ b ∷ join_with_byte 44 ps
join-onto_first b [] = refl
join-onto_first b (p ∷ []) = refl
join-onto_first b (p ∷ q ∷ ps) = refl

-- only a comma separates, and it leaves the place outside of quotes
comma_separates : (place : Place) (b : ℕ) → separates place b ≡ true → (b ≡ 44) × (next_place place b ≡ Outside)
comma_separates Outside b h = let is : b ≡ 44 = eqb-true b 44 h in (is, ap (λ c. next_place Outside c) is)
comma_separates Quoted b h = cc
comma_separates Escaped b h = cc

pub join-pieces_from : (place : Place) (bytes : List ℕ) → join_with_byte 44 (pieces_from place bytes) ≡ bytes
join-pieces_from place [] = refl
join-pieces_from place (b ∷ bytes) =
    by_test (separates place b) (pieces_from Outside bytes) (pieces_from (next_place place b) bytes) (λ h. (comma_separates place b h).0) (in_front-nil Outside bytes) (join-pieces_from Outside bytes) (join-pieces_from (next_place place b) bytes)
  where
    by_test : (t : Bool) (ps qs : List (List ℕ)) → (t ≡ true → b ≡ 44) → ps ≡ in_front [] ps → join_with_byte 44 ps ≡ bytes → join_with_byte 44 qs ≡ bytes → join_with_byte 44 (cond t ([] ∷ ps) (onto_first b qs)) ≡ b ∷ bytes
    by_test true [] qs comma some p q = cc
    by_test true (x ∷ ps) qs comma some p q = ap (λ l. 44 ∷ l) p ∙ ap (λ c. c ∷ bytes) (sym (comma refl))
    by_test false ps qs comma some p q = join-onto_first b qs ∙ ap (λ l. b ∷ l) q

-- ---- a field without a comma

pub one_piece : (place : Place) (bytes : List ℕ) → All (λ b. b ≢ 44) bytes → pieces_from place bytes ≡ bytes ∷ []
one_piece place [] h = refl
one_piece place (b ∷ bytes) h =
    by_test (separates place b) (pieces_from Outside bytes) (pieces_from (next_place place b) bytes) (λ t. (comma_separates place b t).0) (h 0 0 (omega arith)) (one_piece (next_place place b) bytes (λ k d lt. h (suc k) d (omega arith)))
  where
    by_test : (t : Bool) (ps qs : List (List ℕ)) → (t ≡ true → b ≡ 44) → b ≢ 44 → qs ≡ bytes ∷ [] → cond t ([] ∷ ps) (onto_first b qs) ≡ (b ∷ bytes) ∷ []
    by_test true ps qs comma other q = absurd (other (comma refl))
    by_test false ps qs comma other q = ap (λ l. onto_first b l) q

-- ---- two fields joined by a comma

onto_first-append : (b : ℕ) (ps qs : List (List ℕ)) → ps ≡ in_front [] ps → onto_first b (ps ++ qs) ≡ onto_first b ps ++ qs
onto_first-append b [] qs some = cc
onto_first-append b (p ∷ ps) qs some = refl

pub pieces_from-append : (place : Place) (first second : List ℕ) → place_behind place first ≡ Outside → pieces_from place (first ++ 44 ∷ second) ≡ pieces_from place first ++ pieces_from Outside second
pieces_from-append place [] second closed = ap (λ p. pieces_from p (44 ∷ second)) closed
pieces_from-append place (b ∷ first) second closed =
    by_test (separates place b) (λ h. pieces_from-append Outside first second (ap (λ p. place_behind p first) (sym (comma_separates place b h).1) ∙ closed)) (pieces_from-append (next_place place b) first second closed)
  where
    by_test : (t : Bool) → (t ≡ true → pieces_from Outside (first ++ 44 ∷ second) ≡ pieces_from Outside first ++ pieces_from Outside second) → pieces_from (next_place place b) (first ++ 44 ∷ second) ≡ pieces_from (next_place place b) first ++ pieces_from Outside second
        → cond t ([] ∷ pieces_from Outside (first ++ 44 ∷ second)) (onto_first b (pieces_from (next_place place b) (first ++ 44 ∷ second))) ≡ cond t ([] ∷ pieces_from Outside first) (onto_first b (pieces_from (next_place place b) first)) ++ pieces_from Outside second
    by_test true p q = ap (λ l. [] ∷ l) (p refl)
    by_test false p q = ap (λ l. onto_first b l) q ∙ onto_first-append b (pieces_from (next_place place b) first) (pieces_from Outside second) (in_front-nil (next_place place b) first)

pub values_of-append : (first second : List ℕ) → IsClosed first → values_of (first ++ 44 ∷ second) ≡ values_of first ++ values_of second
values_of-append first second closed = ap (λ ps. map trimmed ps) (pieces_from-append Outside first second closed) ∙ map-append trimmed (pieces_of first) (pieces_of second)

-- ---- where the values lie

-- the value of a piece that lies at this offset
lies : (field : List ℕ) (at : ℕ) (p rest : List ℕ) → at ≤ length field → drop at field ≡ p ++ rest → LiesIn field (at + prefix_len is_blank p, trimmed p)
lies field at p rest within is = record { within = room; reads = read }
  where
    front : ℕ
    front = prefix_len is_blank p

    q : List ℕ
    q = drop front p

    m : ℕ
    m = length q - suffix_len is_blank q

    front_within : front ≤ length p
    front_within = prefix_len-le-length is_blank p

    long : length p + length rest + at ≡ length field
    long = omega (arith, ap length is, length-append p rest, length-drop at field)

    some : length (take m q) ≡ m
    some = length-take-le m q (omega arith)

    room : at + front + length (take m q) ≤ length field
    room = omega (arith, length-drop front p, some, long, front_within)

    behind : drop (at + front) field ≡ q ++ rest
    behind = sym (drop-drop front at field) ∙ ap (λ l. drop front l) is ∙ drop-append-le front p rest front_within

    size : at + front + length (take m q) - (at + front) ≡ m
    size = omega (arith, some)

    read : take (at + front + length (take m q) - (at + front)) (drop (at + front) field) ≡ take m q
    read = ap (λ k. take k (drop (at + front) field)) size ∙ ap (λ l. take m l) behind ∙ take-append-le m q rest (omega arith)

pub all_lie : (field : List ℕ) (at : ℕ) (ps : List (List ℕ)) → at ≤ length field → join_with_byte 44 ps ≡ drop at field → All (LiesIn field) (placed_from at ps)
all_lie field at [] within is = λ k d lt. absurd (omega arith)
all_lie field at (p ∷ []) within is =
    All-cons (LiesIn field) (at + prefix_len is_blank p, trimmed p) [] (lies field at p [] within (sym is ∙ sym (append-nil p))) (λ k d lt. absurd (omega arith))
all_lie field at (p ∷ r ∷ ps) within is =
    All-cons (LiesIn field) (at + prefix_len is_blank p, trimmed p) (placed_from (at + length p + 1) (r ∷ ps)) (lies field at p (44 ∷ join_with_byte 44 (r ∷ ps)) within (sym is))
    (all_lie field (at + length p + 1) (r ∷ ps) next_within next)
  where
    others : List ℕ
    others = join_with_byte 44 (r ∷ ps)

    next_within : at + length p + 1 ≤ length field
    next_within = omega (arith, ap length is, length-append p (44 ∷ others), length-drop at field)

    place : at + (length p + 1) ≡ at + length p + 1
    place = omega arith

    next : others ≡ drop (at + length p + 1) field
    next = sym (drop-append-add p (44 ∷ others) 1) ∙ ap (λ l. drop (length p + 1) l) is ∙ drop-drop (length p + 1) at field ∙ ap (λ k. drop k field) place
