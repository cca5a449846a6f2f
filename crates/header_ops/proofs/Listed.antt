-- The values of the headers of a name, by the list of headers.
use Rattle.std.proofs.Common.{◌≡◌, ℕ, zero, suc, ◌+◌, ◌≤◌, List, [], ◌∷◌, ◌++◌, Bool, true, false, cond, length, map, filter, Option, Some, None, slice_get, refl, ap, sym, ◌∙◌, arith}
use Rattle.std.proofs.lemmas.List.{length-append, length-map}
use Rattle.std.proofs.lemmas.List.Sums.{sum_by-cons}
use Rattle.http_model.specs.Block.{Block, RequestLine, ResponseLine, Header, EndHeaders, Data, Trailer, EndTrailers, weight, value_of}
use Rattle.http_model.specs.Blocks.{load}
use Rattle.http_model.specs.Fields.{same_name}
use Rattle.htx_arena.specs.Fields.{fields_from, fields_of}
use Rattle.px_bytes.specs.declared.pieces.Place.TheVariants.{Outside}
use Rattle.px_bytes.specs.Blanks.{trimmed}
use Rattle.px_bytes.specs.Values.{pieces_of, values_of, values_in}
use Rattle.px_bytes.proofs.PublicLaws.{length-pieces_from}
use Rattle.header_ops.specs.Headers.{is_header_named}
use Rattle.header_ops.specs.Lists.{values_named}

-- the values of those of these headers that have the name
abbrev pub values_among : List ℕ → List (ℕ × List ℕ × List ℕ) → List (List ℕ)
values_among name [] = []
values_among name (f ∷ fs) = cond (same_name f.1 name) (values_of f.2 ++ values_among name fs) (values_among name fs)

-- those of a header of the name, and those behind it
pub among_here : (name : List ℕ) (f : ℕ × List ℕ × List ℕ) (fs : List (ℕ × List ℕ × List ℕ)) → same_name f.1 name ≡ true
    → length (values_among name (f ∷ fs)) ≡ length (values_of f.2) + length (values_among name fs)
among_here name f fs same =
    ap (λ (t : Bool). length (cond t (values_of f.2 ++ values_among name fs) (values_among name fs))) same
    ∙ length-append (values_of f.2) (values_among name fs)

-- one header in front
pub one_more : (name n v : List ℕ) (bs : List Block) → values_named name (Header n v ∷ bs) ≡ cond (same_name n name) (values_of v ++ values_named name bs) (values_named name bs)
one_more name n v bs = by_test (same_name n name)
  where
    by_test : (t : Bool) → values_in (map value_of (cond t (Header n v ∷ filter (is_header_named name) bs) (filter (is_header_named name) bs))) ≡ cond t (values_of v ++ values_named name bs) (values_named name bs)
    by_test true = refl
    by_test false = refl

among_from : (name : List ℕ) (i : ℕ) (bs : List Block) → values_among name (fields_from i bs) ≡ values_named name bs
among_from name i [] = refl
among_from name i (Header n v ∷ bs) =
    ap (λ t. cond (same_name n name) (values_of v ++ t) t) (among_from name (i + 1) bs) ∙ sym (one_more name n v bs)
among_from name i (RequestLine a b c ∷ bs) = among_from name (i + 1) bs
among_from name i (ResponseLine a b c ∷ bs) = among_from name (i + 1) bs
among_from name i (EndHeaders ∷ bs) = among_from name (i + 1) bs
among_from name i (Data p ∷ bs) = among_from name (i + 1) bs
among_from name i (Trailer n v ∷ bs) = among_from name (i + 1) bs
among_from name i (EndTrailers ∷ bs) = among_from name (i + 1) bs

pub among-fields_of : (name : List ℕ) (bs : List Block) → values_among name (fields_of bs) ≡ values_named name bs
among-fields_of name bs = among_from name 0 bs

-- there are fewer values than bytes in the blocks
pub few_values : (name : List ℕ) (bs : List Block) → length (values_named name bs) ≤ load bs
few_values name [] = omega arith
few_values name (Header n v ∷ bs) =
    rw (one_more name n v bs) (by_test (same_name n name) (few_values name bs))
  where
    by_test : (t : Bool) → length (values_named name bs) ≤ load bs → length (cond t (values_of v ++ values_named name bs) (values_named name bs)) ≤ load (Header n v ∷ bs)
    by_test true few =
        omega (arith, few, sum_by-cons weight (Header n v) bs, length-append (values_of v) (values_named name bs), length-map (pieces_of v) trimmed, length-pieces_from Outside v)
    by_test false few = omega (arith, few, sum_by-cons weight (Header n v) bs)
few_values name (RequestLine a b c ∷ bs) = omega (arith, few_values name bs, sum_by-cons weight (RequestLine a b c) bs)
few_values name (ResponseLine a b c ∷ bs) = omega (arith, few_values name bs, sum_by-cons weight (ResponseLine a b c) bs)
few_values name (EndHeaders ∷ bs) = omega (arith, few_values name bs, sum_by-cons weight EndHeaders bs)
few_values name (Data p ∷ bs) = omega (arith, few_values name bs, sum_by-cons weight (Data p) bs)
few_values name (Trailer n v ∷ bs) = omega (arith, few_values name bs, sum_by-cons weight (Trailer n v) bs)
few_values name (EndTrailers ∷ bs) = omega (arith, few_values name bs, sum_by-cons weight EndTrailers bs)

-- a value of the first list is one of both
pub got_first : (xs ys : List (List ℕ)) (i : ℕ) (x : List ℕ) → slice_get xs i ≡ Some x → slice_get (xs ++ ys) i ≡ Some x
got_first [] ys i x h = cc
got_first (y ∷ xs) ys zero x h = h
got_first (y ∷ xs) ys (suc i) x h = got_first xs ys i x h

-- behind the first list
pub got_second : (xs ys : List (List ℕ)) (i n : ℕ) → i + length xs ≡ n → slice_get (xs ++ ys) n ≡ slice_get ys i
got_second [] ys i n h = let e : n ≡ i = omega arith in ap (slice_get ys) e
got_second (x ∷ xs) ys i zero h = absurd (omega arith)
got_second (x ∷ xs) ys i (suc n) h = got_second xs ys i n (omega arith)

pub ruleset listed = (among-fields_of, few_values, length-append, got_first, got_second)
