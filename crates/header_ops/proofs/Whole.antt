-- The whole values of the headers of a name, by the list of headers.
use Rattle.std.proofs.Common.{◌≡◌, ℕ, ◌+◌, ◌≤◌, List, [], ◌∷◌, Bool, true, false, cond, length, map, filter, refl, ap, sym, ◌∙◌, arith}
use Rattle.http_model.specs.Block.{Block, RequestLine, ResponseLine, Header, EndHeaders, Data, Trailer, EndTrailers, value_of}
use Rattle.http_model.specs.Fields.{same_name}
use Rattle.htx_arena.specs.Fields.{fields_from, fields_of}
use Rattle.header_ops.specs.Headers.{is_header_named}
use Rattle.header_ops.specs.Lists.{fulls_named}

-- the whole values of those of these headers that have the name
abbrev pub fulls_among : List ℕ → List (ℕ × List ℕ × List ℕ) → List (List ℕ)
fulls_among name [] = []
fulls_among name (f ∷ fs) = cond (same_name f.1 name) (f.2 ∷ fulls_among name fs) (fulls_among name fs)

-- one header in front
pub full_one_more : (name n v : List ℕ) (bs : List Block) → fulls_named name (Header n v ∷ bs) ≡ cond (same_name n name) (v ∷ fulls_named name bs) (fulls_named name bs)
full_one_more name n v bs = by_test (same_name n name)
  where
    by_test : (t : Bool) → map value_of (cond t (Header n v ∷ filter (is_header_named name) bs) (filter (is_header_named name) bs)) ≡ cond t (v ∷ fulls_named name bs) (fulls_named name bs)
    by_test true = refl
    by_test false = refl

among_from : (name : List ℕ) (i : ℕ) (bs : List Block) → fulls_among name (fields_from i bs) ≡ fulls_named name bs
among_from name i [] = refl
among_from name i (Header n v ∷ bs) = ap (λ t. cond (same_name n name) (v ∷ t) t) (among_from name (i + 1) bs) ∙ sym (full_one_more name n v bs)
among_from name i (RequestLine a b c ∷ bs) = among_from name (i + 1) bs
among_from name i (ResponseLine a b c ∷ bs) = among_from name (i + 1) bs
among_from name i (EndHeaders ∷ bs) = among_from name (i + 1) bs
among_from name i (Data p ∷ bs) = among_from name (i + 1) bs
among_from name i (Trailer n v ∷ bs) = among_from name (i + 1) bs
among_from name i (EndTrailers ∷ bs) = among_from name (i + 1) bs

pub fulls-fields_of : (name : List ℕ) (bs : List Block) → fulls_among name (fields_of bs) ≡ fulls_named name bs
fulls-fields_of name bs = among_from name 0 bs

-- there are at most as many as there are blocks
pub few_fulls : (name : List ℕ) (bs : List Block) → length (fulls_named name bs) ≤ length bs
few_fulls name [] = omega arith
few_fulls name (Header n v ∷ bs) = rw (full_one_more name n v bs) (by_test (same_name n name) (few_fulls name bs))
  where
    by_test : (t : Bool) → length (fulls_named name bs) ≤ length bs → length (cond t (v ∷ fulls_named name bs) (fulls_named name bs)) ≤ length (Header n v ∷ bs)
    by_test true few = omega (arith, few)
    by_test false few = omega (arith, few)
few_fulls name (RequestLine a b c ∷ bs) = omega (arith, few_fulls name bs)
few_fulls name (ResponseLine a b c ∷ bs) = omega (arith, few_fulls name bs)
few_fulls name (EndHeaders ∷ bs) = omega (arith, few_fulls name bs)
few_fulls name (Data p ∷ bs) = omega (arith, few_fulls name bs)
few_fulls name (Trailer n v ∷ bs) = omega (arith, few_fulls name bs)
few_fulls name (EndTrailers ∷ bs) = omega (arith, few_fulls name bs)

-- one header of the name, and those behind it
pub fulls_here : (name : List ℕ) (f : ℕ × List ℕ × List ℕ) (fs : List (ℕ × List ℕ × List ℕ)) → same_name f.1 name ≡ true → length (fulls_among name (f ∷ fs)) ≡ length (fulls_among name fs) + 1
fulls_here name f fs same = ap (λ (t : Bool). length (cond t (f.2 ∷ fulls_among name fs) (fulls_among name fs))) same ∙ omega arith

pub ruleset fulls = (fulls-fields_of, few_fulls)
