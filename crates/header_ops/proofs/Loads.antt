-- What headers of a name weigh.
use Rattle.std.proofs.Common.{◌≡◌, ℕ, ◌+◌, ◌≤◌, ◌<◌, List, [], ◌∷◌, ◌++◌, Bool, true, false, cond, not, length, take, refl, sym, ap, ◌∙◌, arith}
use Rattle.std.proofs.lemmas.List.Sums.{sum_by_more, sum_by_more_le, get_or-le-sum_by, sum_by-cons}
use Rattle.std.proofs.lemmas.List.{take_more}
use Rattle.http_model.specs.Block.{Block, RequestLine, ResponseLine, Header, EndHeaders, Data, Trailer, EndTrailers, weight, name_of, value_of}
use Rattle.http_model.specs.Blocks.{load, block_at}
use Rattle.header_ops.specs.Headers.{is_header_named, weight_if_named, without_headers}

-- a header of the name weighs its descriptor, its name and its value
pub weight_named : (name : List ℕ) (b : Block) → is_header_named name b ≡ true → weight b ≡ 8 + length (name_of b) + length (value_of b)
weight_named name (RequestLine x y z) h = cc
weight_named name (ResponseLine x y z) h = cc
weight_named name (Header n v) h = omega arith
weight_named name EndHeaders h = cc
weight_named name (Data p) h = cc
weight_named name (Trailer n v) h = cc
weight_named name EndTrailers h = cc

-- a block is within the load of its list
pub weight_within : (bs : List Block) (i : ℕ) → i < length bs → weight (block_at bs i) ≤ load bs
weight_within bs i h = get_or-le-sum_by weight bs i EndHeaders h

pub ruleset weights = (weight_named, weight_within)

-- one block more, of the name or not
one_more : (name : List ℕ) (b : Block) (bs : List Block) → load (without_headers name (b ∷ bs)) + weight_if_named name b ≡ weight b + load (without_headers name bs)
one_more name b bs = by_test (is_header_named name b)
  where
    by_test : (t : Bool) → load (cond (not t) (b ∷ without_headers name bs) (without_headers name bs)) + cond t (weight b) 0 ≡ weight b + load (without_headers name bs)
    by_test true = omega arith
    by_test false = omega (arith, sum_by-cons weight b (without_headers name bs))

load-without-append : (name : List ℕ) (bs : List Block) (b : Block) → load (without_headers name (bs ++ b ∷ [])) + weight_if_named name b ≡ load (without_headers name bs) + weight b
load-without-append name [] b = one_more name b [] ∙ omega arith
load-without-append name (a ∷ bs) b =
    omega (arith, one_more name a (bs ++ b ∷ []), one_more name a bs, load-without-append name bs b)

-- what the others weigh with one block more
pub load-without-more : (name : List ℕ) (bs : List Block) (i : ℕ) → i < length bs
    → load (without_headers name (take (i + 1) bs)) + weight_if_named name (block_at bs i) ≡ load (without_headers name (take i bs)) + weight (block_at bs i)
load-without-more name bs i h =
    ap (λ (t : List Block). load (without_headers name t) + weight_if_named name (block_at bs i)) (take_more bs i EndHeaders h)
    ∙ load-without-append name (take i bs) (block_at bs i)

pub load-take-more : (bs : List Block) (i : ℕ) → i < length bs → load (take (i + 1) bs) ≡ load (take i bs) + weight (block_at bs i)
load-take-more bs i h = sum_by_more weight bs i EndHeaders h

pub load-take-more-le : (bs : List Block) (i : ℕ) → i < length bs → load (take i bs) + weight (block_at bs i) ≤ load bs
load-take-more-le bs i h = sum_by_more_le weight bs i EndHeaders h

pub weight_if_named-le : (name : List ℕ) (b : Block) → weight_if_named name b ≤ weight b
weight_if_named-le name b = by_test (is_header_named name b)
  where
    by_test : (t : Bool) → cond t (weight b) 0 ≤ weight b
    by_test true = omega arith
    by_test false = omega arith

pub ruleset sums = (load-without-more, load-take-more, load-take-more-le, weight_if_named-le)

-- the others weigh no more than all
without-le : (name : List ℕ) (bs : List Block) → load (without_headers name bs) ≤ load bs
without-le name [] = omega arith
without-le name (b ∷ bs) = omega (arith, one_more name b bs, without-le name bs, sum_by-cons weight b bs)

some_weight : (b : Block) → 8 ≤ weight b
some_weight (RequestLine x y z) = omega arith
some_weight (ResponseLine x y z) = omega arith
some_weight (Header n v) = omega arith
some_weight EndHeaders = omega arith
some_weight (Data p) = omega arith
some_weight (Trailer n v) = omega arith
some_weight EndTrailers = omega arith

-- where the others weigh as much as all, no header has the name
all_others : (name : List ℕ) (bs : List Block) → load (without_headers name bs) ≡ load bs → without_headers name bs ≡ bs
all_others name [] e = refl
all_others name (b ∷ bs) e = by_test (all_others name bs) (is_header_named name b) (e ∙ sum_by-cons weight b bs)
  where
    by_test : (load (without_headers name bs) ≡ load bs → without_headers name bs ≡ bs) → (t : Bool)
        → load (cond (not t) (b ∷ without_headers name bs) (without_headers name bs)) ≡ weight b + load bs
        → cond (not t) (b ∷ without_headers name bs) (without_headers name bs) ≡ b ∷ bs
    by_test again true same = absurd (omega (arith, same, some_weight b, without-le name bs))
    by_test again false same = ap (λ (l : List Block). b ∷ l) (again (omega (arith, same, sum_by-cons weight b (without_headers name bs))))

pub none_named : (name : List ℕ) (bs : List Block) (n : ℕ) → n + load (without_headers name bs) ≡ load bs → n ≡ 0 → bs ≡ without_headers name bs
none_named name bs n e none = sym (all_others name bs (omega (arith, e, none)))
