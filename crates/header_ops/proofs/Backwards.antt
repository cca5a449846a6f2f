-- The values of the headers of a name from the last on.
use Rattle.std.proofs.Common.{◌≡◌, ℕ, zero, suc, ◌+◌, ◌-◌, ◌<◌, ◌≤◌, List, [], ◌∷◌, ◌++◌, Bool, true, false, cond, length, map, filter, take, Option, Some, None, slice_get, inl, inr, refl, ap, sym, ◌∙◌, arith, length-append}
use Rattle.std.specs.Prelude.{nat_lt}
use Rattle.std.specs.List.{flat_map}
use Rattle.std.proofs.lemmas.Bool.{cases_lt}
use Rattle.std.proofs.lemmas.Bool.Decides.{nat_tests}
use Rattle.std.proofs.lemmas.List.{take_more, take_all, map-append, append-nil, length-map}
use Rattle.std.proofs.lemmas.List.Elements.{filter-append}
use Rattle.std.proofs.lemmas.Grind.{flat_map-append}
use Rattle.http_model.specs.Block.{Block, EndHeaders, value_of}
use Rattle.http_model.specs.Blocks.{block_at}
use Rattle.px_bytes.specs.declared.pieces.Place.TheVariants.{Outside}
use Rattle.px_bytes.specs.Blanks.{trimmed}
use Rattle.px_bytes.specs.Values.{pieces_from, values_of}
use Rattle.px_bytes.proofs.PublicLaws.{some_pieces}
use Rattle.header_ops.specs.Headers.{is_header_named}
use Rattle.header_ops.specs.Lists.{values_named, fulls_named}
use Rattle.header_ops.specs.Walk.{from_back}
use Rattle.header_ops.proofs.Listed.{got_second}

-- near enough to the last
near : (xs : List (List ℕ)) (n : ℕ) → n < length xs → from_back xs n ≡ slice_get xs (length xs - 1 - n)
near xs n h = grind (arith, nat_tests, h)

-- too far
pub far : (xs : List (List ℕ)) (n : ℕ) → length xs ≤ n → from_back xs n ≡ None
far xs n h = grind (arith, nat_tests, h)

-- of two lists, one of the second
back_second : (xs ys : List (List ℕ)) (n : ℕ) → n < length ys → from_back (xs ++ ys) n ≡ from_back ys n
back_second xs ys n h =
    let both : length (xs ++ ys) ≡ length xs + length ys = length-append xs ys in
    let there : length ys - 1 - n + length xs ≡ length (xs ++ ys) - 1 - n = omega (arith, both, h) in
    near (xs ++ ys) n (omega (arith, both, h)) ∙ (got_second xs ys (length ys - 1 - n) (length (xs ++ ys) - 1 - n) there ∙ sym (near ys n h))

got_first_at : (xs ys : List (List ℕ)) (i : ℕ) → i < length xs → slice_get (xs ++ ys) i ≡ slice_get xs i
got_first_at [] ys i h = absurd (omega arith)
got_first_at (x ∷ xs) ys zero h = refl
got_first_at (x ∷ xs) ys (suc i) h = got_first_at xs ys i (omega arith)

-- of two lists, one of the first
back_first : (xs ys : List (List ℕ)) (left n : ℕ) → left + length ys ≡ n → from_back (xs ++ ys) n ≡ from_back xs left
back_first xs ys left n is =
    let both : length (xs ++ ys) ≡ length xs + length ys = length-append xs ys in
    elim (cases_lt left (length xs)) [
      | inl less ↦
          let same : length (xs ++ ys) - 1 - n ≡ length xs - 1 - left = omega (arith, both, is, less) in
          near (xs ++ ys) n (omega (arith, both, is, less))
          ∙ (ap (slice_get (xs ++ ys)) same ∙ (got_first_at xs ys (length xs - 1 - left) (omega (arith, less)) ∙ sym (near xs left less)))
      | inr more ↦ far (xs ++ ys) n (omega (arith, both, is, more)) ∙ sym (far xs left more)
    ]

-- one that is there is near enough
there_near : (xs : List (List ℕ)) (n : ℕ) (v : List ℕ) → from_back xs n ≡ Some v → n < length xs
there_near xs n v is = elim (cases_lt n (length xs)) [
  | inl less ↦ less
  | inr more ↦ let none : None ≡ Some v = sym (far xs n more) ∙ is in cc
]

fulls_push : (name : List ℕ) (bs : List Block) (b : Block) → fulls_named name (bs ++ b ∷ []) ≡ fulls_named name bs ++ fulls_named name (b ∷ [])
fulls_push name bs b =
    ap (map value_of) (filter-append (is_header_named name) bs (b ∷ [])) ∙ map-append value_of (filter (is_header_named name) bs) (filter (is_header_named name) (b ∷ []))

one_full : (name : List ℕ) (b : Block) → is_header_named name b ≡ true → fulls_named name (b ∷ []) ≡ value_of b ∷ []
one_full name b is = ap (λ (t : Bool). map value_of (cond t (b ∷ []) [])) is

no_full : (name : List ℕ) (b : Block) → is_header_named name b ≡ false → fulls_named name (b ∷ []) ≡ []
no_full name b is = ap (λ (t : Bool). map value_of (cond t (b ∷ []) [])) is

-- with a header of the name behind
pub fulls_with : (name : List ℕ) (bs : List Block) (at : ℕ) → at < length bs → is_header_named name (block_at bs at) ≡ true
    → fulls_named name (take (at + 1) bs) ≡ fulls_named name (take at bs) ++ value_of (block_at bs at) ∷ []
fulls_with name bs at h is =
    ap (fulls_named name) (take_more bs at EndHeaders h)
    ∙ (fulls_push name (take at bs) (block_at bs at) ∙ ap (λ (t : List (List ℕ)). fulls_named name (take at bs) ++ t) (one_full name (block_at bs at) is))

-- with another block behind
pub fulls_without : (name : List ℕ) (bs : List Block) (at : ℕ) → at < length bs → is_header_named name (block_at bs at) ≡ false
    → fulls_named name (take (at + 1) bs) ≡ fulls_named name (take at bs)
fulls_without name bs at h is =
    ap (fulls_named name) (take_more bs at EndHeaders h)
    ∙ (fulls_push name (take at bs) (block_at bs at)
    ∙ (ap (λ (t : List (List ℕ)). fulls_named name (take at bs) ++ t) (no_full name (block_at bs at) is) ∙ append-nil (fulls_named name (take at bs))))

-- past the last there is none
past_all : (xs : List (List ℕ)) (i : ℕ) → slice_get xs i ≡ None → length xs ≤ i
past_all [] i h = omega arith
past_all (x ∷ xs) zero h = absurd (cc)
past_all (x ∷ xs) (suc i) h = let rest = past_all xs i h in omega (arith, rest)

-- the same of values
pub values_with : (name : List ℕ) (bs : List Block) (at : ℕ) → at < length bs → is_header_named name (block_at bs at) ≡ true
    → values_named name (take (at + 1) bs) ≡ values_named name (take at bs) ++ values_of (value_of (block_at bs at))
values_with name bs at h is =
    let v : List ℕ = value_of (block_at bs at) in
    ap (flat_map values_of) (fulls_with name bs at h is)
    ∙ (flat_map-append values_of (fulls_named name (take at bs)) (v ∷ []) ∙ ap (λ (t : List (List ℕ)). values_named name (take at bs) ++ t) (append-nil (values_of v)))

-- in front of an end, a header of the name has it
pub value_found : (name : List ℕ) (bs : List Block) (end n : ℕ) (field v : List ℕ) → 0 < end → end ≤ length bs → is_header_named name (block_at bs (end - 1)) ≡ true → field ≡ value_of (block_at bs (end - 1))
    → from_back (values_of field) n ≡ Some v → from_back (values_named name (take end bs)) n ≡ Some v
value_found name bs end n field v some within is same found =
    let e : end ≡ end - 1 + 1 = omega arith in
    let all = ap (λ (k : ℕ). values_named name (take k bs)) e ∙ values_with name bs (end - 1) (omega arith) is in
    let here = ap (λ (t : List ℕ). from_back (values_of t) n) same in
    let near_it = there_near (values_of field) n v found in
    let so_many : n < length (values_of (value_of (block_at bs (end - 1)))) = rw (sym same) near_it in
    ap (λ (t : List (List ℕ)). from_back t n) all ∙ (back_second (values_named name (take (end - 1) bs)) (values_of (value_of (block_at bs (end - 1)))) n so_many ∙ (sym here ∙ found))

-- it has none that is near enough
pub value_passed : (name : List ℕ) (bs : List Block) (end n left : ℕ) (field : List ℕ) → 0 < end → end ≤ length bs → is_header_named name (block_at bs (end - 1)) ≡ true → field ≡ value_of (block_at bs (end - 1))
    → left + length (values_of field) ≡ n → from_back (values_named name (take (end - 1) bs)) left ≡ from_back (values_named name (take end bs)) n
value_passed name bs end n left field some within is same passed =
    let e : end ≡ end - 1 + 1 = omega arith in
    let all = ap (λ (k : ℕ). values_named name (take k bs)) e ∙ values_with name bs (end - 1) (omega arith) is in
    let so_many : left + length (values_of (value_of (block_at bs (end - 1)))) ≡ n = rw (sym same) passed in
    sym (ap (λ (t : List (List ℕ)). from_back t n) all ∙ back_first (values_named name (take (end - 1) bs)) (values_of (value_of (block_at bs (end - 1)))) left n so_many)

-- another block
pub value_other : (name : List ℕ) (bs : List Block) (end n : ℕ) → 0 < end → end ≤ length bs → is_header_named name (block_at bs (end - 1)) ≡ false
    → from_back (values_named name (take (end - 1) bs)) n ≡ from_back (values_named name (take end bs)) n
value_other name bs end n some within is =
    let e : end ≡ end - 1 + 1 = omega arith in
    let fulls = ap (λ (k : ℕ). fulls_named name (take k bs)) e ∙ fulls_without name bs (end - 1) (omega arith) is in
    sym (ap (λ (t : List (List ℕ)). from_back (flat_map values_of t) n) fulls)

-- the same of whole values
pub full_found : (name : List ℕ) (bs : List Block) (end n : ℕ) (field : List ℕ) → 0 < end → end ≤ length bs → is_header_named name (block_at bs (end - 1)) ≡ true → field ≡ value_of (block_at bs (end - 1))
    → n ≡ 0 → from_back (fulls_named name (take end bs)) n ≡ Some field
full_found name bs end n field some within is same last =
    let e : end ≡ end - 1 + 1 = omega arith in
    let v : List ℕ = value_of (block_at bs (end - 1)) in
    let all = ap (λ (k : ℕ). fulls_named name (take k bs)) e ∙ fulls_with name bs (end - 1) (omega arith) is in
    ap (λ (t : List (List ℕ)). from_back t n) all ∙ (back_second (fulls_named name (take (end - 1) bs)) (v ∷ []) n (omega (arith, last)) ∙ (ap (from_back (v ∷ [])) last ∙ ap (λ (t : List ℕ). Some t) (sym same)))

pub full_passed : (name : List ℕ) (bs : List Block) (end n left : ℕ) → 0 < end → end ≤ length bs → is_header_named name (block_at bs (end - 1)) ≡ true → left + 1 ≡ n
    → from_back (fulls_named name (take (end - 1) bs)) left ≡ from_back (fulls_named name (take end bs)) n
full_passed name bs end n left some within is passed =
    let e : end ≡ end - 1 + 1 = omega arith in
    let v : List ℕ = value_of (block_at bs (end - 1)) in
    let all = ap (λ (k : ℕ). fulls_named name (take k bs)) e ∙ fulls_with name bs (end - 1) (omega arith) is in
    sym (ap (λ (t : List (List ℕ)). from_back t n) all ∙ back_first (fulls_named name (take (end - 1) bs)) (v ∷ []) left n (omega (arith, passed)))

pub full_other : (name : List ℕ) (bs : List Block) (end n : ℕ) → 0 < end → end ≤ length bs → is_header_named name (block_at bs (end - 1)) ≡ false
    → from_back (fulls_named name (take (end - 1) bs)) n ≡ from_back (fulls_named name (take end bs)) n
full_other name bs end n some within is =
    let e : end ≡ end - 1 + 1 = omega arith in
    let fulls = ap (λ (k : ℕ). fulls_named name (take k bs)) e ∙ fulls_without name bs (end - 1) (omega arith) is in
    sym (ap (λ (t : List (List ℕ)). from_back t n) fulls)

-- a field's last value stands behind its first one
pub last_alone : (field v : List ℕ) → values_of field ≡ v ∷ [] → from_back (values_of field) 0 ≡ Some v
last_alone field v is = ap (λ (t : List (List ℕ)). from_back t 0) is

pub last_further : (field behind v : List ℕ) → values_of field ≡ v ∷ values_of behind → from_back (values_of behind) 0 ≡ from_back (values_of field) 0
last_further field behind v is =
    let some : 1 ≤ length (pieces_from Outside behind) = some_pieces Outside behind in
    let long : length (values_of behind) ≡ length (pieces_from Outside behind) = length-map (pieces_from Outside behind) trimmed in
    sym (ap (λ (t : List (List ℕ)). from_back t 0) is ∙ back_second (v ∷ []) (values_of behind) 0 (omega (arith, some, long)))

-- no block is left
pub back_none : (name : List ℕ) (bs : List Block) (end n : ℕ) → end ≡ 0 → from_back (values_named name (take end bs)) n ≡ None
back_none name bs end n is = ap (λ (k : ℕ). from_back (values_named name (take k bs)) n) is ∙ far [] n (omega arith)

pub full_none : (name : List ℕ) (bs : List Block) (end n : ℕ) → end ≡ 0 → from_back (fulls_named name (take end bs)) n ≡ None
full_none name bs end n is = ap (λ (k : ℕ). from_back (fulls_named name (take k bs)) n) is ∙ far [] n (omega arith)

-- a value by its index from the front
pub by_index : (xs : List (List ℕ)) (n : ℕ) (v : List ℕ) → n < length xs → slice_get xs (length xs - 1 - n) ≡ Some v → from_back xs n ≡ Some v
by_index xs n v h is = near xs n h ∙ is

-- there is one
pub never : (xs : List (List ℕ)) (n i : ℕ) → n < length xs → i ≡ length xs - 1 - n → slice_get xs i ≡ None → ⊥
never xs n i h e none = let past : length xs ≤ i = past_all xs i none in absurd (omega (arith, past, e, h))

pub ruleset values_back = (last_alone, last_further, by_index)

pub ruleset blocks_back = (value_found, value_passed, value_other, full_found, full_passed, full_other)
