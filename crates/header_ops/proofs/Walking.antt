-- A walk over the headers of a name.
use Rattle.std.proofs.Common.{◌≡◌, ℕ, zero, suc, ◌+◌, ◌<◌, ◌≤◌, List, [], ◌∷◌, ◌++◌, Bool, true, false, cond, length, map, filter, drop, refl, ap, sym, ◌∙◌, add-one, arith, inl, inr, length-drop}
use Rattle.std.specs.Prelude.{◌-◌}
use Rattle.std.proofs.Math.ListN.{drop_of_length-le}
use Rattle.std.proofs.lemmas.Bool.{cases_lt}
use Rattle.std.proofs.lemmas.Bool.Decides.{nat_tests}
use Rattle.std.proofs.lemmas.List.{drop-drop}
use Rattle.http_model.specs.Block.{Block, RequestLine, ResponseLine, Header, EndHeaders, Data, Trailer, EndTrailers, value_of}
use Rattle.http_model.specs.Blocks.{block_at}
use Rattle.http_model.specs.Fields.{same_name}
use Rattle.px_bytes.specs.Values.{values_of}
use Rattle.header_ops.specs.Headers.{is_header_named}
use Rattle.header_ops.specs.Lists.{values_named, fulls_named}
use Rattle.header_ops.specs.Walk.{values_at, values_from, values_onwards}
use Rattle.header_ops.proofs.Listed.{one_more}

-- the values of a header of the name
at_named : (name : List ℕ) (b : Block) (field : List ℕ) (within : ℕ) → is_header_named name b ≡ true → field ≡ value_of b → values_at name b within ≡ values_from field within
at_named name b field within is same = ap (λ (t : Bool). cond t (values_from (value_of b) within) []) is ∙ ap (λ (t : List ℕ). values_from t within) (sym same)

-- another block has none
pub at_other : (name : List ℕ) (b : Block) (within : ℕ) → is_header_named name b ≡ false → values_at name b within ≡ []
at_other name b within is = ap (λ (t : Bool). cond t (values_from (value_of b) within) []) is

from_inside : (field : List ℕ) (within : ℕ) → within ≤ length field → values_from field within ≡ values_of (drop within field)
from_inside field within h = grind (arith, nat_tests, h)

from_outside : (field : List ℕ) (within : ℕ) → length field < within → values_from field within ≡ []
from_outside field within h = grind (arith, nat_tests, h)

-- a header in front, entered at its first byte
header_whole : (name n v : List ℕ) (bs : List Block) → values_at name (Header n v) 0 ++ values_named name bs ≡ values_named name (Header n v ∷ bs)
header_whole name n v bs = by_test (same_name n name) ∙ sym (one_more name n v bs)
  where
    by_test : (t : Bool) → cond t (values_from v 0) [] ++ values_named name bs ≡ cond t (values_of v ++ values_named name bs) (values_named name bs)
    by_test true = ap (λ (t : List (List ℕ)). t ++ values_named name bs) (from_inside v 0 (omega arith))
    by_test false = refl

-- from the first byte of the first block on there are all
pub onwards_whole : (name : List ℕ) (bs : List Block) → values_onwards name 0 bs ≡ values_named name bs
onwards_whole name [] = refl
onwards_whole name (Header n v ∷ bs) = header_whole name n v bs
onwards_whole name (RequestLine a b c ∷ bs) = refl
onwards_whole name (ResponseLine a b c ∷ bs) = refl
onwards_whole name (EndHeaders ∷ bs) = refl
onwards_whole name (Data p ∷ bs) = refl
onwards_whole name (Trailer n v ∷ bs) = refl
onwards_whole name (EndTrailers ∷ bs) = refl

-- behind the end of a field there is none
pub at_end : (name : List ℕ) (b : Block) (field : List ℕ) (within : ℕ) → is_header_named name b ≡ true → field ≡ value_of b → length field < within → values_at name b within ≡ []
at_end name b field within is same h = at_named name b field within is same ∙ from_outside field within h

-- a value of a block, and those that are left behind it
pub onwards_here : (name : List ℕ) (bs : List Block) (at within behind : ℕ) (v : List ℕ) → at < length bs → values_at name (block_at bs at) within ≡ v ∷ values_at name (block_at bs at) behind
    → values_onwards name within (drop at bs) ≡ v ∷ values_onwards name behind (drop at bs)
onwards_here name [] at within behind v h is = absurd (omega arith)
onwards_here name (b ∷ bs) zero within behind v h is = ap (λ (t : List (List ℕ)). t ++ values_named name bs) is
onwards_here name (b ∷ bs) (suc at) within behind v h is = onwards_here name bs at within behind v (omega arith) is

past_one : (name : List ℕ) (bs : List Block) (at within : ℕ) → at < length bs → values_at name (block_at bs at) within ≡ []
    → values_onwards name 0 (drop (suc at) bs) ≡ values_onwards name within (drop at bs)
past_one name [] at within h none = absurd (omega arith)
past_one name (b ∷ bs) zero within h none = onwards_whole name bs ∙ sym (ap (λ (t : List (List ℕ)). t ++ values_named name bs) none)
past_one name (b ∷ bs) (suc at) within h none = past_one name bs at within (omega arith) none

-- a block without a value that is left
pub onwards_past : (name : List ℕ) (bs : List Block) (at within : ℕ) → at < length bs → values_at name (block_at bs at) within ≡ []
    → values_onwards name 0 (drop (at + 1) bs) ≡ values_onwards name within (drop at bs)
onwards_past name bs at within h none = rw add-one (past_one name bs at within h none)

-- behind the last block there is none
pub onwards_none : (name : List ℕ) (bs : List Block) (at within : ℕ) → length bs ≤ at → values_onwards name within (drop at bs) ≡ []
onwards_none name bs at within h = ap (values_onwards name within) (drop_of_length-le bs h)

full_one : (name : List ℕ) (bs : List Block) (at : ℕ) → at < length bs → is_header_named name (block_at bs at) ≡ true
    → fulls_named name (drop at bs) ≡ value_of (block_at bs at) ∷ fulls_named name (drop (suc at) bs)
full_one name [] at h is = absurd (omega arith)
full_one name (b ∷ bs) zero h is = ap (λ (t : Bool). map value_of (cond t (b ∷ filter (is_header_named name) bs) (filter (is_header_named name) bs))) is
full_one name (b ∷ bs) (suc at) h is = full_one name bs at (omega arith) is

-- a header of the name, and those behind it
pub full_here : (name : List ℕ) (bs : List Block) (at : ℕ) (v : List ℕ) → at < length bs → is_header_named name (block_at bs at) ≡ true → v ≡ value_of (block_at bs at)
    → fulls_named name (drop at bs) ≡ v ∷ fulls_named name (drop (at + 1) bs)
full_here name bs at v h is same = rw (add-one, same) (full_one name bs at h is)

full_other : (name : List ℕ) (bs : List Block) (at : ℕ) → at < length bs → is_header_named name (block_at bs at) ≡ false
    → fulls_named name (drop (suc at) bs) ≡ fulls_named name (drop at bs)
full_other name [] at h is = absurd (omega arith)
full_other name (b ∷ bs) zero h is = sym (ap (λ (t : Bool). map value_of (cond t (b ∷ filter (is_header_named name) bs) (filter (is_header_named name) bs))) is)
full_other name (b ∷ bs) (suc at) h is = full_other name bs at (omega arith) is

-- another block
pub full_past : (name : List ℕ) (bs : List Block) (at : ℕ) → at < length bs → is_header_named name (block_at bs at) ≡ false
    → fulls_named name (drop (at + 1) bs) ≡ fulls_named name (drop at bs)
full_past name bs at h is = rw add-one (full_other name bs at h is)

-- behind the last block there is none
pub full_none : (name : List ℕ) (bs : List Block) (at : ℕ) → length bs ≤ at → fulls_named name (drop at bs) ≡ []
full_none name bs at h = ap (fulls_named name) (drop_of_length-le bs h)

-- a field's value from a byte on, and those behind it
pub value_here : (name : List ℕ) (b : Block) (field rest v : List ℕ) (within len : ℕ) → is_header_named name b ≡ true → field ≡ value_of b → within ≤ length field → rest ≡ drop within field
    → (len ≤ length rest → values_of rest ≡ v ∷ values_of (drop len rest)) → (length rest < len → values_of rest ≡ v ∷ []) → values_at name b within ≡ v ∷ values_at name b (within + len)
value_here name b field rest v within len is same inside cut more last =
    let long : length rest ≡ length field - within = ap (λ (t : List ℕ). length t) cut ∙ length-drop within field in
    let here : values_at name b within ≡ values_of rest = at_named name b field within is same ∙ from_inside field within inside ∙ sym (ap values_of cut) in
    elim (cases_lt (length rest) len) [
      | inl none ↦
          here ∙ (last none ∙ ap (λ (t : List (List ℕ)). v ∷ t) (sym (at_named name b field (within + len) is same ∙ from_outside field (within + len) (omega (arith, long, none, inside)))))
      | inr some ↦
          let on : drop len rest ≡ drop (within + len) field = ap (λ (t : List ℕ). drop len t) cut ∙ drop-drop len within field ∙ ap (λ (k : ℕ). drop k field) (omega arith) in
          here ∙ (more some ∙ ap (λ (t : List (List ℕ)). v ∷ t)
          (ap values_of on ∙ sym (at_named name b field (within + len) is same ∙ from_inside field (within + len) (omega (arith, long, some, inside)))))
    ]

pub ruleset walking = (onwards_whole, onwards_here, onwards_past, onwards_none, value_here, at_other, at_end, full_here, full_past, full_none)
