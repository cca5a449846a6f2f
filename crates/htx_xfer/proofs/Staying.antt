-- All goes where all fits, and what stays passes the limit or the size.
use Rattle.std.proofs.Common.{◌≡◌, ℕ, zero, suc, ◌+◌, ◌-◌, ◌<◌, ◌≤◌, ◌⊎◌, inl, inr, List, [], ◌∷◌, ◌++◌, length, take, drop, refl, ap, ◌∙◌, subst, arith}
use Rattle.std.proofs.lemmas.List.{length-drop, length-take-le, drop_more, drop_all}
use Rattle.std.proofs.lemmas.List.Sums.{sum_by-append, sum_by-cons, sum_by-take-drop}
use Rattle.htx_model.specs.Block.{Block, RequestLine, ResponseLine, Header, EndHeaders, Data, Trailer, EndTrailers, kind_of, payload_len, weight}
use Rattle.htx_model.specs.Blocks.{load, append_data, data_overhead, block_at}
use Rattle.htx_model.specs.declared.Kind.TheVariants as kinds
use Rattle.htx_model.proofs.PublicLaws.{load-append_data}
use Rattle.htx_xfer.specs.declared.Copied.{Copied}
use Rattle.htx_model.specs.Flow.{put_behind, added}
use Rattle.htx_xfer.specs.Moved.{payload, front_of, rest_of, Stays, Copies}
use Rattle.htx_xfer.proofs.Moving.{IsData, data_only, data_overhead_none, le_cases, rest_none}

overhead_most : (bs : List Block) → data_overhead bs ≤ 8
overhead_most [] = omega arith
overhead_most (b ∷ []) = one_most b
  where
    one_most : (b : Block) → data_overhead (b ∷ []) ≤ 8
    one_most (Data p) = omega arith
    one_most (RequestLine x y z) = omega arith
    one_most (ResponseLine x y z) = omega arith
    one_most (Header n v) = omega arith
    one_most EndHeaders = omega arith
    one_most (Trailer n v) = omega arith
    one_most EndTrailers = omega arith
overhead_most (b ∷ c ∷ bs) = overhead_most (c ∷ bs)

load-end : (bs : List Block) (b : Block) → load (bs ++ b ∷ []) ≡ load bs + weight b
load-end bs b = sum_by-append weight bs (b ∷ []) ∙ omega arith

load-put : (to : List Block) (b : Block) → load (put_behind to b) ≤ load to + weight b
load-put to (Data []) = omega arith
load-put to (Data (x ∷ p)) =
    let all = load-append_data to (x ∷ p) (omega arith) in
    let most = overhead_most to in
    omega arith
load-put to (RequestLine x y z) = omega (arith, load-end to (RequestLine x y z))
load-put to (ResponseLine x y z) = omega (arith, load-end to (ResponseLine x y z))
load-put to (Header n v) = omega (arith, load-end to (Header n v))
load-put to EndHeaders = omega (arith, load-end to EndHeaders)
load-put to (Trailer n v) = omega (arith, load-end to (Trailer n v))
load-put to EndTrailers = omega (arith, load-end to EndTrailers)

load-added : (to bs : List Block) → load (added to bs) ≤ load to + load bs
load-added to [] = omega arith
load-added to (b ∷ bs) =
    let rest = load-added (put_behind to b) bs in
    let first = load-put to b in
    let all = sum_by-cons weight b bs in
    omega arith

-- where a block stays, in part or as a whole, it passes the limit or the size
data_stuck : (p : List ℕ) (k size left : ℕ) (to : List Block) → k < length p → (left ≡ 0) ⊎ (size < load (append_data (append_data to (take k p)) (take 1 (drop k p)))) → (left + k < length p) ⊎ (size < load to + (8 + length p))
data_stuck p k size left to less (inl none) = inl (omega arith)
data_stuck p k size left to less (inr over) =
    let rest : length (drop k p) ≡ length p - k = length-drop k p in
    let one : length (take 1 (drop k p)) ≡ 1 = length-take-le 1 (drop k p) (omega arith) in
    let part : length (take k p) ≡ k = length-take-le k p (omega arith) in
    let next = load-append_data (append_data to (take k p)) (take 1 (drop k p)) (omega arith) in
    inr (by_part (take k p) part (take 1 (drop k p)) one next over)
  where
    by_part : (q : List ℕ) → length q ≡ k → (x : List ℕ) → length x ≡ 1 → load (append_data (append_data to q) x) ≡ load (append_data to q) + data_overhead (append_data to q) + length x → size < load (append_data (append_data to q) x) → size < load to + (8 + length p)
    by_part [] none x one next over = let most = overhead_most to in omega arith
    by_part (y ∷ q) some x one next over =
        let first = load-append_data to (y ∷ q) (omega arith) in
        let none = data_overhead_none to (y ∷ q) (omega arith) in
        let most = overhead_most to in
        omega arith

other_stuck : (b : Block) (k size left : ℕ) (to : List Block) → (IsData b → ⊥) → (0 < k → kind_of b ≡ kinds.Data) → (left < payload_len b) ⊎ (size < load (to ++ b ∷ [])) → (left + k < payload_len b) ⊎ (size < load to + weight b)
other_stuck b (suc k) size left to other cut s = absurd (other (data_only b (cut (omega arith))))
other_stuck b zero size left to other cut (inl less) = inl (omega arith)
other_stuck b zero size left to other cut (inr over) = inr (let all = load-end to b in omega arith)

pub one_stuck : (b : Block) (k size left : ℕ) (to to' : List Block) → k < payload_len b → (0 < k → kind_of b ≡ kinds.Data) → to' ≡ added to (front_of (b ∷ []) 0 k) → Stays size left to' (rest_of (b ∷ []) 0 k)
    → (left + k < payload_len b) ⊎ (size < load to + weight b)
unfolding IsData
one_stuck (Data p) zero size left to to' less cut e s = data_stuck p zero size left to less (subst (λ (t : List Block). (left ≡ 0) ⊎ (size < load (append_data t (take 1 p)))) e s)
one_stuck (Data p) (suc k) size left to to' less cut e s = data_stuck p (suc k) size left to less (subst (λ (t : List Block). (left ≡ 0) ⊎ (size < load (append_data t (take 1 (drop (suc k) p))))) e s)
one_stuck (RequestLine x y z) k size left to to' less cut e s = other_stuck (RequestLine x y z) k size left to (λ h. h) cut (subst (λ (t : List Block). Stays size left t (RequestLine x y z ∷ [])) e s)
one_stuck (ResponseLine x y z) k size left to to' less cut e s = other_stuck (ResponseLine x y z) k size left to (λ h. h) cut (subst (λ (t : List Block). Stays size left t (ResponseLine x y z ∷ [])) e s)
one_stuck (Header n v) k size left to to' less cut e s = other_stuck (Header n v) k size left to (λ h. h) cut (subst (λ (t : List Block). Stays size left t (Header n v ∷ [])) e s)
one_stuck EndHeaders k size left to to' less cut e s = other_stuck EndHeaders k size left to (λ h. h) cut (subst (λ (t : List Block). Stays size left t (EndHeaders ∷ [])) e s)
one_stuck (Trailer n v) k size left to to' less cut e s = other_stuck (Trailer n v) k size left to (λ h. h) cut (subst (λ (t : List Block). Stays size left t (Trailer n v ∷ [])) e s)
one_stuck EndTrailers k size left to to' less cut e s = other_stuck EndTrailers k size left to (λ h. h) cut (subst (λ (t : List Block). Stays size left t (EndTrailers ∷ [])) e s)

-- where all fits and the limit allows all, nothing stays
pub all_goes : (from : List Block) (size limit : ℕ) (to to' : List Block) (copied : Copied) → Copies from size limit to to' copied → load to + load from ≤ size → payload from ≤ limit → rest_of from copied.count copied.part ≡ []
all_goes from size limit to to' copied c fits short = by_count (le_cases copied.count (length from) c.count)
  where
    never : copied.count < length from → (limit < payload (take copied.count from) + payload_len (block_at from copied.count)) ⊎ (size < load (added to (take copied.count from)) + weight (block_at from copied.count)) → ⊥
    never less s =
        let n = copied.count in
        let b = block_at from n in
        let front = take n from in
        let split = drop_more from n EndHeaders less in
        let loads = sum_by-take-drop weight from n in
        let payloads = sum_by-take-drop payload_len from n in
        let load_rest : load (drop n from) ≡ weight b + load (drop (n + 1) from) = ap load split ∙ sum_by-cons weight b (drop (n + 1) from) in
        let payload_rest : payload (drop n from) ≡ payload_len b + payload (drop (n + 1) from) = ap payload split ∙ sum_by-cons payload_len b (drop (n + 1) from) in
        let grown = load-added to front in
        elim s [ inl over ↦ omega (arith, over) | inr over ↦ omega (arith, over) ]

    none_cut : (k : ℕ) → k ≡ copied.part → copied.count ≡ length from → rest_of from copied.count k ≡ []
    none_cut zero e all = rest_none from copied.count ∙ drop_all copied.count from (omega arith)
    none_cut (suc k) e all = let cut = (c.cut (omega arith)).0 in absurd (omega arith)

    by_count : (copied.count ≡ length from) ⊎ (copied.count < length from) → rest_of from copied.count copied.part ≡ []
    by_count (inl all) = none_cut copied.part refl all
    by_count (inr less) = absurd (never less (c.stuck less))
