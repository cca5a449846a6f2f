-- Blocks that go over one by one.
use Rattle.std.proofs.Common.{◌≡◌, ℕ, zero, suc, ◌+◌, ◌-◌, ◌<◌, ◌≤◌, ◌⊎◌, inl, inr, List, [], ◌∷◌, ◌++◌, Bool, length, take, drop, refl, ap, sym, ◌∙◌, subst, arith}
use Rattle.std.specs.Prelude.{min, if◌then◌else◌}
use Rattle.std.proofs.lemmas.Bool.{lt-ltb}
use Rattle.std.proofs.lemmas.List.{take-append-drop, take_all, take-take, length-take, length-drop, length-take-le}
use Rattle.std.proofs.lemmas.List.Sums.{sum_by-append}
use Rattle.htx_model.specs.Block.{Block, RequestLine, ResponseLine, Header, EndHeaders, Data, Trailer, EndTrailers, kind_of, payload_len}
use Rattle.htx_model.specs.Blocks.{load, append_data, extend_last, followed, data_overhead, block_at, taken, flow, joined, cut_front, cut_data}
use Rattle.htx_model.specs.declared.Kind.TheVariants as kinds
use Rattle.htx_model.proofs.PublicLaws.{data_is, load-append_data, taken_is, joined_twice, flow-append, added_flows}
use Rattle.htx_model.specs.Flow.{added, AreFilled}
use Rattle.htx_xfer.specs.Moved.{payload, front_of, rest_of, Stays, MovesBlock}

-- ---- fronts

pub front_none : (bs : List Block) (n : ℕ) → front_of bs n 0 ≡ take n bs
front_none [] zero = refl
front_none [] (suc n) = refl
front_none (Data p ∷ bs) zero = refl
front_none (RequestLine a b c ∷ bs) zero = refl
front_none (ResponseLine a b c ∷ bs) zero = refl
front_none (Header m v ∷ bs) zero = refl
front_none (EndHeaders ∷ bs) zero = refl
front_none (Trailer m v ∷ bs) zero = refl
front_none (EndTrailers ∷ bs) zero = refl
front_none (b ∷ bs) (suc n) = ap (λ (l : List Block). b ∷ l) (front_none bs n)

-- a front of one block is the same in front of others
one_front : (b : Block) (bs : List Block) (k : ℕ) → front_of (b ∷ bs) 0 k ≡ front_of (b ∷ []) 0 k
one_front (Data p) bs zero = refl
one_front (Data p) bs (suc k) = refl
one_front (RequestLine x y z) bs k = refl
one_front (ResponseLine x y z) bs k = refl
one_front (Header n v) bs k = refl
one_front EndHeaders bs k = refl
one_front (Trailer n v) bs k = refl
one_front EndTrailers bs k = refl

pub front_parts : (bs : List Block) (n k : ℕ) → n < length bs → front_of bs n k ≡ take n bs ++ front_of (block_at bs n ∷ []) 0 k
front_parts [] n k h = absurd (omega arith)
front_parts (b ∷ bs) zero k h = one_front b bs k
front_parts (b ∷ bs) (suc n) k h = ap (λ (l : List Block). b ∷ l) (front_parts bs n k (omega arith))

one_stays : (size left : ℕ) (to : List Block) (b : Block) (bs : List Block) (k : ℕ) → Stays size left to (rest_of (b ∷ []) 0 k) → Stays size left to (rest_of (b ∷ bs) 0 k)
one_stays size left to (Data p) bs zero h = h
one_stays size left to (Data p) bs (suc k) h = h
one_stays size left to (RequestLine x y z) bs k h = h
one_stays size left to (ResponseLine x y z) bs k h = h
one_stays size left to (Header n v) bs k h = h
one_stays size left to EndHeaders bs k h = h
one_stays size left to (Trailer n v) bs k h = h
one_stays size left to EndTrailers bs k h = h

pub stays_at : (size left : ℕ) (to bs : List Block) (n k : ℕ) → n < length bs → Stays size left to (rest_of (block_at bs n ∷ []) 0 k) → Stays size left to (rest_of bs n k)
stays_at size left to [] n k h s = absurd (omega arith)
stays_at size left to (b ∷ bs) zero k h s = one_stays size left to b bs k s
stays_at size left to (b ∷ bs) (suc n) k h s = stays_at size left to bs n k (omega arith) s

pub rest_none : (bs : List Block) (n : ℕ) → rest_of bs n 0 ≡ drop n bs
rest_none [] zero = refl
rest_none [] (suc n) = refl
rest_none (Data p ∷ bs) zero = refl
rest_none (RequestLine a b c ∷ bs) zero = refl
rest_none (ResponseLine a b c ∷ bs) zero = refl
rest_none (Header m v ∷ bs) zero = refl
rest_none (EndHeaders ∷ bs) zero = refl
rest_none (Trailer m v ∷ bs) zero = refl
rest_none (EndTrailers ∷ bs) zero = refl
rest_none (b ∷ bs) (suc n) = rest_none bs n

pub stays_past : (size left : ℕ) (to bs : List Block) → Stays size left to (rest_of bs (length bs) 0)
stays_past size left to [] = tt
stays_past size left to (b ∷ bs) = stays_past size left to bs

-- ---- flow

pub front_flows : (bs : List Block) (n k : ℕ) → flow (front_of bs n k ++ rest_of bs n k) ≡ flow bs
front_flows [] zero k = refl
front_flows [] (suc n) k = refl
front_flows (Data p ∷ bs) zero zero = refl
front_flows (Data p ∷ bs) zero (suc k) =
    joined_twice (take (suc k) p) (drop (suc k) p) (flow bs) ∙ ap (λ (x : List ℕ). joined (Data x) (flow bs)) (take-append-drop (suc k) p)
front_flows (RequestLine a b c ∷ bs) zero k = refl
front_flows (ResponseLine a b c ∷ bs) zero k = refl
front_flows (Header m v ∷ bs) zero k = refl
front_flows (EndHeaders ∷ bs) zero k = refl
front_flows (Trailer m v ∷ bs) zero k = refl
front_flows (EndTrailers ∷ bs) zero k = refl
front_flows (b ∷ bs) (suc n) k = ap (joined b) (front_flows bs n k)

-- what goes over leaves the flow as it was
pub moved_flows : (to from : List Block) (n k : ℕ) → AreFilled (front_of from n k) → flow (added to (front_of from n k) ++ rest_of from n k) ≡ flow (to ++ from)
moved_flows to from n k f = added_flows to (front_of from n k) (rest_of from n k) f ∙ flow-append to (front_of from n k ++ rest_of from n k) from (front_flows from n k)

-- ---- filled blocks

pub filled-append : (xs ys : List Block) → AreFilled xs → AreFilled ys → AreFilled (xs ++ ys)
filled-append [] ys f g = g
filled-append (x ∷ xs) ys f g = (f.0, filled-append xs ys f.1 g)

-- ---- data

overhead_cons : (b : Block) (bs : List Block) → 0 < length bs → data_overhead (b ∷ bs) ≡ data_overhead bs
overhead_cons b [] h = absurd (omega arith)
overhead_cons b (c ∷ bs) h = refl

extended_some : (bs : List Block) (p : List ℕ) → 0 < length (extend_last bs p)
extended_some [] p = omega arith
extended_some (b ∷ []) p = followed_some b p
  where
    followed_some : (b : Block) (p : List ℕ) → 0 < length (followed b p)
    followed_some (Data q) p = omega arith
    followed_some (RequestLine x y z) p = omega arith
    followed_some (ResponseLine x y z) p = omega arith
    followed_some (Header n v) p = omega arith
    followed_some EndHeaders p = omega arith
    followed_some (Trailer n v) p = omega arith
    followed_some EndTrailers p = omega arith
extended_some (b ∷ c ∷ bs) p = omega arith

extended_overhead : (bs : List Block) (p : List ℕ) → data_overhead (extend_last bs p) ≡ 0
extended_overhead [] p = refl
extended_overhead (b ∷ []) p = followed_overhead b p
  where
    followed_overhead : (b : Block) (p : List ℕ) → data_overhead (followed b p) ≡ 0
    followed_overhead (Data q) p = refl
    followed_overhead (RequestLine x y z) p = refl
    followed_overhead (ResponseLine x y z) p = refl
    followed_overhead (Header n v) p = refl
    followed_overhead EndHeaders p = refl
    followed_overhead (Trailer n v) p = refl
    followed_overhead EndTrailers p = refl
extended_overhead (b ∷ c ∷ bs) p = overhead_cons b (extend_last (c ∷ bs) p) (extended_some (c ∷ bs) p) ∙ extended_overhead (c ∷ bs) p

pub data_overhead_none : (bs : List Block) (p : List ℕ) → 0 < length p → data_overhead (append_data bs p) ≡ 0
data_overhead_none bs [] h = absurd (omega arith)
data_overhead_none bs (x ∷ p) h = extended_overhead bs (x ∷ p)

-- the next byte doesn't fit
next_over : (to : List Block) (size k : ℕ) (p q : List ℕ) → length q ≡ k → 0 < length p → size ≤ load to + data_overhead to + k → size < load (append_data (append_data to q) (take 1 p))
next_over to size k [] q e some over = absurd (omega arith)
next_over to size k (x ∷ p) [] e some over =
    let more = load-append_data to (x ∷ []) (omega arith) in
    omega arith
next_over to size k (x ∷ p) (y ∷ q) e some over =
    let to' = append_data to (y ∷ q) in
    let first = load-append_data to (y ∷ q) (omega arith) in
    let none = data_overhead_none to (y ∷ q) (omega arith) in
    let more = load-append_data to' (x ∷ []) (omega arith) in
    omega arith

front_data : (to : List Block) (p : List ℕ) (k : ℕ) → added to (front_of (Data p ∷ []) 0 k) ≡ append_data to (take k p)
front_data to p zero = refl
front_data to p (suc k) = refl

rest_data : (size left : ℕ) (to : List Block) (p : List ℕ) (k : ℕ) → (left ≡ 0) ⊎ (size < load (append_data to (take 1 (drop k p)))) → Stays size left to (rest_of (Data p ∷ []) 0 k)
rest_data size left to p zero h = h
rest_data size left to p (suc k) h = h

pub le_cases : (a b : ℕ) → a ≤ b → (a ≡ b) ⊎ (a < b)
le_cases zero zero h = inl refl
le_cases zero (suc b) h = inr (omega arith)
le_cases (suc a) zero h = absurd (omega arith)
le_cases (suc a) (suc b) h = elim (le_cases a b (omega arith)) [ inl e ↦ inl (ap suc e) | inr l ↦ inr (omega (arith, l)) ]

-- as much data as limit and size allow
pub moves_data : (p : List ℕ) (size limit : ℕ) (to to' : List Block) (moved : ℕ) → moved ≡ taken to size (take (min (length p) limit) p) → to' ≡ append_data to (take moved (take (min (length p) limit) p))
    → MovesBlock (Data p) size limit to to' moved
moves_data p size limit to to' moved e to_is =
    let most = min (length p) limit in
    let q = take most p in
    let len : length q ≡ min most (length p) = length-take most p in
    let least : moved ≡ min (length q) (size - (load to + data_overhead to)) = e ∙ taken_is to size q in
    let within : moved ≤ most = omega arith in
    let front : to' ≡ append_data to (take moved p) = to_is ∙ ap (append_data to) (take-take moved most p within) in
    record {
      within = omega arith;
      most = omega arith;
      all = λ a. front ∙ ap (append_data to) (take_all moved p (omega arith));
      part = λ less. (
        front ∙ sym (front_data to p moved),
        rest_data size (limit - moved) to' p moved (next_stays less),
      );
      cut = λ less some. refl;
    }
  where
    next_by : (moved limit : ℕ) → (moved ≡ limit) ⊎ (moved < limit) → moved < length p → moved ≡ min (length (take (min (length p) limit) p)) (size - (load to + data_overhead to)) → to' ≡ append_data to (take moved p)
        → (limit - moved ≡ 0) ⊎ (size < load (append_data to' (take 1 (drop moved p))))
    next_by moved limit (inl same) less least front = inl (omega arith)
    next_by moved limit (inr short) less least front =
        let most = min (length p) limit in
        let len : length (take most p) ≡ min most (length p) = length-take most p in
        let size_of : length (take moved p) ≡ moved = length-take-le moved p (omega arith) in
        let rest = length-drop moved p in
        let over : size ≤ load to + data_overhead to + moved = omega arith in
        inr (subst (λ (t : List Block). size < load (append_data t (take 1 (drop moved p)))) (sym front) (next_over to size moved (drop moved p) (take moved p) size_of (omega arith) over))

    next_stays : moved < length p → (limit - moved ≡ 0) ⊎ (size < load (append_data to' (take 1 (drop moved p))))
    next_stays less =
        let most = min (length p) limit in
        let q = take most p in
        let len : length q ≡ min most (length p) = length-take most p in
        let least : moved ≡ min (length q) (size - (load to + data_overhead to)) = e ∙ taken_is to size q in
        let within : moved ≤ most = omega arith in
        next_by moved limit (le_cases moved limit (omega arith)) less least (to_is ∙ ap (append_data to) (take-take moved most p within))

unfoldable pub IsData : Block → Type 0
IsData (Data p) = Unit {0}
IsData b = ⊥

pub data_only : (b : Block) → kind_of b ≡ kinds.Data → IsData b
unfolding IsData
data_only b e = subst IsData (sym (data_is b e)) tt

pub other_payload : (b : Block) (k : ℕ) → (IsData b → ⊥) → front_of (b ∷ []) 0 k ≡ [] → (0 < k → kind_of b ≡ kinds.Data) → payload (front_of (b ∷ []) 0 k) ≡ k
other_payload b zero other e cut = ap payload e
other_payload b (suc k) other e cut = absurd (other (data_only b (cut (omega arith))))

cut_by : (p : List ℕ) (bs : List Block) (k : ℕ) → 0 < k → k < length p → drop 0 (cut_front (Data p ∷ bs) 0 k) ≡ rest_of (Data p ∷ bs) 0 k
cut_by p bs zero some less = absurd (omega arith)
cut_by p bs (suc k) some less = ap (λ (t : Bool). (if t then Data (drop (suc k) p) ∷ [] else []) ++ bs) (lt-ltb (suc k) (length p) less)

cut_one : (b : Block) (bs : List Block) (k : ℕ) → kind_of b ≡ kinds.Data → 0 < k → k < payload_len b → drop 0 (cut_front (b ∷ bs) 0 k) ≡ rest_of (b ∷ bs) 0 k
unfolding IsData
cut_one (Data p) bs k is some less = cut_by p bs k some less
cut_one (RequestLine x y z) bs k is some less = absurd (data_only (RequestLine x y z) is)
cut_one (ResponseLine x y z) bs k is some less = absurd (data_only (ResponseLine x y z) is)
cut_one (Header n v) bs k is some less = absurd (data_only (Header n v) is)
cut_one EndHeaders bs k is some less = absurd (data_only EndHeaders is)
cut_one (Trailer n v) bs k is some less = absurd (data_only (Trailer n v) is)
cut_one EndTrailers bs k is some less = absurd (data_only EndTrailers is)

-- ---- one block of a front

pub one_payload : (b : Block) (k : ℕ) → k < payload_len b → (0 < k → kind_of b ≡ kinds.Data) → payload (front_of (b ∷ []) 0 k) ≡ k
unfolding IsData
one_payload (Data p) zero less cut = refl
one_payload (Data p) (suc k) less cut = let n : length (take (suc k) p) ≡ suc k = length-take-le (suc k) p (omega arith) in omega arith
one_payload (RequestLine x y z) k less cut = other_payload (RequestLine x y z) k (λ h. h) refl cut
one_payload (ResponseLine x y z) k less cut = other_payload (ResponseLine x y z) k (λ h. h) refl cut
one_payload (Header n v) k less cut = other_payload (Header n v) k (λ h. h) refl cut
one_payload EndHeaders k less cut = other_payload EndHeaders k (λ h. h) refl cut
one_payload (Trailer n v) k less cut = other_payload (Trailer n v) k (λ h. h) refl cut
one_payload EndTrailers k less cut = other_payload EndTrailers k (λ h. h) refl cut

pub one_filled : (b : Block) (k : ℕ) → k < payload_len b → AreFilled (front_of (b ∷ []) 0 k)
one_filled (Data p) zero less = tt
one_filled (Data p) (suc k) less = let n : length (take (suc k) p) ≡ suc k = length-take-le (suc k) p (omega arith) in (omega arith, tt)
one_filled (RequestLine x y z) k less = tt
one_filled (ResponseLine x y z) k less = tt
one_filled (Header n v) k less = tt
one_filled EndHeaders k less = tt
one_filled (Trailer n v) k less = tt
one_filled EndTrailers k less = tt

pub payload-append : (xs ys : List Block) → payload (xs ++ ys) ≡ payload xs + payload ys
payload-append xs ys = sum_by-append payload_len xs ys

-- the part of a list that a cut in its middle and a drop leave
pub left_by_cut : (bs : List Block) (n k : ℕ) → n < length bs → kind_of (block_at bs n) ≡ kinds.Data → 0 < k → k < payload_len (block_at bs n) → drop n (cut_front bs n k) ≡ rest_of bs n k
left_by_cut [] n k h is some less = absurd (omega arith)
left_by_cut (b ∷ bs) zero k h is some less = cut_one b bs k is some less
left_by_cut (b ∷ bs) (suc n) k h is some less =
    let next : suc n + 1 ≡ suc (n + 1) = omega arith in
    ap (λ (m : ℕ). drop (suc n) ((take (suc n) (b ∷ bs) ++ cut_data (block_at bs n) k) ++ drop m (b ∷ bs))) next ∙ left_by_cut bs n k (omega arith) is some less
