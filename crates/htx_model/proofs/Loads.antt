-- The load after data was appended, and how much of it fits.
use Rattle.std.proofs.Common.{◌≡◌, ℕ, zero, suc, ◌+◌, ◌-◌, ◌*◌, ◌<◌, ◌≤◌, inl, inr, List, [], ◌∷◌, length, take, drop, set, sum_by, ◌∙◌, arith, length-append, min}
use Rattle.std.specs.Prelude.{remove}
use Rattle.std.proofs.lemmas.List.{length-take-le}
use Rattle.std.proofs.lemmas.List.Sums.{sum_by-cons, sum_by-remove, sum_by-set, sum_by-take-drop}
use Rattle.std.proofs.lemmas.Bool.{cases_lt, le-leb, lt-leb}
use Rattle.htx_model.specs.Block.{Block, RequestLine, ResponseLine, Header, EndHeaders, Data, Trailer, EndTrailers, weight, payload_len}
use Rattle.htx_model.specs.Blocks.{load, block_at, append_data, extend_last, followed, data_overhead, taken, taken_of}

load-followed : (b : Block) (p : List ℕ) → load (followed b p) ≡ load (b ∷ []) + data_overhead (b ∷ []) + length p
load-followed (RequestLine x y z) p = omega arith
load-followed (ResponseLine x y z) p = omega arith
load-followed (Header n v) p = omega arith
load-followed EndHeaders p = omega arith
load-followed (Data q) p = omega (arith, length-append q p)
load-followed (Trailer n v) p = omega arith
load-followed EndTrailers p = omega arith

load-extend_last : (bs : List Block) (p : List ℕ) → load (extend_last bs p) ≡ load bs + data_overhead bs + length p
load-extend_last [] p = omega arith
load-extend_last (b ∷ []) p = load-followed b p
load-extend_last (b ∷ c ∷ bs) p = omega (arith, sum_by-cons weight b (extend_last (c ∷ bs) p), sum_by-cons weight b (c ∷ bs), load-extend_last (c ∷ bs) p)

pub load-append_data : (bs : List Block) (p : List ℕ) → 0 < length p → load (append_data bs p) ≡ load bs + data_overhead bs + length p
load-append_data bs [] h = absurd (omega arith)
load-append_data bs (x ∷ p) h = load-extend_last bs (x ∷ p)

taken_of_is : (k : ℕ) (bs : List Block) (size : ℕ) (p : List ℕ) → k ≤ length p → taken_of k bs size p ≡ min k (size - (load bs + data_overhead bs))
taken_of_is zero bs size p h = omega arith
taken_of_is (suc k) bs size p h =
    let long : length (take (suc k) p) ≡ suc k = length-take-le (suc k) p h in
    let all = load-append_data bs (take (suc k) p) (omega arith) in
    let less = taken_of_is k bs size p (omega arith) in
    elim (cases_lt size (load (append_data bs (take (suc k) p)))) [
      | inl over ↦ rw (lt-leb (load (append_data bs (take (suc k) p))) size over) (less ∙ omega arith)
      | inr fits ↦ rw (le-leb (load (append_data bs (take (suc k) p))) size fits) (omega arith)
    ]

-- as many bytes as there is room for
pub taken_is : (bs : List Block) (size : ℕ) (p : List ℕ) → taken bs size p ≡ min (length p) (size - (load bs + data_overhead bs))
taken_is bs size p = taken_of_is (length p) bs size p (omega arith)

-- ---- the load after an edit

-- all payloads, and eight bytes for each descriptor
pub load-payloads : (bs : List Block) → load bs ≡ sum_by payload_len bs + 8 * length bs
load-payloads [] = omega arith
load-payloads (b ∷ bs) = omega (arith, sum_by-cons weight b bs, sum_by-cons payload_len b bs, load-payloads bs)

pub load-remove : (bs : List Block) (at : ℕ) → at < length bs → load (remove bs at) + weight (block_at bs at) ≡ load bs
load-remove bs at h = sum_by-remove weight bs at EndHeaders h

pub load-set : (bs : List Block) (at : ℕ) (b : Block) → at < length bs → load (set bs at b) + weight (block_at bs at) ≡ load bs + weight b
load-set bs at b h = sum_by-set weight bs at b EndHeaders h

pub load-take_drop : (bs : List Block) (at : ℕ) → load (take at bs) + load (drop at bs) ≡ load bs
load-take_drop bs at = sum_by-take-drop weight bs at
