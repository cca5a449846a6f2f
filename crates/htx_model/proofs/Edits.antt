-- Data at the end, and data that is cut, as edits at an index.
use Rattle.std.proofs.Common.{◌≡◌, ℕ, zero, suc, ◌+◌, ◌<◌, ◌≤◌, List, [], ◌∷◌, ◌++◌, length, take, drop, set, refl, subst, ap, sym, ◌∙◌, arith, Bool}
use Rattle.std.specs.Prelude.{insert, remove, if◌then◌else◌}
use Rattle.std.proofs.lemmas.Bool.{lt-ltb, le-ltb}
use Rattle.htx_model.specs.Block.{Block, RequestLine, ResponseLine, Header, EndHeaders, Data, Trailer, EndTrailers, kind_of, value_of}
use Rattle.htx_model.specs.Blocks.{block_at, cut_data, cut_front, followed, extend_last, append_data, data_overhead}
use Rattle.htx_model.specs.declared.Kind.{Kind}
use Rattle.htx_model.specs.declared.Kind.TheVariants as kinds

IsData : Kind → Type 0
IsData kinds.Data = Unit {0}
IsData _ = ⊥

-- ---- data

pub data_is : (b : Block) → kind_of b ≡ kinds.Data → b ≡ Data (value_of b)
unfolding IsData
data_is (RequestLine x y z) e = absurd (subst IsData (sym e) tt)
data_is (ResponseLine x y z) e = absurd (subst IsData (sym e) tt)
data_is (Header n v) e = absurd (subst IsData (sym e) tt)
data_is EndHeaders e = absurd (subst IsData (sym e) tt)
data_is (Data p) e = refl
data_is (Trailer n v) e = absurd (subst IsData (sym e) tt)
data_is EndTrailers e = absurd (subst IsData (sym e) tt)

overhead-data_by : (b : Block) → kind_of b ≡ kinds.Data → data_overhead (b ∷ []) ≡ 0
overhead-data_by b e = ap (λ (x : Block). data_overhead (x ∷ [])) (data_is b e)

overhead-other_by : (b : Block) → (kind_of b ≡ kinds.Data → ⊥) → data_overhead (b ∷ []) ≡ 8
overhead-other_by (RequestLine x y z) ne = refl
overhead-other_by (ResponseLine x y z) ne = refl
overhead-other_by (Header n v) ne = refl
overhead-other_by EndHeaders ne = refl
overhead-other_by (Data p) ne = absurd (ne refl)
overhead-other_by (Trailer n v) ne = refl
overhead-other_by EndTrailers ne = refl

pub overhead-data : (bs : List Block) (i : ℕ) → length bs ≡ suc i → kind_of (block_at bs i) ≡ kinds.Data → data_overhead bs ≡ 0
overhead-data [] i h e = absurd (omega arith)
overhead-data (b ∷ []) zero h e = overhead-data_by b e
overhead-data (b ∷ []) (suc i) h e = absurd (omega arith)
overhead-data (b ∷ c ∷ bs) zero h e = absurd (omega arith)
overhead-data (b ∷ c ∷ bs) (suc i) h e = overhead-data (c ∷ bs) i (omega arith) e

pub overhead-other : (bs : List Block) (i : ℕ) → length bs ≡ suc i → (kind_of (block_at bs i) ≡ kinds.Data → ⊥) → data_overhead bs ≡ 8
overhead-other [] i h ne = refl
overhead-other (b ∷ []) zero h ne = overhead-other_by b ne
overhead-other (b ∷ []) (suc i) h ne = absurd (omega arith)
overhead-other (b ∷ c ∷ bs) zero h ne = absurd (omega arith)
overhead-other (b ∷ c ∷ bs) (suc i) h ne = overhead-other (c ∷ bs) i (omega arith) ne

pub overhead-none : (bs : List Block) → length bs ≡ 0 → data_overhead bs ≡ 8
overhead-none [] h = refl
overhead-none (b ∷ bs) h = absurd (omega arith)

-- ---- data at the end

-- a block of its own
extend-insert : (bs : List Block) (p : List ℕ) → data_overhead bs ≡ 8 → extend_last bs p ≡ insert bs (length bs) (Data p)
extend-insert [] p h = refl
extend-insert (RequestLine x y z ∷ []) p h = refl
extend-insert (ResponseLine x y z ∷ []) p h = refl
extend-insert (Header n v ∷ []) p h = refl
extend-insert (EndHeaders ∷ []) p h = refl
extend-insert (Data q ∷ []) p h = absurd (omega arith)
extend-insert (Trailer n v ∷ []) p h = refl
extend-insert (EndTrailers ∷ []) p h = refl
extend-insert (b ∷ c ∷ bs) p h = let f : List Block → List Block = λ xs. b ∷ xs in ap f (extend-insert (c ∷ bs) p h)

pub append-insert : (bs : List Block) (p : List ℕ) → data_overhead bs ≡ 8 → 0 < length p → append_data bs p ≡ insert bs (length bs) (Data p)
append-insert bs [] h some = absurd (omega arith)
append-insert bs (x ∷ p) h some = extend-insert bs (x ∷ p) h

-- behind a last block of data
followed-set : (b : Block) (p : List ℕ) → kind_of b ≡ kinds.Data → followed b p ≡ Data (value_of b ++ p) ∷ []
followed-set b p e = ap (λ (x : Block). followed x p) (data_is b e)

extend-set : (bs : List Block) (i : ℕ) (p : List ℕ) → length bs ≡ suc i → kind_of (block_at bs i) ≡ kinds.Data → extend_last bs p ≡ set bs i (Data (value_of (block_at bs i) ++ p))
extend-set [] i p h e = absurd (omega arith)
extend-set (b ∷ []) zero p h e = followed-set b p e
extend-set (b ∷ []) (suc i) p h e = absurd (omega arith)
extend-set (b ∷ c ∷ bs) zero p h e = absurd (omega arith)
extend-set (b ∷ c ∷ bs) (suc i) p h e = let f : List Block → List Block = λ xs. b ∷ xs in ap f (extend-set (c ∷ bs) i p (omega arith) e)

pub append-set : (bs : List Block) (i : ℕ) (p : List ℕ) → length bs ≡ suc i → kind_of (block_at bs i) ≡ kinds.Data → 0 < length p → append_data bs p ≡ set bs i (Data (value_of (block_at bs i) ++ p))
append-set bs i [] h e some = absurd (omega arith)
append-set bs i (x ∷ p) h e some = extend-set bs i (x ∷ p) h e

-- ---- data that is cut

around-remove : (bs : List Block) (i : ℕ) → i < length bs → (take i bs ++ []) ++ drop (i + 1) bs ≡ remove bs i
around-remove [] i h = absurd (omega arith)
around-remove (b ∷ bs) zero h = refl
around-remove (b ∷ bs) (suc i) h =
    let f : List Block → List Block = λ xs. b ∷ xs in
    let next : suc i + 1 ≡ suc (i + 1) = omega arith in
    ap (λ (m : ℕ). (take (suc i) (b ∷ bs) ++ []) ++ drop m (b ∷ bs)) next ∙ ap f (around-remove bs i (omega arith))

around-set : (bs : List Block) (i : ℕ) (x : Block) → i < length bs → (take i bs ++ (x ∷ [])) ++ drop (i + 1) bs ≡ set bs i x
around-set [] i x h = absurd (omega arith)
around-set (b ∷ bs) zero x h = refl
around-set (b ∷ bs) (suc i) x h =
    let f : List Block → List Block = λ xs. b ∷ xs in
    let next : suc i + 1 ≡ suc (i + 1) = omega arith in
    ap (λ (m : ℕ). (take (suc i) (b ∷ bs) ++ (x ∷ [])) ++ drop m (b ∷ bs)) next ∙ ap f (around-set bs i x (omega arith))

-- all of the data
pub cut-remove : (bs : List Block) (i n : ℕ) → i < length bs → kind_of (block_at bs i) ≡ kinds.Data → length (value_of (block_at bs i)) ≤ n → cut_front bs i n ≡ remove bs i
cut-remove bs i n h e all =
    let p = value_of (block_at bs i) in
    let none : cut_data (block_at bs i) n ≡ [] = ap (λ (b : Block). cut_data b n) (data_is (block_at bs i) e) ∙ ap (λ (t : Bool). if t then Data (drop n p) ∷ [] else []) (le-ltb n (length p) all) in
    ap (λ (xs : List Block). (take i bs ++ xs) ++ drop (i + 1) bs) none ∙ around-remove bs i h

-- a part of it
pub cut-set : (bs : List Block) (i n : ℕ) → i < length bs → kind_of (block_at bs i) ≡ kinds.Data → n < length (value_of (block_at bs i)) → cut_front bs i n ≡ set bs i (Data (drop n (value_of (block_at bs i))))
cut-set bs i n h e part =
    let p = value_of (block_at bs i) in
    let one : cut_data (block_at bs i) n ≡ Data (drop n p) ∷ [] = ap (λ (b : Block). cut_data b n) (data_is (block_at bs i) e) ∙ ap (λ (t : Bool). if t then Data (drop n p) ∷ [] else []) (lt-ltb n (length p) part) in
    ap (λ (xs : List Block). (take i bs ++ xs) ++ drop (i + 1) bs) one ∙ around-set bs i (Data (drop n p)) h
