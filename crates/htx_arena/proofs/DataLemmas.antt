-- Where appended data goes, and what is left of a cut.
use Rattle.std.proofs.Common.{◌≡◌, ℕ, zero, suc, ◌+◌, ◌-◌, ◌<◌, ◌≤◌, List, length, min, take, get_or, set, refl, subst, ap, sym, ◌∙◌, arith}
use Rattle.std.specs.Prelude.{nat_eq, if◌then◌else◌, Bool, true, false}
use Rattle.std.proofs.lemmas.Bool.{eq-eqb, ne_eqb, lt-ltb, le-ltb}
use Rattle.htx_model.specs.Block.{Block, RequestLine, ResponseLine, Header, EndHeaders, Data, Trailer, EndTrailers, kind_of, value_of, payload_len}
use Rattle.htx_model.specs.Blocks.{load, block_at, taken, data_overhead}
use Rattle.htx_model.proofs.PublicLaws.{taken_is, data_is, overhead-data}
use Rattle.std.proofs.lemmas.List.{length-take-le}
use Rattle.htx_model.specs.declared.Kind.TheVariants as kinds
use Rattle.htx_arena.specs.Layout.Contents.{Contents}
use Rattle.htx_arena.specs.Layout.Addresses.{Places, inserted, appended, appended_to, extended, cut_to, removed}

-- ---- where appended data goes

last_is : (s : Contents) (i : ℕ) → length s.blocks ≡ suc i → length s.blocks - 1 ≡ i
last_is s i h = omega arith

some_is : (n : ℕ) (x y : Places) → 0 < n → (if nat_eq n 0 then x else y) ≡ y
some_is n x y h = rw (ne_eqb n 0 (omega arith)) refl

pub appended-data : (s : Contents) (i len : ℕ) → length s.blocks ≡ suc i → kind_of (block_at s.blocks i) ≡ kinds.Data → 0 < len → appended s len ≡ extended s i (get_or s.addrs i 0 + payload_len (block_at s.blocks i)) len
appended-data s i len h e some =
    let b = block_at s.blocks i in
    let q = value_of b in
    let is = data_is b e in
    let last : appended_to s i b len ≡ extended s i (get_or s.addrs i 0 + payload_len b) len = ap (λ (x : Block). appended_to s i x len) is ∙ ap (λ (x : Block). extended s i (get_or s.addrs i 0 + payload_len x) len) (sym is) in
    some_is len _ _ some ∙ some_is (length s.blocks) _ _ (omega arith) ∙ ap (λ (k : ℕ). appended_to s k (block_at s.blocks k) len) (last_is s i h) ∙ last

other_to : (s : Contents) (i len : ℕ) (b : Block) → (kind_of b ≡ kinds.Data → ⊥) → appended_to s i b len ≡ inserted s (i + 1) len
other_to s i len (RequestLine x y z) ne = refl
other_to s i len (ResponseLine x y z) ne = refl
other_to s i len (Header n v) ne = refl
other_to s i len EndHeaders ne = refl
other_to s i len (Data p) ne = absurd (ne refl)
other_to s i len (Trailer n v) ne = refl
other_to s i len EndTrailers ne = refl

appended-other_by : (s : Contents) (n len : ℕ) → length s.blocks ≡ n → data_overhead s.blocks ≡ 8 → 0 < len → appended s len ≡ inserted s n len
appended-other_by s zero len h e some = some_is len _ _ some ∙ rw (eq-eqb (length s.blocks) 0 h) refl
appended-other_by s (suc i) len h e some =
    let ne : kind_of (block_at s.blocks i) ≡ kinds.Data → ⊥ = λ d. let zero_is = overhead-data s.blocks i h d in absurd (omega arith) in
    let next : i + 1 ≡ suc i = omega arith in
    some_is len _ _ some ∙ some_is (length s.blocks) _ _ (omega arith) ∙ ap (λ (k : ℕ). appended_to s k (block_at s.blocks k) len) (last_is s i h) ∙ other_to s i len (block_at s.blocks i) ne ∙ ap (λ (k : ℕ). inserted s k len) next

pub appended-other : (s : Contents) (len : ℕ) → data_overhead s.blocks ≡ 8 → 0 < len → appended s len ≡ inserted s (length s.blocks) len
appended-other s len e some = appended-other_by s (length s.blocks) len refl e some

-- ---- how much is appended

pub record Takes (s : Contents) (bytes : List ℕ) (over k : ℕ) : Type 0 where
  pub is : k ≡ taken s.blocks s.size bytes
  pub long : length (take k bytes) ≡ k
  pub fits : 0 < k → load s.blocks + over + k ≤ s.size

pub takes : (s : Contents) (bytes : List ℕ) (over room k : ℕ) → data_overhead s.blocks ≡ over → room + load s.blocks ≡ s.size → k ≡ min (length bytes) (room - over) → Takes s bytes over k
takes s bytes over room k e free is =
    let most = taken_is s.blocks s.size bytes in
    record { is = omega arith; long = length-take-le k bytes (omega arith); fits = λ some. omega arith }

-- ---- cuts

pub cut_to-part : (s : Contents) (i n : ℕ) → n < payload_len (block_at s.blocks i) → cut_to s i n ≡ record { addrs = set s.addrs i (get_or s.addrs i 0 + n); front = s.front }
cut_to-part s i n h = rw (lt-ltb n (payload_len (block_at s.blocks i)) h) refl

pub cut_to-all : (s : Contents) (i n : ℕ) → payload_len (block_at s.blocks i) ≤ n → cut_to s i n ≡ removed s i
cut_to-all s i n h = rw (le-ltb n (payload_len (block_at s.blocks i)) h) refl

-- ---- truth

IsT : Bool → Type 0
IsT true = Unit {0}
IsT false = ⊥

pub not_true : false ≡ true → ⊥
unfolding IsT
not_true e = subst IsT (sym e) tt

pub not_false : true ≡ false → ⊥
unfolding IsT
not_false e = subst IsT e tt
