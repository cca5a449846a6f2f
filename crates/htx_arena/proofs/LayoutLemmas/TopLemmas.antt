-- The greatest end of a payload after an edit of the list.
use Rattle.std.proofs.Common.{refl, ◌≡◌, ◌∙◌, ℕ, zero, suc, ◌+◌, ◌-◌, ◌<◌, ◌≤◌, inl, inr, List, [], ◌∷◌, length, drop, get_or, set, max, subst, arith}
use Rattle.std.specs.Prelude.{insert, remove}
use Rattle.std.proofs.lemmas.Bool.{cases_lt}
use Rattle.htx_model.specs.Block.{Block, payload_len}
use Rattle.htx_model.specs.Blocks.{block_at}
use Rattle.htx_arena.specs.Space.Windows.{desc_at}
use Rattle.htx_arena.specs.Layout.Raw.{addr_in, block_in, len_in, blocks_of, addrs_of}
use Rattle.htx_arena.specs.Layout.Place.{top}
use Rattle.htx_arena.specs.Layout.Sound.{IsSound, IsTold, IsTop, IsLaid, end_of}
use Rattle.htx_arena.specs.Layout.Moves.{IsUpTo}
use Rattle.htx_arena.proofs.LayoutLemmas.ScanLemmas.{top_from}
use Rattle.htx_arena.proofs.LayoutLemmas.RawLemmas.{length-listed}
use Rattle.htx_arena.proofs.LayoutLemmas.TellLemmas.{len_told, addr_told}

-- ---- lists

-- no payload ends behind the top
pub end-top : (bs : List Block) (xs : List ℕ) (i : ℕ) → i < length bs → length xs ≡ length bs → get_or xs i 0 + payload_len (block_at bs i) ≤ top bs xs
end-top (b ∷ bs) (a ∷ xs) zero h e = omega arith
end-top (b ∷ bs) (a ∷ xs) (suc i) h e = let rest = end-top bs xs i (omega arith) (omega arith) in omega arith
end-top bs xs i h e = absurd (omega arith)

pub top-insert : (bs : List Block) (xs : List ℕ) (i : ℕ) (b : Block) (a : ℕ) → i ≤ length bs → length xs ≡ length bs → top (insert bs i b) (insert xs i a) ≡ max (top bs xs) (a + payload_len b)
top-insert [] [] zero b a h e = omega arith
top-insert (x ∷ bs) (y ∷ xs) zero b a h e = omega arith
top-insert (x ∷ bs) (y ∷ xs) (suc i) b a h e = let rest = top-insert bs xs i b a (omega arith) (omega arith) in omega arith
top-insert bs xs i b a h e = absurd (omega arith)

pub top-remove : (bs : List Block) (xs : List ℕ) (i : ℕ) → i < length bs → length xs ≡ length bs → max (top (remove bs i) (remove xs i)) (get_or xs i 0 + payload_len (block_at bs i)) ≡ top bs xs
top-remove (b ∷ bs) (a ∷ xs) zero h e = omega arith
top-remove (b ∷ bs) (a ∷ xs) (suc i) h e = let rest = top-remove bs xs i (omega arith) (omega arith) in omega arith
top-remove bs xs i h e = absurd (omega arith)

-- one block is another, where its payload stands
pub top-set : (bs : List Block) (xs : List ℕ) (i : ℕ) (b : Block) → i < length bs → length xs ≡ length bs →
    max (top (set bs i b) xs) (get_or xs i 0 + payload_len (block_at bs i)) ≡ max (top bs xs) (get_or xs i 0 + payload_len b)
top-set (x ∷ bs) (a ∷ xs) zero b h e = omega arith
top-set (x ∷ bs) (a ∷ xs) (suc i) b h e = let rest = top-set bs xs i b (omega arith) (omega arith) in omega arith
top-set bs xs i b h e = absurd (omega arith)

pub top-longer : (bs : List Block) (xs : List ℕ) (i : ℕ) (b : Block) → i < length bs → length xs ≡ length bs → payload_len (block_at bs i) ≤ payload_len b → top (set bs i b) xs ≡ max (top bs xs) (get_or xs i 0 + payload_len b)
top-longer (x ∷ bs) (y ∷ xs) zero b h e f = omega arith
top-longer (x ∷ bs) (y ∷ xs) (suc i) b h e f = let rest = top-longer bs xs i b (omega arith) (omega arith) f in omega arith
top-longer bs xs i b h e f = absurd (omega arith)

-- one block is another that ends where it ended
pub top-stays : (bs : List Block) (xs : List ℕ) (i : ℕ) (b : Block) (a : ℕ) → i < length bs → length xs ≡ length bs → a + payload_len b ≡ get_or xs i 0 + payload_len (block_at bs i) → top (set bs i b) (set xs i a) ≡ top bs xs
top-stays (x ∷ bs) (y ∷ xs) zero b a h e f = omega arith
top-stays (x ∷ bs) (y ∷ xs) (suc i) b a h e f = let rest = top-stays bs xs i b a (omega arith) (omega arith) f in omega arith
top-stays bs xs i b a h e f = absurd (omega arith)

pub top-drop : (bs : List Block) (xs : List ℕ) (k : ℕ) → length xs ≡ length bs → k ≤ length bs → ((j : ℕ) → j < k → get_or xs j 0 + payload_len (block_at bs j) < top bs xs) → top (drop k bs) (drop k xs) ≡ top bs xs
top-drop bs xs zero e h below = refl
top-drop [] xs (suc k) e h below = absurd (omega arith)
top-drop (b ∷ bs) [] (suc k) e h below = absurd (omega arith)
top-drop (b ∷ bs) (a ∷ xs) (suc k) e h below =
    let here = below 0 (omega arith) in
    let same : top bs xs ≡ top (b ∷ bs) (a ∷ xs) = omega arith in
    top-drop bs xs k (omega arith) (omega arith) (λ j small. let one = below (suc j) (omega arith) in omega arith) ∙ same

-- ---- the array

pub top_from_under : (raw : List ℕ) (i m most : ℕ) → ((j : ℕ) → i ≤ j → j < i + m → addr_in raw j + payload_len (block_in raw j) ≤ most) → top_from raw i m ≤ most
top_from_under raw i zero most each = omega arith
top_from_under raw i (suc m) most each =
    let here = each i (omega arith) (omega arith) in
    let rest = top_from_under raw (i + 1) m most (λ j from to. each j (omega arith) (omega arith)) in
    omega arith

pub is_top : (raw : List ℕ) (n t : ℕ) → IsSound raw n → IsTold raw n → t ≡ top (blocks_of raw n) (addrs_of raw n) → IsTop raw n t
is_top raw n t sound told e =
    let under = top_from_under raw 0 n (length raw) (λ j from to.
    let ends = sound.within j (omega arith) in
    let len = (told.told j (omega arith)).len in
    omega arith) in
    record { is = e; under = omega arith }

-- ---- edits of the array

ends : (raw : List ℕ) (n i : ℕ) → IsTold raw n → i < n → get_or (addrs_of raw n) i 0 + payload_len (block_at (blocks_of raw n) i) ≡ end_of (desc_at raw i)
ends raw n i told small = λ j. addr_told raw n i small j + len_told raw n i told small j

-- all payloads end at or below a place, and one of them there
pub top_reached : (raw : List ℕ) (n t j : ℕ) → IsSound raw n → IsTold raw n → IsUpTo raw n t → (0 < t → (j < n) × (end_of (desc_at raw j) ≡ t)) → IsTop raw n t
top_reached raw n t j sound told up reached =
    let under = top_from_under raw 0 n t (λ k from to. let e = up.up_to k (omega arith) in let len = (told.told k (omega arith)).len in omega arith) in
    let is : t ≡ top (blocks_of raw n) (addrs_of raw n) = elim (cases_lt 0 t) [
      | inl some ↦
          let r = reached some in
          let small = r.0 in
          let here = r.1 in
          let below = end-top (blocks_of raw n) (addrs_of raw n) j (omega (arith, length-listed (block_in raw) n)) (omega (arith, length-listed (block_in raw) n, length-listed (addr_in raw) n)) in
          let end = ends raw n j told small in
          omega arith
      | inr none ↦ omega arith
    ] in
    is_top raw n t sound told is

-- one more block
pub top_placed : (raw new : List ℕ) (n i t f a : ℕ) (b : Block) → IsTop raw n t → i ≤ n → blocks_of new (n + 1) ≡ insert (blocks_of raw n) i b → addrs_of new (n + 1) ≡ insert (addrs_of raw n) i a → IsLaid new (n + 1) f → IsTop new (n + 1) (max t (a + payload_len b))
top_placed raw new n i t f a b was small blocks addrs laid =
    let both = top-insert (blocks_of raw n) (addrs_of raw n) i b a (omega (arith, length-listed (block_in raw) n)) (omega (arith, length-listed (block_in raw) n, length-listed (addr_in raw) n)) in
    let is = was.is in
    let now : top (blocks_of new (n + 1)) (addrs_of new (n + 1)) ≡ top (insert (blocks_of raw n) i b) (insert (addrs_of raw n) i a) = (λ j. top (blocks j) (addrs j)) in
    is_top new (n + 1) (max t (a + payload_len b)) laid.sound laid.told (omega arith)

-- a block that ended below the top is gone
pub top_gone : (raw new : List ℕ) (n i t f : ℕ) → IsTold raw n → IsTop raw n t → i < n → blocks_of new (n - 1) ≡ remove (blocks_of raw n) i → addrs_of new (n - 1) ≡ remove (addrs_of raw n) i → IsLaid new (n - 1) f → end_of (desc_at raw i) < t → IsTop new (n - 1) t
top_gone raw new n i t f told was small blocks addrs laid below =
    let both = top-remove (blocks_of raw n) (addrs_of raw n) i (omega (arith, length-listed (block_in raw) n)) (omega (arith, length-listed (block_in raw) n, length-listed (addr_in raw) n)) in
    let end = ends raw n i told small in
    let is = was.is in
    let now : top (blocks_of new (n - 1)) (addrs_of new (n - 1)) ≡ top (remove (blocks_of raw n) i) (remove (addrs_of raw n) i) = (λ j. top (blocks j) (addrs j)) in
    is_top new (n - 1) t laid.sound laid.told (omega arith)

-- the first blocks, which ended below the top, are gone
pub top_dropped : (raw new : List ℕ) (n k t f : ℕ) → IsTold raw n → IsTop raw n t → k ≤ n → blocks_of new (n - k) ≡ drop k (blocks_of raw n) → addrs_of new (n - k) ≡ drop k (addrs_of raw n) → IsLaid new (n - k) f → ((j : ℕ) → j < k → end_of (desc_at raw j) < t) → IsTop new (n - k) t
top_dropped raw new n k t f told was small blocks addrs laid below =
    let is = was.is in
    let kept = top-drop (blocks_of raw n) (addrs_of raw n) k (omega (arith, length-listed (block_in raw) n, length-listed (addr_in raw) n)) (omega (arith, length-listed (block_in raw) n)) (λ j h. let end = ends raw n j told (omega arith) in let under = below j h in omega arith) in
    let now : top (blocks_of new (n - k)) (addrs_of new (n - k)) ≡ top (drop k (blocks_of raw n)) (drop k (addrs_of raw n)) = (λ j. top (blocks j) (addrs j)) in
    is_top new (n - k) t laid.sound laid.told (omega arith)

-- a block that ended below the top is no longer than it was
pub top_shorter : (raw new : List ℕ) (n i t f : ℕ) (b : Block) → IsTold raw n → IsTop raw n t → i < n → blocks_of new n ≡ set (blocks_of raw n) i b → addrs_of new n ≡ addrs_of raw n → payload_len b ≤ len_in raw i → IsLaid new n f → end_of (desc_at raw i) < t → IsTop new n t
top_shorter raw new n i t f b told was small blocks addrs shorter laid below =
    let both = top-set (blocks_of raw n) (addrs_of raw n) i b (omega (arith, length-listed (block_in raw) n)) (omega (arith, length-listed (block_in raw) n, length-listed (addr_in raw) n)) in
    let end = ends raw n i told small in
    let addr = addr_told raw n i small in
    let is = was.is in
    let now : top (blocks_of new n) (addrs_of new n) ≡ top (set (blocks_of raw n) i b) (addrs_of raw n) = (λ j. top (blocks j) (addrs j)) in
    is_top new n t laid.sound laid.told (omega arith)

-- a block is no shorter than it was
pub top_longer : (raw new : List ℕ) (n i t f : ℕ) (b : Block) → IsTold raw n → IsTop raw n t → i < n → blocks_of new n ≡ set (blocks_of raw n) i b → addrs_of new n ≡ addrs_of raw n → len_in raw i ≤ payload_len b → IsLaid new n f → IsTop new n (max t (addr_in raw i + payload_len b))
top_longer raw new n i t f b told was small blocks addrs longer laid =
    let len = len_told raw n i told small in
    let both = top-longer (blocks_of raw n) (addrs_of raw n) i b (omega (arith, length-listed (block_in raw) n)) (omega (arith, length-listed (block_in raw) n, length-listed (addr_in raw) n)) (omega arith) in
    let addr = addr_told raw n i small in
    let is = was.is in
    let now : top (blocks_of new n) (addrs_of new n) ≡ top (set (blocks_of raw n) i b) (addrs_of raw n) = (λ j. top (blocks j) (addrs j)) in
    is_top new n (max t (addr_in raw i + payload_len b)) laid.sound laid.told (omega arith)

-- a block ends where it ended
pub top_cut : (raw new : List ℕ) (n i a t f : ℕ) (b : Block) → IsTold raw n → IsTop raw n t → i < n → blocks_of new n ≡ set (blocks_of raw n) i b → addrs_of new n ≡ set (addrs_of raw n) i a → a + payload_len b ≡ end_of (desc_at raw i) → IsLaid new n f → IsTop new n t
top_cut raw new n i a t f b told was small blocks addrs same laid =
    let end = ends raw n i told small in
    let both = top-stays (blocks_of raw n) (addrs_of raw n) i b a (omega (arith, length-listed (block_in raw) n)) (omega (arith, length-listed (block_in raw) n, length-listed (addr_in raw) n)) (omega arith) in
    let is = was.is in
    let now : top (blocks_of new n) (addrs_of new n) ≡ top (set (blocks_of raw n) i b) (set (addrs_of raw n) i a) = (λ j. top (blocks j) (addrs j)) in
    is_top new n t laid.sound laid.told (omega arith)

-- a block is as long as it was
pub top_same : (raw new : List ℕ) (n i t f : ℕ) (b : Block) → IsTold raw n → IsTop raw n t → i < n → blocks_of new n ≡ set (blocks_of raw n) i b → addrs_of new n ≡ addrs_of raw n → payload_len b ≡ len_in raw i → IsLaid new n f → IsTop new n t
top_same raw new n i t f b told was small blocks addrs same laid =
    let long = top_longer raw new n i t f b told was small blocks addrs (omega arith) laid in
    let below = end-top (blocks_of raw n) (addrs_of raw n) i (omega (arith, length-listed (block_in raw) n)) (omega (arith, length-listed (block_in raw) n, length-listed (addr_in raw) n)) in
    let end = ends raw n i told small in
    let is = was.is in
    let all : max t (addr_in raw i + payload_len b) ≡ t = omega arith in
    subst (IsTop new n) all long
