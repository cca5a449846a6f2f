-- Defragmentation, and one payload behind the others: the others' addresses are as if it had been gone.
use Rattle.std.proofs.Common.{refl, ◌≡◌, ◌≢◌, ℕ, zero, suc, ◌+◌, ◌*◌, ◌<◌, ◌≤◌, inl, inr, List, [], ◌∷◌, length, map, ap, sym, ◌∙◌, arith, nat_lt, if◌then◌else◌, sum_by, get_or, set}
use Rattle.std.specs.Prelude.{insert, remove}
use Rattle.std.proofs.lemmas.Bool.{cases_lt, cases_eq, lt-ltb, le-ltb}
use Rattle.std.proofs.lemmas.List.Sums.{sum_by-remove}
use Rattle.htx_model.specs.Block.{Block, payload_len, EndHeaders}
use Rattle.htx_arena.specs.declared.space.space.Desc.{Desc}
use Rattle.htx_arena.specs.Space.Windows.{desc_at}
use Rattle.htx_arena.specs.Layout.Raw.{listed, addr_in, len_in, block_in, blocks_of, addrs_of}
use Rattle.htx_arena.specs.Layout.Sound.{IsSound, end_of, IsTold, IsFilled, IsLaid, IsTop}
use Rattle.htx_arena.specs.Layout.Moves.{IsLast, IsShifted, IsUpTo, IsSunk, CanSink}
use Rattle.htx_arena.specs.Layout.Place.{below, packed}
use Rattle.htx_arena.proofs.LayoutLemmas.RawLemmas.{length-listed, get_or-listed}
use Rattle.htx_arena.proofs.LayoutLemmas.MoveLemmas.{listed-set, shifted_told, shifted_filled}
use Rattle.htx_arena.proofs.LayoutLemmas.PackLemmas.{part, term_in, term_out, behind_other, map_listed}
use Rattle.htx_arena.proofs.LayoutLemmas.TopLemmas.{top_reached}
use Rattle.htx_arena.proofs.LayoutLemmas.SinkLemmas.{sunk_here, sunk_above, sunk_below, sunk_ends, sunk_front, sunk_shifts, IsSound-sunk}

pub insert-remove : {X : Type 0} (xs : List X) (i : ℕ) (x : X) → i < length xs → insert (remove xs i) i x ≡ set xs i x
insert-remove [] i x h = absurd (omega arith)
insert-remove (y ∷ ys) zero x h = refl
insert-remove {X} (y ∷ ys) (suc i) x h = let f : List X → List X = λ zs. y ∷ zs in ap f (insert-remove ys i x (omega arith))

map-remove : {X Y : Type 0} (f : X → Y) (xs : List X) (i : ℕ) → i < length xs → map f (remove xs i) ≡ remove (map f xs) i
map-remove f [] i h = absurd (omega arith)
map-remove f (y ∷ ys) zero h = refl
map-remove {X} {Y} f (y ∷ ys) (suc i) h = let g : List Y → List Y = λ zs. f y ∷ zs in ap g (map-remove f ys i (omega arith))

-- one payload counts no more
below-remove : (a : ℕ) (bs : List Block) (xs : List ℕ) (i : ℕ) (b : Block) → i < length bs → i < length xs →
    below a (remove bs i) (remove xs i) + (if nat_lt (get_or xs i 0) a then payload_len (get_or bs i b) else 0) ≡ below a bs xs
below-remove a [] xs i b h g = absurd (omega arith)
below-remove a (y ∷ ys) [] i b h g = absurd (omega arith)
below-remove a (y ∷ ys) (x ∷ xs) zero b h g = omega arith
below-remove a (y ∷ ys) (x ∷ xs) (suc i) b h g = let rest = below-remove a ys xs i b (omega arith) (omega arith) in omega arith

-- ---- what stands below a higher address is no less

part_grows : (raw : List ℕ) (a c i m : ℕ) → a ≤ c → part raw a i m ≤ part raw c i m
part_grows raw a c i zero le = omega arith
part_grows raw a c i (suc m) le =
    let rest = part_grows raw a c (i + 1) m le in
    elim (cases_lt (addr_in raw i) a) [
      | inl lt ↦ let x = term_in raw a i lt in let y = term_in raw c i (omega arith) in omega arith
      | inr ge ↦ let x = term_out raw a i ge in omega arith
    ]

part_leaps : (raw : List ℕ) (c k i m : ℕ) → addr_in raw k < c → i ≤ k → k < i + m → part raw (addr_in raw k) i m + payload_len (block_in raw k) ≤ part raw c i m
part_leaps raw c k i zero lt from to = absurd (omega arith)
part_leaps raw c k i (suc m) lt from to =
    elim (cases_eq k i) [
      | inl e ↦
          let rest = part_grows raw (addr_in raw k) c (i + 1) m (omega arith) in
          let same = ap (addr_in raw) e in
          let long = ap (λ (x : ℕ). payload_len (block_in raw x)) e in
          let x = term_out raw (addr_in raw k) i (omega arith) in
          let y = term_in raw c i (omega arith) in
          omega arith
      | inr ne ↦
          let rest = part_leaps raw c k (i + 1) m lt (omega arith) (omega arith) in
          elim (cases_lt (addr_in raw i) (addr_in raw k)) [
            | inl less ↦ let x = term_in raw (addr_in raw k) i less in let y = term_in raw c i (omega arith) in omega arith
            | inr more ↦ let x = term_out raw (addr_in raw k) i more in omega arith
          ]
    ]

-- ---- an address after defragmentation

pub packed_addr : (raw mid : List ℕ) (n j : ℕ) → addrs_of mid n ≡ packed (blocks_of raw n) (addrs_of raw n) → j < n → addr_in mid j ≡ part raw (addr_in raw j) 0 n
packed_addr raw mid n j e small =
    let f : ℕ → ℕ = λ k. part raw (addr_in raw k) 0 n in
    sym (get_or-listed (addr_in mid) n j 0 small) ∙ ap (λ (xs : List ℕ). get_or xs j 0) (e ∙ map_listed (λ (a : ℕ). below a (blocks_of raw n) (addrs_of raw n)) (addr_in raw) 0 n) ∙ get_or-listed f n j 0 small

-- the lengths that two arrays with the same blocks tell
same_len : (raw mid : List ℕ) (n j : ℕ) → IsTold raw n → IsTold mid n → blocks_of mid n ≡ blocks_of raw n → j < n → len_in mid j ≡ len_in raw j
same_len raw mid n j told told' e small =
    let block : block_in mid j ≡ block_in raw j = sym (get_or-listed (block_in mid) n j EndHeaders small) ∙ ap (λ (bs : List Block). get_or bs j EndHeaders) e ∙ get_or-listed (block_in raw) n j EndHeaders small in
    sym (told'.told j small).len ∙ ap payload_len block ∙ (told.told j small).len

abbrev pub others : List ℕ → ℕ → ℕ → List ℕ
others raw n i = packed (remove (blocks_of raw n) i) (remove (addrs_of raw n) i)

-- without the payload of number i
others_below : (raw : List ℕ) (n i a : ℕ) → IsTold raw n → i < n → below a (remove (blocks_of raw n) i) (remove (addrs_of raw n) i) + (if nat_lt (addr_in raw i) a then len_in raw i else 0) ≡ part raw a 0 n
others_below raw n i a told small =
    let bs = length-listed (block_in raw) n in
    let xs = length-listed (addr_in raw) n in
    let step = below-remove a (blocks_of raw n) (addrs_of raw n) i EndHeaders (omega arith) (omega arith) in
    let block = get_or-listed (block_in raw) n i EndHeaders small in
    let addr = get_or-listed (addr_in raw) n i 0 small in
    let len = ap payload_len block ∙ (told.told i small).len in
    let same : (if nat_lt (get_or (addrs_of raw n) i 0) a then payload_len (get_or (blocks_of raw n) i EndHeaders) else 0) ≡ (if nat_lt (addr_in raw i) a then len_in raw i else 0) =
    ap (λ (x : ℕ). if nat_lt x a then payload_len (get_or (blocks_of raw n) i EndHeaders) else 0) addr ∙ ap (λ (l : ℕ). if nat_lt (addr_in raw i) a then l else 0) len in
    omega arith

pub carried_addrs : (raw mid new : List ℕ) (n i end : ℕ) → IsSound raw n → IsFilled raw n → IsTold raw n → IsTold mid n → blocks_of mid n ≡ blocks_of raw n → addrs_of mid n ≡ packed (blocks_of raw n) (addrs_of raw n) →
    end ≡ sum_by payload_len (blocks_of raw n) → i < n → IsSunk mid new n i end → addrs_of new n ≡ insert (others raw n i) i (sum_by payload_len (remove (blocks_of raw n) i))
carried_addrs raw mid new n i end sound filled told told' blocks addrs total small is =
    let bs = length-listed (block_in raw) n in
    let xs = length-listed (addr_in raw) n in
    let F : ℕ → ℕ = λ a. below a (remove (blocks_of raw n) i) (remove (addrs_of raw n) i) in
    let h : ℕ → ℕ = λ j. F (addr_in raw j) in
    let len_i = same_len raw mid n i told told' blocks small in
    let at_i = packed_addr raw mid n i addrs small in
    let block = get_or-listed (block_in raw) n i EndHeaders small in
    let own = ap payload_len block ∙ (told.told i small).len in
    let less = sum_by-remove payload_len (blocks_of raw n) i EndHeaders (omega arith) in
    let x = sum_by payload_len (remove (blocks_of raw n) i) in
    let here : addr_in new i ≡ x = let a = ap (λ (d : Desc). d.addr) (is.desc i small) in let b = sunk_here mid i end in omega arith in
    let each : (j : ℕ) → j < n → j ≢ i → addr_in new j ≡ h j = λ j j_small ne.
    let at_j = packed_addr raw mid n j addrs j_small in
    let a = ap (λ (d : Desc). d.addr) (is.desc j j_small) in
    let out = others_below raw n i (addr_in raw j) told small in
    let some = filled.filled j j_small in
    elim (cases_lt (addr_in raw j) (addr_in raw i)) [
      | inl lt ↦
          let leap = part_leaps raw (addr_in raw i) j 0 n lt (omega arith) (omega arith) in
          let tells = (told.told j j_small).len in
          let b = sunk_below mid i end j ne (omega arith) in
          let none : (if nat_lt (addr_in raw i) (addr_in raw j) then len_in raw i else 0) ≡ 0 = rw (le-ltb (addr_in raw i) (addr_in raw j) (omega arith)) refl in
          omega arith
      | inr ge ↦
          let apart = behind_other raw n i j sound filled small j_small ne ge in
          let own_some = filled.filled i small in
          let grows = part_grows raw (addr_in raw i) (addr_in raw j) 0 n ge in
          let b = sunk_above mid i end j ne (omega arith) in
          let one : (if nat_lt (addr_in raw i) (addr_in raw j) then len_in raw i else 0) ≡ len_in raw i = rw (lt-ltb (addr_in raw i) (addr_in raw j) (omega arith)) refl in
          omega arith
    ] in
    let as_set = listed-set h (addr_in new) n i x small here each in
    let hs = length-listed h n in
    let removed : remove (listed h n) i ≡ others raw n i = ap (λ (zs : List ℕ). remove zs i) (sym (map_listed F (addr_in raw) 0 n)) ∙ sym (map-remove F (addrs_of raw n) i (omega arith)) in
    as_set ∙ sym (insert-remove (listed h n) i x (omega arith)) ∙ ap (λ (zs : List ℕ). insert zs i x) removed

-- ---- what is carried

pub record IsCarried (raw new : List ℕ) (n i end : ℕ) : Type 0 where
  pub shifted : IsShifted raw new n
  pub last : IsLast new n i
  pub laid : IsLaid new n 0
  pub ends : end_of (desc_at new i) ≡ end
  pub topped : IsTop new n end

pub can_carry : (raw mid : List ℕ) (n i end : ℕ) → IsLaid raw n 0 → IsShifted raw mid n → IsSound mid n → IsUpTo mid n end → end + 8 * n ≤ length raw → i < n → CanSink mid n i end
can_carry raw mid n i end laid shifted sound up room within = let size = shifted.size in record { sound = sound; filled = shifted_filled raw mid n shifted laid.filled; within = within; up_to = up; room = omega arith }

pub carried : (raw mid new : List ℕ) (n i end : ℕ) → IsLaid raw n 0 → IsShifted raw mid n → CanSink mid n i end → IsSunk mid new n i end → IsCarried raw new n i end
carried raw mid new n i end laid shifted can is =
    let size = is.size in
    let was = shifted.size in
    let most = laid.most in
    let sunk = sunk_shifts mid new n i end is in
    let all : IsShifted raw new n = record { size = size ∙ was; info = λ j small. sunk.info j small ∙ shifted.info j small; payload = λ j small. sunk.payload j small ∙ shifted.payload j small } in
    let here = sunk_here mid i end in
    let addr = ap (λ (d : Desc). d.addr) (is.desc i can.within) in
    let ends : end_of (desc_at new i) ≡ end = let e = ap end_of (is.desc i can.within) in let up = can.up_to.up_to i can.within in omega arith in
    let now : IsLaid new n 0 = record {
      sound = IsSound-sunk mid new n i end can is;
      told = shifted_told raw new n all laid.told;
      filled = shifted_filled raw new n all laid.filled;
      parted = record { parted = λ j small. inr (omega arith) };
      small = omega arith;
      most = omega arith;
    } in
    let up_to : IsUpTo new n end = record { up_to = λ j small. let e = ap end_of (is.desc j small) in let h = sunk_ends mid n i end j can small in omega arith } in
    record {
      shifted = all;
      last = record { last = λ j small ne. let front = sunk_front mid n i end j can small ne in let e = ap end_of (is.desc j small) in omega arith };
      laid = now;
      ends = ends;
      topped = top_reached new n end i now.sound now.told up_to (λ some. (can.within, ends));
    }
