use Rattle.std.proofs.Common.{true, subst, ◌≡◌, ℕ, ◌+◌, ◌*◌, ◌-◌, ◌<◌, ◌≤◌, inl, inr, List, length, get_or, drop, refl, ap, sym, ◌∙◌, arith, length-drop}
use Rattle.std.specs.Prelude.{suc, insert, remove, ◌++◌, take}
use Rattle.std.proofs.lemmas.Bool.{cases_lt, cases_eq}
use Rattle.std.proofs.lemmas.List.{same_lists, length-take-le, length-append, take_all, get_or-take, get_or-drop, get_or_append_left, get_or-append_right}
use Rattle.std.proofs.lemmas.List.Edits.{length-insert, get_or-insert_below, get_or-insert_at, get_or-insert_above}
use Rattle.std.proofs.lemmas.List.FromFn.{length-map-range_with_len, get_or-map-range_with_len}
use Rattle.htx_arena.specs.declared.space.space.Desc.{Desc}
use Rattle.htx_arena.specs.Space.Windows.{window, overwritten, shifted, desc_at, desc_place, desc_bytes}
use Rattle.htx_arena.proofs.SpaceLemmas.PublicLaws.{length-overwritten, window-overwritten_below, window-overwritten_above, window-overwritten_within, desc_at-overwritten, desc_at-overwritten_below, desc_at-copied, desc_at-written, length-desc_bytes}
use Rattle.htx_arena.specs.Layout.Raw.{listed, addr_in, len_in, payload_in, block_in, block_of, info_len, blocks_of, addrs_of}
use Rattle.htx_arena.specs.Layout.Steps.{unlisted, spread, listed_at, placed}
use Rattle.htx_arena.specs.Layout.Sound.{IsSound, AreApart, end_of}
use Rattle.htx_arena.specs.Layout.Moves.{CanPlace}

-- ---- lists by index

pub length-listed : {X : Type 0} (f : ℕ → X) (n : ℕ) → length (listed f n) ≡ n
length-listed f n = length-map-range_with_len f 0 n

pub get_or-listed : {X : Type 0} (f : ℕ → X) (n i : ℕ) (d : X) → i < n → get_or (listed f n) i d ≡ f i
get_or-listed f n i d h = get_or-map-range_with_len f 0 n i i d h (omega arith)

-- k of them are left out
pub listed-without : {X : Type 0} (f g : ℕ → X) (n i k : ℕ) → i + k ≤ n → ((j : ℕ) → j < i → g j ≡ f j) → ((j : ℕ) → i ≤ j → j + k < n → g j ≡ f (j + k)) → listed g (n - k) ≡ take i (listed f n) ++ drop (k + i) (listed f n)
listed-without {X} f g n i k h below above =
    let xs = listed f n in
    let n_is = length-listed f n in
    let m_is = length-listed g (n - k) in
    let front : length (take i xs) ≡ i = length-take-le i xs (omega arith) in
    let behind = length-drop (k + i) xs in
    let same_length : length (listed g (n - k)) ≡ length (take i xs ++ drop (k + i) xs) = omega (arith, length-append (take i xs) (drop (k + i) xs)) in
    same_lists (listed g (n - k)) (take i xs ++ drop (k + i) xs) same_length (λ j d fits.
    let new = get_or-listed g (n - k) j d (omega arith) in
    elim (cases_lt j i) [
      | inl lt ↦ new ∙ below j lt ∙ sym (get_or-listed f n j d (omega arith)) ∙ sym (get_or-take i xs j d lt) ∙ sym (get_or_append_left (take i xs) (drop (k + i) xs) d j (omega arith))
      | inr ge ↦
          let there : k + i + (j - i) ≡ j + k = omega arith in
          new ∙ above j ge (omega arith) ∙ sym (get_or-listed f n (j + k) d (omega arith)) ∙ ap (λ (m : ℕ). get_or xs m d) (sym there)
          ∙ sym (get_or-drop (k + i) xs (j - i) d) ∙ sym (get_or-append_right (take i xs) (drop (k + i) xs) i j d front ge)
    ])

pub without_one : {X : Type 0} (xs : List X) (i : ℕ) → take i xs ++ drop (1 + i) xs ≡ remove xs i
without_one {X} xs i =
    let next : 1 + i ≡ suc i = omega arith in
    ap (λ (m : ℕ). take i xs ++ drop m xs) next

pub without_first : {X : Type 0} (xs : List X) (k : ℕ) → take 0 xs ++ drop (k + 0) xs ≡ drop k xs
without_first {X} xs k =
    let all : k + 0 ≡ k = omega arith in
    ap (λ (m : ℕ). drop m xs) all

pub listed-insert : {X : Type 0} (f g : ℕ → X) (n i : ℕ) (x : X) → i ≤ n → ((j : ℕ) → j < i → g j ≡ f j) → g i ≡ x → ((j : ℕ) → i ≤ j → j < n → g (j + 1) ≡ f j) → listed g (n + 1) ≡ insert (listed f n) i x
listed-insert {X} f g n i x h below here above =
    let n_is = length-listed f n in
    let within : i ≤ length (listed f n) = omega arith in
    let longer = length-insert (listed f n) i x within in
    let same_length : length (listed g (n + 1)) ≡ length (insert (listed f n) i x) = omega (arith, length-listed g (n + 1)) in
    let each : (k : ℕ) (d : X) → k < length (listed g (n + 1)) → get_or (listed g (n + 1)) k d ≡ get_or (insert (listed f n) i x) k d = λ k d k_fits.
    let small : k < n + 1 = omega (arith, length-listed g (n + 1)) in
    let new = get_or-listed g (n + 1) k d small in
    elim (cases_lt k i) [
      | inl lt ↦ new ∙ below k lt ∙ sym (get_or-listed f n k d (omega arith)) ∙ sym (get_or-insert_below (listed f n) i x d k lt within)
      | inr ge ↦ elim (cases_eq k i) [
        | inl e ↦ new ∙ ap g e ∙ here ∙ sym (get_or-insert_at (listed f n) i x d within) ∙ ap (λ (m : ℕ). get_or (insert (listed f n) i x) m d) (sym e)
        | inr ne ↦
            let back : k - 1 + 1 ≡ k = omega arith in
            new ∙ ap g (sym back) ∙ above (k - 1) (omega arith) (omega arith) ∙ sym (get_or-listed f n (k - 1) d (omega arith)) ∙ sym (get_or-insert_above (listed f n) i x d (k - 1) (omega arith) within) ∙ ap (λ (m : ℕ). get_or (insert (listed f n) i x) m d) back
      ]
    ] in
    same_lists (listed g (n + 1)) (insert (listed f n) i x) same_length each

-- ---- a payload is what its descriptor tells
pub payload_in-same : (raw new : List ℕ) (i j : ℕ) → desc_at new i ≡ desc_at raw j → window new (addr_in raw j) (len_in raw j) ≡ payload_in raw j → payload_in new i ≡ payload_in raw j
payload_in-same raw new i j e w = ap (λ (d : Desc). window new d.addr (info_len d.info)) e ∙ w

-- ---- a block is what its descriptor and its payload are
pub block_in-same : (raw new : List ℕ) (i j : ℕ) → desc_at new i ≡ desc_at raw j → window new (addr_in raw j) (len_in raw j) ≡ window raw (addr_in raw j) (len_in raw j) → block_in new i ≡ block_in raw j
block_in-same raw new i j e w =
    let a = ap (λ (d : Desc). block_of d.info (window new d.addr (info_len d.info))) e in
    a ∙ ap (block_of (desc_at raw j).info) w

-- ---- k descriptors are taken out, by copying those in front of them up

pub shift_up : (raw : List ℕ) (n i : ℕ) → i ≤ n → shifted raw i (n - i) true ≡ spread raw n i
shift_up raw n i h =
    let all : i + (n - i) ≡ n = omega arith in
    ap (λ (m : ℕ). overwritten raw (length raw - 8 * m - 8) (window raw (length raw - 8 * m) (8 * (n - i)))) all

pub length-moved : (raw : List ℕ) (n m : ℕ) → 8 * n ≤ length raw → m ≤ n → length (window raw (length raw - 8 * n) (8 * m)) ≡ 8 * m
length-moved raw n m room h = length-take-le (8 * m) (drop (length raw - 8 * n) raw) (omega (arith, length-drop (length raw - 8 * n) raw))

desc_at-unlisted_below : (raw : List ℕ) (n i k j : ℕ) → 8 * n ≤ length raw → i + k ≤ n → j < i → desc_at (unlisted raw n i k) j ≡ desc_at raw j
desc_at-unlisted_below raw n i k j room within h =
    let piece = window raw (length raw - 8 * n) (8 * (n - i - k)) in
    let long = length-moved raw n (n - i - k) room (omega arith) in
    desc_at-overwritten raw (length raw - 8 * n + 8 * k) piece j (omega arith) (omega arith)

desc_at-unlisted_above : (raw : List ℕ) (n i k j : ℕ) → 8 * n ≤ length raw → i ≤ j → j + k < n → desc_at (unlisted raw n i k) j ≡ desc_at raw (j + k)
desc_at-unlisted_above raw n i k j room h within =
    desc_at-copied raw (length raw - 8 * n + 8 * k) (length raw - 8 * n) (8 * (n - i - k)) j (j + k) (8 * (n - j - k - 1)) (omega arith) (omega arith) (omega arith) (omega arith) (omega arith)

pub payload-unlisted : (raw : List ℕ) (n i k j : ℕ) → IsSound raw n → i + k ≤ n → j < n → window (unlisted raw n i k) (addr_in raw j) (len_in raw j) ≡ window raw (addr_in raw j) (len_in raw j)
payload-unlisted raw n i k j sound within h =
    let ends = sound.within j h in
    let piece = window raw (length raw - 8 * n) (8 * (n - i - k)) in
    window-overwritten_below raw (length raw - 8 * n + 8 * k) piece (addr_in raw j) (len_in raw j) (omega (arith, sound.room)) (omega arith)

pub length-unlisted : (raw : List ℕ) (n i k : ℕ) → 8 * n ≤ length raw → i + k ≤ n → length (unlisted raw n i k) ≡ length raw
length-unlisted raw n i k room h =
    let moved = length-moved raw n (n - i - k) room (omega arith) in
    length-overwritten raw (length raw - 8 * n + 8 * k) (window raw (length raw - 8 * n) (8 * (n - i - k))) (omega arith)

pub blocks_of-unlisted : (raw : List ℕ) (n i k : ℕ) → IsSound raw n → i + k ≤ n → blocks_of (unlisted raw n i k) (n - k) ≡ take i (blocks_of raw n) ++ drop (k + i) (blocks_of raw n)
blocks_of-unlisted raw n i k sound h =
    let new = unlisted raw n i k in
    listed-without (block_in raw) (block_in new) n i k h
    (λ j lt. block_in-same raw new j j (desc_at-unlisted_below raw n i k j sound.room h lt) (payload-unlisted raw n i k j sound h (omega arith)))
    (λ j ge lt. block_in-same raw new j (j + k) (desc_at-unlisted_above raw n i k j sound.room ge lt) (payload-unlisted raw n i k (j + k) sound h lt))

pub addrs_of-unlisted : (raw : List ℕ) (n i k : ℕ) → IsSound raw n → i + k ≤ n → addrs_of (unlisted raw n i k) (n - k) ≡ take i (addrs_of raw n) ++ drop (k + i) (addrs_of raw n)
addrs_of-unlisted raw n i k sound h =
    let new = unlisted raw n i k in
    listed-without (addr_in raw) (addr_in new) n i k h
    (λ j lt. ap (λ (d : Desc). d.addr) (desc_at-unlisted_below raw n i k j sound.room h lt))
    (λ j ge lt. ap (λ (d : Desc). d.addr) (desc_at-unlisted_above raw n i k j sound.room ge lt))

-- the number that a descriptor had
pub record Had (raw new : List ℕ) (n i k j : ℕ) : Type 0 where
  pub number : ℕ
  pub small : number < n
  pub same : desc_at new j ≡ desc_at raw number
  pub below : j < i → number ≡ j
  pub above : i ≤ j → number ≡ j + k

pub had : (raw : List ℕ) (n i k j : ℕ) → 8 * n ≤ length raw → i + k ≤ n → j < n - k → Had raw (unlisted raw n i k) n i k j
had raw n i k j room h small =
    elim (cases_lt j i) [
      | inl lt ↦ record { number = j; small = omega arith; same = desc_at-unlisted_below raw n i k j room h lt; below = λ _. refl; above = λ (ge : i ≤ j). absurd (omega arith) }
      | inr ge ↦ record { number = j + k; small = omega arith; same = desc_at-unlisted_above raw n i k j room ge (omega arith); below = λ (lt : j < i). absurd (omega arith); above = λ _. refl }
    ]

pub AreApart-same : (a b c d : Desc) → a ≡ c → b ≡ d → AreApart c d → AreApart a b
AreApart-same a b c d e f h = subst (λ (x : Desc). AreApart x b) (sym e) (subst (λ (y : Desc). AreApart c y) (sym f) h)

pub IsSound-unlisted : (raw : List ℕ) (n i k : ℕ) → IsSound raw n → i + k ≤ n → IsSound (unlisted raw n i k) (n - k)
IsSound-unlisted raw n i k sound h =
    let new = unlisted raw n i k in
    let room = sound.room in
    let long = length-unlisted raw n i k room h in
    record {
      room = omega arith;
      within = λ j small.
          let old = had raw n i k j room h small in
          let ends = sound.within old.number old.small in
          let same = ap end_of old.same in
          omega arith;
      apart = λ j l lt small.
          let first = had raw n i k j room h (omega arith) in
          let second = had raw n i k l room h small in
          let order : first.number < second.number = elim (cases_lt j i) [
            | inl jl ↦ elim (cases_lt l i) [ inl kl ↦ omega (arith, first.below jl, second.below kl) | inr kg ↦ omega (arith, first.below jl, second.above kg) ]
            | inr jg ↦ let kg : i ≤ l = omega arith in omega (arith, first.above jg, second.above kg)
          ] in
          AreApart-same _ _ _ _ first.same second.same (sound.apart first.number second.number order second.small);
    }

-- ---- a block is put in: the descriptors in front of it move down, and descriptor and payload are written

pub length-spread : (raw : List ℕ) (n i : ℕ) → 8 * n + 8 ≤ length raw → i ≤ n → length (spread raw n i) ≡ length raw
length-spread raw n i room h =
    let long = length-moved raw n (n - i) (omega arith) (omega arith) in
    length-overwritten raw (length raw - 8 * n - 8) (window raw (length raw - 8 * n) (8 * (n - i))) (omega arith)

pub length-listed_at : (raw : List ℕ) (n i : ℕ) (d : Desc) → 8 * n + 8 ≤ length raw → i ≤ n → length (listed_at raw n i d) ≡ length raw
length-listed_at raw n i d room h =
    let long = length-spread raw n i room h in
    let eight = length-desc_bytes d in
    length-overwritten (spread raw n i) (desc_place (spread raw n i) i) (desc_bytes d) (omega arith) ∙ long

pub length-placed : (raw : List ℕ) (n i : ℕ) (d : Desc) (piece : List ℕ) → CanPlace raw n i d piece → length (placed raw n i d piece) ≡ length raw
length-placed raw n i d piece can =
    let room = can.room in
    let long = length-listed_at raw n i d (omega arith) can.within in
    length-overwritten (listed_at raw n i d) d.addr piece (omega arith) ∙ long

-- descriptors after the payload was written
desc_at-placed : (raw : List ℕ) (n i : ℕ) (d : Desc) (piece : List ℕ) (j : ℕ) → CanPlace raw n i d piece → j < n + 1 → desc_at (placed raw n i d piece) j ≡ desc_at (listed_at raw n i d) j
desc_at-placed raw n i d piece j can small =
    let room = can.room in
    let long = length-listed_at raw n i d (omega arith) can.within in
    desc_at-overwritten (listed_at raw n i d) d.addr piece j (omega arith) (omega arith)

pub desc_at-placed_below : (raw : List ℕ) (n i : ℕ) (d : Desc) (piece : List ℕ) (j : ℕ) → CanPlace raw n i d piece → j < i → desc_at (placed raw n i d piece) j ≡ desc_at raw j
desc_at-placed_below raw n i d piece j can lt =
    let room = can.room in
    let within = can.within in
    let eight = length-desc_bytes d in
    let long = length-spread raw n i (omega arith) within in
    let moved = length-moved raw n (n - i) (omega arith) (omega arith) in
    let third = desc_at-placed raw n i d piece j can (omega arith) in
    let second = desc_at-overwritten (spread raw n i) (desc_place (spread raw n i) i) (desc_bytes d) j (omega arith) (omega arith) in
    let first = desc_at-overwritten raw (length raw - 8 * n - 8) (window raw (length raw - 8 * n) (8 * (n - i))) j (omega arith) (omega arith) in
    third ∙ second ∙ first

pub desc_at-placed_here : (raw : List ℕ) (n i : ℕ) (d : Desc) (piece : List ℕ) → CanPlace raw n i d piece → desc_at (placed raw n i d piece) i ≡ d
desc_at-placed_here raw n i d piece can =
    let room = can.room in
    let within = can.within in
    let long = length-spread raw n i (omega arith) within in
    desc_at-placed raw n i d piece i can (omega arith) ∙ desc_at-written (spread raw n i) i d (omega arith) can.addr_fits can.info_fits

pub desc_at-placed_above : (raw : List ℕ) (n i : ℕ) (d : Desc) (piece : List ℕ) (j : ℕ) → CanPlace raw n i d piece → i ≤ j → j < n → desc_at (placed raw n i d piece) (j + 1) ≡ desc_at raw j
desc_at-placed_above raw n i d piece j can ge lt =
    let room = can.room in
    let within = can.within in
    let eight = length-desc_bytes d in
    let long = length-spread raw n i (omega arith) within in
    let third = desc_at-placed raw n i d piece (j + 1) can (omega arith) in
    let second = desc_at-overwritten_below (spread raw n i) (desc_place (spread raw n i) i) (desc_bytes d) (j + 1) (omega arith) (omega arith) in
    let first = desc_at-copied raw (length raw - 8 * n - 8) (length raw - 8 * n) (8 * (n - i)) (j + 1) j (8 * (n - j - 1)) (omega arith) (omega arith) (omega arith) (omega arith) (omega arith) in
    third ∙ second ∙ first

-- live payloads stay
pub payload-placed : (raw : List ℕ) (n i : ℕ) (d : Desc) (piece : List ℕ) (j : ℕ) → CanPlace raw n i d piece → j < n → window (placed raw n i d piece) (addr_in raw j) (len_in raw j) ≡ window raw (addr_in raw j) (len_in raw j)
payload-placed raw n i d piece j can small =
    let room = can.room in
    let within = can.within in
    let ends = can.below j small in
    let eight = length-desc_bytes d in
    let long = length-spread raw n i (omega arith) within in
    let long2 = length-listed_at raw n i d (omega arith) within in
    let moved = length-moved raw n (n - i) (omega arith) (omega arith) in
    let first = window-overwritten_below raw (length raw - 8 * n - 8) (window raw (length raw - 8 * n) (8 * (n - i))) (addr_in raw j) (len_in raw j) (omega arith) (omega arith) in
    let second = window-overwritten_below (spread raw n i) (desc_place (spread raw n i) i) (desc_bytes d) (addr_in raw j) (len_in raw j) (omega arith) (omega arith) in
    let third : window (placed raw n i d piece) (addr_in raw j) (len_in raw j) ≡ window (listed_at raw n i d) (addr_in raw j) (len_in raw j) =
    elim (can.free j small) [
      | inl before ↦ window-overwritten_above (listed_at raw n i d) d.addr piece (addr_in raw j) (len_in raw j) (omega arith) before
      | inr behind ↦ window-overwritten_below (listed_at raw n i d) d.addr piece (addr_in raw j) (len_in raw j) (omega arith) behind
    ] in
    third ∙ second ∙ first

pub blocks_of-placed : (raw : List ℕ) (n i : ℕ) (d : Desc) (piece : List ℕ) → CanPlace raw n i d piece → blocks_of (placed raw n i d piece) (n + 1) ≡ insert (blocks_of raw n) i (block_of d.info piece)
blocks_of-placed raw n i d piece can =
    let new = placed raw n i d piece in
    let room = can.room in
    let long = length-listed_at raw n i d (omega arith) can.within in
    let zero_more : d.addr + 0 ≡ d.addr = omega arith in
    let whole : window new d.addr (length piece) ≡ piece =
    ap (λ (k : ℕ). window new k (length piece)) (sym zero_more) ∙ window-overwritten_within (listed_at raw n i d) d.addr piece 0 (length piece) (omega arith) (omega arith) ∙ take_all (length piece) piece (omega arith) in
    let here : block_in new i ≡ block_of d.info piece =
    ap (λ (e : Desc). block_of e.info (window new e.addr (info_len e.info))) (desc_at-placed_here raw n i d piece can)
    ∙ ap (λ (m : ℕ). block_of d.info (window new d.addr m)) can.len ∙ ap (block_of d.info) whole in
    listed-insert (block_in raw) (block_in new) n i (block_of d.info piece) can.within
    (λ j lt. block_in-same raw new j j (desc_at-placed_below raw n i d piece j can lt) (payload-placed raw n i d piece j can (omega (arith, can.within))))
    here
    (λ j ge lt. block_in-same raw new (j + 1) j (desc_at-placed_above raw n i d piece j can ge lt) (payload-placed raw n i d piece j can lt))

pub addrs_of-placed : (raw : List ℕ) (n i : ℕ) (d : Desc) (piece : List ℕ) → CanPlace raw n i d piece → addrs_of (placed raw n i d piece) (n + 1) ≡ insert (addrs_of raw n) i d.addr
addrs_of-placed raw n i d piece can =
    let new = placed raw n i d piece in
    let addr = λ (e : Desc). e.addr in
    listed-insert (addr_in raw) (addr_in new) n i d.addr can.within
    (λ j lt. ap addr (desc_at-placed_below raw n i d piece j can lt))
    (ap addr (desc_at-placed_here raw n i d piece can))
    (λ j ge lt. ap addr (desc_at-placed_above raw n i d piece j can ge lt))

-- what stands at a number after a block was placed: the new descriptor, or an old one
pub data Stands (raw new : List ℕ) (n i : ℕ) (d : Desc) (j : ℕ) : Type 0 where
  New : j ≡ i → desc_at new j ≡ d → Stands raw new n i d j
  Below : j < i → desc_at new j ≡ desc_at raw j → Stands raw new n i d j
  Above : (k : ℕ) → i ≤ k → k < n → j ≡ k + 1 → desc_at new j ≡ desc_at raw k → Stands raw new n i d j

pub stands : (raw : List ℕ) (n i : ℕ) (d : Desc) (piece : List ℕ) (j : ℕ) → CanPlace raw n i d piece → j < n + 1 → Stands raw (placed raw n i d piece) n i d j
stands raw n i d piece j can small =
    elim (cases_lt j i) [
      | inl lt ↦ Below lt (desc_at-placed_below raw n i d piece j can lt)
      | inr ge ↦ elim (cases_eq j i) [
        | inl e ↦ New e (ap (desc_at (placed raw n i d piece)) e ∙ desc_at-placed_here raw n i d piece can)
        | inr ne ↦
            let back : j - 1 + 1 ≡ j = omega arith in
            Above (j - 1) (omega arith) (omega arith) (sym back) (ap (desc_at (placed raw n i d piece)) (sym back) ∙ desc_at-placed_above raw n i d piece (j - 1) can (omega arith) (omega arith))
      ]
    ]

AreApart-swap : (a b : Desc) → AreApart a b → AreApart b a
AreApart-swap a b (inl h) = inr h
AreApart-swap a b (inr h) = inl h

new_apart : (raw : List ℕ) (n i : ℕ) (d : Desc) (piece : List ℕ) (k : ℕ) → CanPlace raw n i d piece → k < n → AreApart d (desc_at raw k)
new_apart raw n i d piece k can small =
    let len = can.len in
    elim (can.free k small) [ inl h ↦ inl (omega arith) | inr h ↦ inr h ]

apart_stands : (raw : List ℕ) (n i : ℕ) (d : Desc) (piece : List ℕ) (j k : ℕ) → CanPlace raw n i d piece → j < k → k < n + 1 →
    Stands raw (placed raw n i d piece) n i d j → Stands raw (placed raw n i d piece) n i d k → AreApart (desc_at (placed raw n i d piece) j) (desc_at (placed raw n i d piece) k)
apart_stands raw n i d piece j k can lt small (New a e) (New b f) = absurd (omega arith)
apart_stands raw n i d piece j k can lt small (New a e) (Below b f) = absurd (omega arith)
apart_stands raw n i d piece j k can lt small (New a e) (Above m b c g f) = AreApart-same _ _ _ _ e f (new_apart raw n i d piece m can c)
apart_stands raw n i d piece j k can lt small (Below a e) (New b f) = AreApart-same _ _ _ _ e f (AreApart-swap _ _ (new_apart raw n i d piece j can (omega (arith, can.within))))
apart_stands raw n i d piece j k can lt small (Below a e) (Below b f) = AreApart-same _ _ _ _ e f (can.sound.apart j k lt (omega (arith, can.within)))
apart_stands raw n i d piece j k can lt small (Below a e) (Above m b c g f) = AreApart-same _ _ _ _ e f (can.sound.apart j m (omega arith) c)
apart_stands raw n i d piece j k can lt small (Above l a h o e) (New b f) = absurd (omega arith)
apart_stands raw n i d piece j k can lt small (Above l a h o e) (Below b f) = absurd (omega arith)
apart_stands raw n i d piece j k can lt small (Above l a h o e) (Above m b c g f) = AreApart-same _ _ _ _ e f (can.sound.apart l m (omega arith) c)

end_stands : (raw : List ℕ) (n i : ℕ) (d : Desc) (piece : List ℕ) (j : ℕ) → CanPlace raw n i d piece → j < n + 1 → Stands raw (placed raw n i d piece) n i d j → end_of (desc_at (placed raw n i d piece) j) + 8 * (n + 1) ≤ length raw
end_stands raw n i d piece j can small (New a e) = omega (arith, can.len, can.room, ap end_of e)
end_stands raw n i d piece j can small (Below a e) = omega (arith, can.below j (omega (arith, can.within)), ap end_of e)
end_stands raw n i d piece j can small (Above m b c g e) = omega (arith, can.below m c, ap end_of e)

pub IsSound-placed : (raw : List ℕ) (n i : ℕ) (d : Desc) (piece : List ℕ) → CanPlace raw n i d piece → IsSound (placed raw n i d piece) (n + 1)
IsSound-placed raw n i d piece can =
    let room = can.room in
    let long = length-placed raw n i d piece can in
    record {
      room = omega arith;
      within = λ j small. rw long (end_stands raw n i d piece j can small (stands raw n i d piece j can small));
      apart = λ j k lt small. apart_stands raw n i d piece j k can lt small (stands raw n i d piece j can (omega arith)) (stands raw n i d piece k can small);
    }

pub ruleset raws = (shift_up, blocks_of-unlisted, addrs_of-unlisted, IsSound-unlisted, blocks_of-placed, addrs_of-placed, IsSound-placed, length-placed, length-unlisted, length-listed)
