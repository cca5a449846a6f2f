-- A payload moves down over free bytes: the step of defragmentation.
use Rattle.std.proofs.Common.{subst, ◌≡◌, ◌≢◌, ℕ, ◌+◌, ◌*◌, ◌^◌, ◌<◌, ◌≤◌, inl, inr, List, length, get_or, set, drop, ap, sym, ◌∙◌, arith, length-drop}
use Rattle.std.proofs.lemmas.List.{same_lists, length-take-le, length-set, get_or-set_same, get_or-set_other, take_all}
use Rattle.std.proofs.lemmas.Bool.{cases_lt, cases_eq}
use Rattle.htx_arena.specs.declared.space.space.Desc.{Desc}
use Rattle.htx_arena.specs.Space.Windows.{window, overwritten, desc_at, desc_place, desc_bytes}
use Rattle.htx_arena.proofs.SpaceLemmas.PublicLaws.{length-overwritten, window-overwritten_below, window-overwritten_above, window-overwritten_within, desc_at-overwritten, desc_at-overwritten_below, desc_at-written, length-desc_bytes}
use Rattle.htx_arena.specs.Layout.Raw.{Tells, listed, addr_in, len_in, block_in, block_of, info_len, blocks_of, payload_in}
use Rattle.htx_arena.specs.Layout.Sound.{IsSound, end_of, IsTold, IsFilled}
use Rattle.htx_arena.specs.Layout.Moves.{IsShifted, CanMove, IsMoved}
use Rattle.htx_arena.specs.Layout.Place.{below}
use Rattle.htx_arena.proofs.LayoutLemmas.RawLemmas.{AreApart-same, length-listed, get_or-listed}

pub listed-same : {X : Type 0} (f g : ℕ → X) (n : ℕ) → ((j : ℕ) → j < n → g j ≡ f j) → listed g n ≡ listed f n
listed-same f g n each =
    same_lists (listed g n) (listed f n) (length-listed g n ∙ sym (length-listed f n)) (λ k d fits.
    let small : k < n = omega (arith, length-listed g n) in
    get_or-listed g n k d small ∙ each k small ∙ sym (get_or-listed f n k d small))

pub listed-set : {X : Type 0} (f g : ℕ → X) (n i : ℕ) (x : X) → i < n → g i ≡ x → ((j : ℕ) → j < n → j ≢ i → g j ≡ f j) → listed g n ≡ set (listed f n) i x
listed-set f g n i x h here each =
    same_lists (listed g n) (set (listed f n) i x) (length-listed g n ∙ sym (length-set (listed f n) i x ∙ length-listed f n)) (λ k d fits.
    let small : k < n = omega (arith, length-listed g n) in
    let within : i < length (listed f n) = omega (arith, length-listed f n) in
    let new = get_or-listed g n k d small in
    elim (cases_eq k i) [
      | inl e ↦ new ∙ ap g e ∙ here ∙ sym (get_or-set_same (listed f n) i x d within) ∙ ap (λ (m : ℕ). get_or (set (listed f n) i x) m d) (sym e)
      | inr ne ↦ new ∙ each k small ne ∙ sym (get_or-listed f n k d small) ∙ sym (get_or-set_other (listed f n) i k x d ne)
    ])

abbrev pub slid : List ℕ → ℕ → ℕ → List ℕ
slid raw i to = overwritten raw to (window raw (addr_in raw i) (len_in raw i))

abbrev pub moved : List ℕ → ℕ → ℕ → List ℕ
moved raw i to = overwritten (slid raw i to) (desc_place (slid raw i to) i) (desc_bytes (record { addr = to; info = (desc_at raw i).info }))

piece_len : (raw : List ℕ) (n i to : ℕ) → CanMove raw n i to → length (window raw (addr_in raw i) (len_in raw i)) ≡ len_in raw i
piece_len raw n i to can =
    let ends = can.sound.within i can.within in
    length-take-le (len_in raw i) (drop (addr_in raw i) raw) (omega (arith, length-drop (addr_in raw i) raw))

length-slid : (raw : List ℕ) (n i to : ℕ) → CanMove raw n i to → length (slid raw i to) ≡ length raw
length-slid raw n i to can =
    let ends = can.sound.within i can.within in
    let down = can.down in
    let long = piece_len raw n i to can in
    length-overwritten raw to (window raw (addr_in raw i) (len_in raw i)) (omega arith)

desc_at-slid : (raw : List ℕ) (n i to j : ℕ) → CanMove raw n i to → j < n → desc_at (slid raw i to) j ≡ desc_at raw j
desc_at-slid raw n i to j can small =
    let ends = can.sound.within i can.within in
    let down = can.down in
    let room = can.sound.room in
    let long = piece_len raw n i to can in
    desc_at-overwritten raw to (window raw (addr_in raw i) (len_in raw i)) j (omega arith) (omega arith)

desc_at-moved_other : (raw : List ℕ) (n i to j : ℕ) → CanMove raw n i to → j < n → j ≢ i → desc_at (moved raw i to) j ≡ desc_at raw j
desc_at-moved_other raw n i to j can small ne =
    let room = can.sound.room in
    let within = can.within in
    let d : Desc = record { addr = to; info = (desc_at raw i).info } in
    let eight = length-desc_bytes d in
    let long = length-slid raw n i to can in
    let second : desc_at (moved raw i to) j ≡ desc_at (slid raw i to) j =
    elim (cases_lt j i) [
      | inl lt ↦ desc_at-overwritten (slid raw i to) (desc_place (slid raw i to) i) (desc_bytes d) j (omega arith) (omega arith)
      | inr ge ↦ desc_at-overwritten_below (slid raw i to) (desc_place (slid raw i to) i) (desc_bytes d) j (omega arith) (omega arith)
    ] in
    second ∙ desc_at-slid raw n i to j can small

desc_at-moved_here : (raw : List ℕ) (n i to : ℕ) → CanMove raw n i to → to < 2 ^ 32 → (desc_at raw i).info < 2 ^ 32 → desc_at (moved raw i to) i ≡ record { addr = to; info = (desc_at raw i).info }
desc_at-moved_here raw n i to can addr_fits info_fits =
    let room = can.sound.room in
    let within = can.within in
    let long = length-slid raw n i to can in
    desc_at-written (slid raw i to) i (record { addr = to; info = (desc_at raw i).info }) (omega arith) addr_fits info_fits

-- below the descriptors the second write changes nothing
window-moved : (raw : List ℕ) (n i to k m : ℕ) → CanMove raw n i to → k + m + 8 * n ≤ length raw → window (moved raw i to) k m ≡ window (slid raw i to) k m
window-moved raw n i to k m can below =
    let room = can.sound.room in
    let within = can.within in
    let long = length-slid raw n i to can in
    window-overwritten_below (slid raw i to) (desc_place (slid raw i to) i) (desc_bytes (record { addr = to; info = (desc_at raw i).info })) k m (omega arith) (omega arith)

payload_in-moved : (raw : List ℕ) (n i to j : ℕ) → CanMove raw n i to → to < 2 ^ 32 → (desc_at raw i).info < 2 ^ 32 → j < n → payload_in (moved raw i to) j ≡ payload_in raw j
payload_in-moved raw n i to j can addr_fits info_fits small =
    let new = moved raw i to in
    let piece = window raw (addr_in raw i) (len_in raw i) in
    let long = piece_len raw n i to can in
    let down = can.down in
    let ends_i = can.sound.within i can.within in
    let ends_j = can.sound.within j small in
    elim (cases_eq j i) [
      | inl e ↦
          let zero_more : to + 0 ≡ to = omega arith in
          let payload : window new to (len_in raw i) ≡ piece =
          window-moved raw n i to to (len_in raw i) can (omega arith)
          ∙ ap (λ (k : ℕ). window (slid raw i to) k (len_in raw i)) (sym zero_more)
          ∙ window-overwritten_within raw to piece 0 (len_in raw i) (omega arith) (omega arith) ∙ take_all (len_in raw i) piece (omega arith) in
          ap (payload_in new) e
          ∙ ap (λ (d : Desc). window new d.addr (info_len d.info)) (desc_at-moved_here raw n i to can addr_fits info_fits)
          ∙ payload ∙ ap (payload_in raw) (sym e)
      | inr ne ↦
          let slid_same : window (slid raw i to) (addr_in raw j) (len_in raw j) ≡ window raw (addr_in raw j) (len_in raw j) =
          elim (can.gap j small ne) [
            | inl below ↦ window-overwritten_below raw to piece (addr_in raw j) (len_in raw j) (omega arith) below
            | inr above ↦ window-overwritten_above raw to piece (addr_in raw j) (len_in raw j) (omega arith) (omega arith)
          ] in
          ap (λ (d : Desc). window new d.addr (info_len d.info)) (desc_at-moved_other raw n i to j can small ne)
          ∙ window-moved raw n i to (addr_in raw j) (len_in raw j) can (omega arith) ∙ slid_same
    ]

pub moved_is : (raw : List ℕ) (n i to : ℕ) → CanMove raw n i to → to < 2 ^ 32 → (desc_at raw i).info < 2 ^ 32 → IsMoved raw (moved raw i to) n i to
moved_is raw n i to can addr_fits info_fits =
    let long = length-slid raw n i to can in
    let eight = length-desc_bytes (record { addr = to; info = (desc_at raw i).info }) in
    let room = can.sound.room in
    let within = can.within in
    record {
      size = length-overwritten (slid raw i to) (desc_place (slid raw i to) i) (desc_bytes (record { addr = to; info = (desc_at raw i).info })) (omega arith) ∙ long;
      here = desc_at-moved_here raw n i to can addr_fits info_fits;
      other = λ j small ne. desc_at-moved_other raw n i to j can small ne;
      payload = λ j small. payload_in-moved raw n i to j can addr_fits info_fits small;
    }

pub IsSound-moved : (raw new : List ℕ) (n i to : ℕ) → CanMove raw n i to → IsMoved raw new n i to → IsSound new n
IsSound-moved raw new n i to can is =
    let room = can.sound.room in
    let size = is.size in
    let down = can.down in
    let d : Desc = record { addr = to; info = (desc_at raw i).info } in
    record {
      room = omega arith;
      within = λ j small.
          let old = can.sound.within j small in
          elim (cases_eq j i) [
            | inl e ↦ let same = ap end_of (ap (desc_at new) e ∙ is.here) in let at_i = can.sound.within i can.within in omega arith
            | inr ne ↦ let same = ap end_of (is.other j small ne) in omega arith
          ];
      apart = λ j k lt small.
          let j_small : j < n = omega arith in
          elim (cases_eq j i) [
            | inl e ↦
                let ne : k ≢ i = omega arith in
                AreApart-same _ _ d (desc_at raw k) (ap (desc_at new) e ∙ is.here) (is.other k small ne) (elim (can.gap k small ne) [ inl h ↦ inr h | inr h ↦ inl (omega arith) ])
            | inr ne ↦ elim (cases_eq k i) [
              | inl e ↦ AreApart-same _ _ (desc_at raw j) d (is.other j j_small ne) (ap (desc_at new) e ∙ is.here) (elim (can.gap j j_small ne) [ inl h ↦ inl h | inr h ↦ inr (omega arith) ])
              | inr nk ↦ AreApart-same _ _ (desc_at raw j) (desc_at raw k) (is.other j j_small ne) (is.other k small nk) (can.sound.apart j k lt small)
            ]
          ];
    }

-- ---- what follows where only addresses change

pub Tells-same : (i k : ℕ) (p q : List ℕ) → i ≡ k → p ≡ q → Tells k q → Tells i p
Tells-same i k p q e f h = subst (λ (x : ℕ). Tells x p) (sym e) (subst (λ (y : List ℕ). Tells k y) (sym f) h)

pub shifted_block : (raw new : List ℕ) (n j : ℕ) → IsShifted raw new n → j < n → block_in new j ≡ block_in raw j
shifted_block raw new n j is small = ap (λ (i : ℕ). block_of i (payload_in new j)) (is.info j small) ∙ ap (block_of (desc_at raw j).info) (is.payload j small)

pub shifted_blocks : (raw new : List ℕ) (n : ℕ) → IsShifted raw new n → blocks_of new n ≡ blocks_of raw n
shifted_blocks raw new n is = listed-same (block_in raw) (block_in new) n (λ j small. shifted_block raw new n j is small)

pub shifted_told : (raw new : List ℕ) (n : ℕ) → IsShifted raw new n → IsTold raw n → IsTold new n
shifted_told raw new n is told = record { told = λ j small. Tells-same _ _ _ _ (is.info j small) (is.payload j small) (told.told j small) }

pub shifted_filled : (raw new : List ℕ) (n : ℕ) → IsShifted raw new n → IsFilled raw n → IsFilled new n
shifted_filled raw new n is filled = record { filled = λ j small. let e = ap info_len (is.info j small) in let h = filled.filled j small in omega arith }
