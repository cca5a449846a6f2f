-- Bytes are written where no other payload stands: behind the first bytes of a payload, or in open bytes.
use Rattle.std.proofs.Common.{refl, ◌≡◌, ◌≢◌, ℕ, ◌+◌, ◌*◌, ◌-◌, ◌^◌, ◌<◌, ◌≤◌, ◌⊎◌, inl, inr, List, ◌++◌, length, take, drop, ap, sym, ◌∙◌, arith, set}
use Rattle.std.proofs.Math.Seq.{take-add}
use Rattle.std.proofs.lemmas.Bool.{cases_lt, cases_eq}
use Rattle.std.proofs.lemmas.List.{take_all, drop-drop, take-append-drop}
use Rattle.htx_arena.specs.declared.space.space.Desc.{Desc}
use Rattle.htx_arena.specs.Space.Windows.{desc_at, desc_place, desc_bytes, window, overwritten}
use Rattle.htx_arena.proofs.SpaceLemmas.PublicLaws.{length-overwritten, length-window, window-overwritten_below, window-overwritten_above, window-overwritten_within, desc_at-overwritten, desc_at-overwritten_below, desc_at-written, length-desc_bytes}
use Rattle.htx_arena.specs.Layout.Raw.{addr_in, len_in, payload_in, block_in, block_of, info_len, blocks_of, addrs_of, Tells}
use Rattle.htx_arena.specs.Layout.Sound.{IsSound, IsTold, end_of, IsLaid}
use Rattle.htx_arena.specs.Layout.Moves.{CanPlace, IsOverwritten, CanRenew, IsRenewed, IsKept, IsOpen}
use Rattle.htx_arena.specs.Layout.Steps.{spread, listed_at, placed}
use Rattle.htx_arena.proofs.LayoutLemmas.RawLemmas.{AreApart-same, length-spread, length-listed_at, length-moved, payload_in-same}
use Rattle.htx_arena.proofs.LayoutLemmas.MoveLemmas.{listed-same, listed-set, Tells-same}

-- two windows, one behind the other
pub window_joined : (xs : List ℕ) (a n m : ℕ) → window xs a (n + m) ≡ window xs a n ++ window xs (a + n) m
window_joined xs a n m = take-add n m (drop a xs) ∙ ap (λ (r : List ℕ). window xs a n ++ take m r) (drop-drop n a xs)

-- a piece behind a window
pub window_extended : (xs : List ℕ) (a n : ℕ) (piece : List ℕ) → a + n ≤ length xs → window (overwritten xs (a + n) piece) a (n + length piece) ≡ window xs a n ++ piece
window_extended xs a n piece h =
    let new = overwritten xs (a + n) piece in
    let front = window-overwritten_below xs (a + n) piece a n h (omega arith) in
    let start : a + n + 0 ≡ a + n = omega arith in
    let back : window new (a + n) (length piece) ≡ piece =
    ap (λ (k : ℕ). window new k (length piece)) (sym start) ∙ window-overwritten_within xs (a + n) piece 0 (length piece) h (omega arith) ∙ take_all (length piece) piece (omega arith) in
    window_joined new a n (length piece) ∙ ap (λ (w : List ℕ). w ++ window new (a + n) (length piece)) front ∙ ap (λ (w : List ℕ). window xs a n ++ w) back

-- ---- a payload changes where it stands

abbrev pub redescribed : List ℕ → ℕ → Desc → List ℕ
redescribed mid i d = overwritten mid (desc_place mid i) (desc_bytes d)

-- bytes were written that become part of the payload
pub overwritten_is : (raw : List ℕ) (n i at : ℕ) (piece : List ℕ) (d : Desc) → CanRenew raw n i d → d.addr ≤ at → at + length piece ≤ end_of d → IsOverwritten raw (overwritten raw at piece) n i
overwritten_is raw n i at piece d can from to =
    let room = can.room in
    let all = can.sound.room in
    let desc : (j : ℕ) → j < n → desc_at (overwritten raw at piece) j ≡ desc_at raw j = λ j small. desc_at-overwritten raw at piece j (omega arith) (omega arith) in
    record {
      size = length-overwritten raw at piece (omega arith);
      desc = desc;
      payload = λ j small ne.
          let same : window (overwritten raw at piece) (addr_in raw j) (len_in raw j) ≡ window raw (addr_in raw j) (len_in raw j) = elim (can.free j small ne) [
            | inl h ↦ window-overwritten_above raw at piece (addr_in raw j) (len_in raw j) (omega arith) (omega arith)
            | inr h ↦ window-overwritten_below raw at piece (addr_in raw j) (len_in raw j) (omega arith) (omega arith)
          ] in
          payload_in-same raw (overwritten raw at piece) j j (desc j small) same;
    }

-- nothing was written
pub overwritten_none : (raw : List ℕ) (n i : ℕ) → IsOverwritten raw raw n i
overwritten_none raw n i = record { size = refl; desc = λ j small. refl; payload = λ j small ne. refl }

-- and then the descriptor
pub redescribed_is : (raw mid : List ℕ) (n i : ℕ) (d : Desc) → CanRenew raw n i d → IsOverwritten raw mid n i → d.addr < 2 ^ 32 → d.info < 2 ^ 32 → IsRenewed raw (redescribed mid i d) n i d (window mid d.addr (info_len d.info))
redescribed_is raw mid n i d can is addr_fits info_fits =
    let new = redescribed mid i d in
    let room = can.room in
    let within = can.within in
    let all = can.sound.room in
    let size = is.size in
    let eight = length-desc_bytes d in
    let here : desc_at new i ≡ d = desc_at-written mid i d (omega arith) addr_fits info_fits in
    let other : (j : ℕ) → j < n → j ≢ i → desc_at new j ≡ desc_at raw j = λ j small ne.
    let second : desc_at new j ≡ desc_at mid j = elim (cases_lt j i) [
      | inl lt ↦ desc_at-overwritten mid (desc_place mid i) (desc_bytes d) j (omega arith) (omega arith)
      | inr ge ↦ desc_at-overwritten_below mid (desc_place mid i) (desc_bytes d) j (omega arith) (omega arith)
    ] in
    second ∙ is.desc j small in
    let below : (k m : ℕ) → k + m + 8 * n ≤ length raw → window new k m ≡ window mid k m = λ k m inside. window-overwritten_below mid (desc_place mid i) (desc_bytes d) k m (omega arith) (omega arith) in
    record {
      size = length-overwritten mid (desc_place mid i) (desc_bytes d) (omega arith) ∙ size;
      here = here;
      own = ap (λ (e : Desc). window new e.addr (info_len e.info)) here ∙ below d.addr (info_len d.info) room;
      other = other;
      rest = λ j small ne.
          let ends = can.sound.within j small in
          let was = ap (λ (e : Desc). window mid e.addr (info_len e.info)) (is.desc j small) in
          payload_in-same raw new j j (other j small ne) (below (addr_in raw j) (len_in raw j) (omega arith) ∙ sym was ∙ is.payload j small ne);
    }

-- ---- what follows

renewed_block : (raw new : List ℕ) (n i : ℕ) (d : Desc) (payload : List ℕ) → IsRenewed raw new n i d payload → block_in new i ≡ block_of d.info payload
renewed_block raw new n i d payload is = ap (λ (e : Desc). block_of e.info (payload_in new i)) is.here ∙ ap (block_of d.info) is.own

pub renewed_blocks : (raw new : List ℕ) (n i : ℕ) (d : Desc) (payload : List ℕ) → i < n → IsRenewed raw new n i d payload → blocks_of new n ≡ set (blocks_of raw n) i (block_of d.info payload)
renewed_blocks raw new n i d payload small is =
    listed-set (block_in raw) (block_in new) n i (block_of d.info payload) small (renewed_block raw new n i d payload is)
    (λ j j_small ne. ap (λ (e : Desc). block_of e.info (payload_in new j)) (is.other j j_small ne) ∙ ap (block_of (desc_at raw j).info) (is.rest j j_small ne))

pub renewed_addrs : (raw new : List ℕ) (n i : ℕ) (d : Desc) (payload : List ℕ) → i < n → IsRenewed raw new n i d payload → addrs_of new n ≡ set (addrs_of raw n) i d.addr
renewed_addrs raw new n i d payload small is =
    listed-set (addr_in raw) (addr_in new) n i d.addr small (ap (λ (e : Desc). e.addr) is.here)
    (λ j j_small ne. ap (λ (e : Desc). e.addr) (is.other j j_small ne))

-- where the payload begins where it began
pub stayed_addrs : (raw new : List ℕ) (n i info : ℕ) (payload : List ℕ) → IsRenewed raw new n i (record { addr = addr_in raw i; info = info }) payload → addrs_of new n ≡ addrs_of raw n
stayed_addrs raw new n i info payload is = listed-same (addr_in raw) (addr_in new) n (λ j small. elim (cases_eq j i) [
  | inl e ↦ ap (addr_in new) e ∙ ap (λ (d : Desc). d.addr) is.here ∙ ap (addr_in raw) (sym e)
  | inr ne ↦ ap (λ (d : Desc). d.addr) (is.other j small ne)
])

renewed_sound : (raw new : List ℕ) (n i : ℕ) (d : Desc) (payload : List ℕ) → CanRenew raw n i d → IsRenewed raw new n i d payload → IsSound new n
renewed_sound raw new n i d payload can is =
    let size = is.size in
    let room = can.room in
    let all = can.sound.room in
    record {
      room = omega arith;
      within = λ j small. elim (cases_eq j i) [
        | inl e ↦ let same = ap end_of (ap (desc_at new) e ∙ is.here) in omega arith
        | inr ne ↦ let same = ap end_of (is.other j small ne) in let old = can.sound.within j small in omega arith
      ];
      apart = λ j k lt small.
          let j_small : j < n = omega arith in
          elim (cases_eq j i) [
            | inl e ↦
                let ne : k ≢ i = omega arith in
                AreApart-same _ _ d (desc_at raw k) (ap (desc_at new) e ∙ is.here) (is.other k small ne) (elim (can.free k small ne) [ inl h ↦ inl h | inr h ↦ inr h ])
            | inr nj ↦ elim (cases_eq k i) [
              | inl e ↦ AreApart-same _ _ (desc_at raw j) d (is.other j j_small nj) (ap (desc_at new) e ∙ is.here) (elim (can.free j j_small nj) [ inl h ↦ inr h | inr h ↦ inl h ])
              | inr nk ↦ AreApart-same _ _ (desc_at raw j) (desc_at raw k) (is.other j j_small nj) (is.other k small nk) (can.sound.apart j k lt small)
            ]
          ];
    }

renewed_told : (raw new : List ℕ) (n i : ℕ) (d : Desc) (payload : List ℕ) → IsRenewed raw new n i d payload → Tells d.info payload → IsTold raw n → IsTold new n
renewed_told raw new n i d payload is tells told = record {
  told = λ j small. elim (cases_eq j i) [
    | inl e ↦ Tells-same _ _ _ _ (ap (λ (x : Desc). x.info) (ap (desc_at new) e ∙ is.here)) (ap (payload_in new) e ∙ is.own) tells
    | inr ne ↦ Tells-same _ _ _ _ (ap (λ (x : Desc). x.info) (is.other j small ne)) (is.rest j small ne) (told.told j small)
  ];
}

pub renewed_laid : (raw new : List ℕ) (n i front was : ℕ) (d : Desc) (payload : List ℕ) → CanRenew raw n i d → IsRenewed raw new n i d payload → Tells d.info payload → 0 < info_len d.info → IsLaid raw n was → ((j : ℕ) → j < n → j ≢ i → (end_of (desc_at raw j) ≤ front) ⊎ (front ≤ addr_in raw j)) → (end_of d ≤ front) ⊎ (front ≤ d.addr) →
    front ≤ length raw → IsLaid new n front
renewed_laid raw new n i front was d payload can is tells some laid others own small_front =
    let size = is.size in
    let most = laid.most in
    record {
      sound = renewed_sound raw new n i d payload can is;
      told = renewed_told raw new n i d payload is tells laid.told;
      filled = record {
        filled = λ j small. elim (cases_eq j i) [
          | inl e ↦ let same = ap (λ (x : Desc). info_len x.info) (ap (desc_at new) e ∙ is.here) in omega arith
          | inr ne ↦ let same = ap (λ (x : Desc). info_len x.info) (is.other j small ne) in let old = laid.filled.filled j small in omega arith
        ];
      };
      parted = record {
        parted = λ j small. elim (cases_eq j i) [
          | inl e ↦ let same = ap end_of (ap (desc_at new) e ∙ is.here) in let at = ap (λ (x : Desc). x.addr) (ap (desc_at new) e ∙ is.here) in elim own [ inl h ↦ inl (omega arith) | inr h ↦ inr (omega arith) ]
          | inr ne ↦ let same = ap end_of (is.other j small ne) in let at = ap (λ (x : Desc). x.addr) (is.other j small ne) in elim (others j small ne) [ inl h ↦ inl (omega arith) | inr h ↦ inr (omega arith) ]
        ];
      };
      small = omega arith;
      most = omega arith;
    }

-- ---- bytes written into open bytes

pub kept_put : (raw : List ℕ) (n addr len at : ℕ) (piece : List ℕ) → IsSound raw n → IsOpen raw n addr len → addr ≤ at → at + length piece ≤ addr + len → IsKept raw (overwritten raw at piece) n
kept_put raw n addr len at piece sound opens from to =
    let room = opens.room in
    let desc : (j : ℕ) → j < n → desc_at (overwritten raw at piece) j ≡ desc_at raw j = λ j small. desc_at-overwritten raw at piece j (omega arith) (omega arith) in
    record {
      size = length-overwritten raw at piece (omega arith);
      desc = desc;
      payload = λ j small.
          let same : window (overwritten raw at piece) (addr_in raw j) (len_in raw j) ≡ window raw (addr_in raw j) (len_in raw j) = elim (opens.free j small) [
            | inl h ↦ window-overwritten_above raw at piece (addr_in raw j) (len_in raw j) (omega arith) (omega arith)
            | inr h ↦ window-overwritten_below raw at piece (addr_in raw j) (len_in raw j) (omega arith) (omega arith)
          ] in
          payload_in-same raw (overwritten raw at piece) j j (desc j small) same;
    }

pub kept_twice : (raw mid new : List ℕ) (n : ℕ) → IsKept raw mid n → IsKept mid new n → IsKept raw new n
kept_twice raw mid new n a b = record { size = b.size ∙ a.size; desc = λ j small. b.desc j small ∙ a.desc j small; payload = λ j small. b.payload j small ∙ a.payload j small }

pub kept_open : (raw new : List ℕ) (n addr len : ℕ) → IsKept raw new n → IsOpen raw n addr len → IsOpen new n addr len
kept_open raw new n addr len is opens =
    let size = is.size in
    let room = opens.room in
    record {
      room = omega arith;
      below = λ j small. let e = ap end_of (is.desc j small) in let h = opens.below j small in omega arith;
      free = λ j small. let e = ap end_of (is.desc j small) in let a = ap (λ (d : Desc). d.addr) (is.desc j small) in elim (opens.free j small) [ inl h ↦ inl (omega arith) | inr h ↦ inr (omega arith) ];
    }

pub kept_sound : (raw new : List ℕ) (n : ℕ) → IsKept raw new n → IsSound raw n → IsSound new n
kept_sound raw new n is sound =
    let size = is.size in
    let room = sound.room in
    record {
      room = omega arith;
      within = λ j small. let e = ap end_of (is.desc j small) in let h = sound.within j small in omega arith;
      apart = λ j k lt small. AreApart-same _ _ _ _ (is.desc j (omega arith)) (is.desc k small) (sound.apart j k lt small);
    }

pub filled_kept : (raw : List ℕ) (n from to keep : ℕ) (more : List ℕ) → IsSound raw n → IsOpen raw n to (keep + length more) → from + keep ≤ length raw → IsKept raw (overwritten (overwritten raw to (window raw from keep)) (to + keep) more) n
filled_kept raw n from to keep more sound opens source =
    let long = length-window raw from keep source in
    let first = kept_put raw n to (keep + length more) to (window raw from keep) sound opens (omega arith) (omega arith) in
    let mid = overwritten raw to (window raw from keep) in
    let second = kept_put mid n to (keep + length more) (to + keep) more (kept_sound raw mid n first sound) (kept_open raw mid n to (keep + length more) first opens) (omega arith) (omega arith) in
    kept_twice raw mid (overwritten mid (to + keep) more) n first second

pub filled_there : (raw : List ℕ) (n from to keep : ℕ) (more : List ℕ) → IsOpen raw n to (keep + length more) → from + keep ≤ length raw → window (overwritten (overwritten raw to (window raw from keep)) (to + keep) more) to (keep + length more) ≡ window raw from keep ++ more
filled_there raw n from to keep more opens source =
    let long = length-window raw from keep source in
    let room = opens.room in
    let mid = overwritten raw to (window raw from keep) in
    let size = length-overwritten raw to (window raw from keep) (omega arith) in
    let start : to + 0 ≡ to = omega arith in
    let own : window mid to keep ≡ window raw from keep =
    ap (λ (k : ℕ). window mid k keep) (sym start) ∙ window-overwritten_within raw to (window raw from keep) 0 keep (omega arith) (omega arith) ∙ take_all keep (window raw from keep) (omega arith) in
    window_extended mid to keep more (omega arith) ∙ ap (λ (w : List ℕ). w ++ more) own

-- ---- a payload that stands already

pub overwritten_same : (xs : List ℕ) (a n : ℕ) → a + n ≤ length xs → overwritten xs a (window xs a n) ≡ xs
overwritten_same xs a n h =
    let long = length-window xs a n h in
    let end : a + length (window xs a n) ≡ a + n = omega arith in
    ap (λ (m : ℕ). take a xs ++ (window xs a n ++ drop m xs)) end
    ∙ ap (λ (r : List ℕ). take a xs ++ (window xs a n ++ r)) (sym (drop-drop n a xs))
    ∙ ap (λ (r : List ℕ). take a xs ++ r) (take-append-drop n (drop a xs))
    ∙ take-append-drop a xs

pub listed_placed : (raw : List ℕ) (n i : ℕ) (d : Desc) → CanPlace raw n i d (window raw d.addr (info_len d.info)) → listed_at raw n i d ≡ placed raw n i d (window raw d.addr (info_len d.info))
listed_placed raw n i d can =
    let len = info_len d.info in
    let room = can.room in
    let within = can.within in
    let told = can.len in
    let eight = length-desc_bytes d in
    let long = length-spread raw n i (omega arith) within in
    let long2 = length-listed_at raw n i d (omega arith) within in
    let moved = length-moved raw n (n - i) (omega arith) (omega arith) in
    let first = window-overwritten_below raw (length raw - 8 * n - 8) (window raw (length raw - 8 * n) (8 * (n - i))) d.addr len (omega arith) (omega arith) in
    let second = window-overwritten_below (spread raw n i) (desc_place (spread raw n i) i) (desc_bytes d) d.addr len (omega arith) (omega arith) in
    sym (overwritten_same (listed_at raw n i d) d.addr len (omega arith)) ∙ ap (overwritten (listed_at raw n i d) d.addr) (second ∙ first)
