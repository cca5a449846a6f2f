-- When a last block of data grows where it stands.
use Rattle.std.proofs.Common.{◌≡◌, ℕ, ◌+◌, ◌*◌, ◌<◌, ◌≤◌, inl, inr, List, length, sym, arith}
use Rattle.std.proofs.lemmas.Bool.{cases_lt}
use Rattle.htx_arena.specs.declared.space.space.Desc.{Desc}
use Rattle.htx_arena.specs.Space.Windows.{desc_at}
use Rattle.htx_arena.specs.Layout.Raw.{addr_in, len_in, info_len, blocks_of, addrs_of}
use Rattle.htx_arena.specs.Layout.Sound.{IsSound, end_of, IsLaid}
use Rattle.htx_arena.specs.Layout.Place.{top}
use Rattle.htx_arena.specs.Layout.Moves.{CanRenew}
use Rattle.htx_arena.proofs.LayoutLemmas.PackLemmas.{behind_other}
use Rattle.htx_arena.proofs.LayoutLemmas.SpotLemmas.{LowAt, end_le_top}

-- one that ends at the greatest end
pub grow_at_top : (raw : List ℕ) (n i front info : ℕ) → IsLaid raw n front → i < n → len_in raw i ≤ info_len info → end_of (desc_at raw i) ≡ top (blocks_of raw n) (addrs_of raw n) → addr_in raw i + info_len info + 8 * n ≤ length raw → CanRenew raw n i (record { addr = addr_in raw i; info = info })
grow_at_top raw n i front info laid small more is room = record {
  sound = laid.sound;
  within = small;
  room = omega arith;
  most = laid.most;
  free = λ j j_small ne. elim (cases_lt (addr_in raw j) (addr_in raw i)) [
    | inl lt ↦ inr (behind_other raw n j i laid.sound laid.filled j_small small (λ (e : i ≡ j). ne (sym e)) (omega arith))
    | inr ge ↦
        let apart = behind_other raw n i j laid.sound laid.filled small j_small ne ge in
        let some = laid.filled.filled j j_small in
        let most = end_le_top raw n j laid.told j_small in
        absurd (omega arith)
  ];
}

-- one that ends at `front`
pub grow_at_front : (raw : List ℕ) (n i front info l : ℕ) → IsLaid raw n front → i < n → len_in raw i ≤ info_len info → end_of (desc_at raw i) ≡ front → LowAt raw front 0 n l → addr_in raw i + info_len info ≤ l → top (blocks_of raw n) (addrs_of raw n) + 8 * n ≤ length raw → CanRenew raw n i (record { addr = addr_in raw i; info = info })
grow_at_front raw n i front info l laid small more is low fits room =
    let last = low.last in
    let low_is = low.is in
    let low_end = end_le_top raw n low.index laid.told (omega arith) in
    record {
      sound = laid.sound;
      within = small;
      room = omega arith;
      most = laid.most;
      free = λ j j_small ne. elim (laid.parted.parted j j_small) [
        | inl h ↦ elim (cases_lt (addr_in raw j) (addr_in raw i)) [
          | inl lt ↦ inr (behind_other raw n j i laid.sound laid.filled j_small small (λ (e : i ≡ j). ne (sym e)) (omega arith))
          | inr ge ↦
              let apart = behind_other raw n i j laid.sound laid.filled small j_small ne ge in
              let some = laid.filled.filled j j_small in
              absurd (omega arith)
        ]
        | inr h ↦ let least = low.least j (omega arith) (omega arith) h in inl (omega arith)
      ];
    }

-- one that becomes no longer, or loses its first bytes
pub within_own : (raw : List ℕ) (n i : ℕ) (d : Desc) → IsSound raw n → length raw ≤ 262144 → i < n → addr_in raw i ≤ d.addr → end_of d ≤ end_of (desc_at raw i) → CanRenew raw n i d
within_own raw n i d sound most small from to =
    let ends = sound.within i small in
    record {
      sound = sound;
      within = small;
      room = omega arith;
      most = most;
      free = λ j j_small ne. elim (cases_lt i j) [
        | inl lt ↦ elim (sound.apart i j lt j_small) [ inl h ↦ inl (omega arith) | inr h ↦ inr (omega arith) ]
        | inr ge ↦ elim (sound.apart j i (omega arith) small) [ inl h ↦ inr (omega arith) | inr h ↦ inl (omega arith) ]
      ];
    }
