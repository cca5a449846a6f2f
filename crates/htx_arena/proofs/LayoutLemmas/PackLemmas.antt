-- Defragmentation, a payload at a time in the order of the addresses.
use Rattle.std.proofs.Common.{refl, ◌≡◌, ◌≢◌, ℕ, zero, suc, ◌+◌, ◌<◌, ◌≤◌, inl, inr, List, length, map, ap, sym, ◌∙◌, arith, nat_lt, if◌then◌else◌, sum_by}
use Rattle.std.specs.List.{range_with_len}
use Rattle.std.proofs.lemmas.Bool.{cases_lt, cases_eq, lt-ltb, le-ltb}
use Rattle.std.proofs.lemmas.List.Sums.{sum_by-cons}
use Rattle.htx_model.specs.Block.{payload_len}
use Rattle.htx_arena.specs.declared.space.space.Desc.{Desc}
use Rattle.htx_arena.specs.Space.Windows.{desc_at}
use Rattle.htx_arena.specs.Layout.Raw.{addr_in, len_in, block_in, info_len, blocks_of, addrs_of, payload_in}
use Rattle.htx_arena.specs.Layout.Sound.{IsSound, end_of, IsTold, IsFilled, IsTop}
use Rattle.htx_arena.specs.Layout.Moves.{IsShifted, CanMove, IsMoved, IsNext, IsPast, IsUpTo}
use Rattle.htx_arena.specs.Layout.Place.{below, packed}
use Rattle.htx_arena.proofs.LayoutLemmas.MoveLemmas.{listed-same, IsSound-moved, shifted_told}
use Rattle.htx_arena.proofs.LayoutLemmas.TopLemmas.{top_reached}

-- what one payload counts for below an address
abbrev pub term : List ℕ → ℕ → ℕ → ℕ
term raw a i = if nat_lt (addr_in raw i) a then payload_len (block_in raw i) else 0

pub term_in : (raw : List ℕ) (a i : ℕ) → addr_in raw i < a → term raw a i ≡ payload_len (block_in raw i)
term_in raw a i h = rw (lt-ltb (addr_in raw i) a h) refl

pub term_out : (raw : List ℕ) (a i : ℕ) → a ≤ addr_in raw i → term raw a i ≡ 0
term_out raw a i h = rw (le-ltb (addr_in raw i) a h) refl

-- the payloads of m numbers from i on
abbrev pub part : List ℕ → ℕ → ℕ → ℕ → ℕ
part raw a i m = below a (map (block_in raw) (range_with_len i m)) (map (addr_in raw) (range_with_len i m))

-- no address is between the two
part_same : (raw : List ℕ) (a c i m : ℕ) → a ≤ c → ((j : ℕ) → i ≤ j → j < i + m → a ≤ addr_in raw j → c ≤ addr_in raw j) → part raw a i m ≡ part raw c i m
part_same raw a c i zero le none = refl
part_same raw a c i (suc m) le none =
    let rest = part_same raw a c (i + 1) m le (λ j ge lt h. none j (omega arith) (omega arith) h) in
    elim (cases_lt (addr_in raw i) a) [
      | inl lt ↦ let x = term_in raw a i lt in let y = term_in raw c i (omega arith) in omega arith
      | inr ge ↦ let x = term_out raw a i ge in let y = term_out raw c i (none i (omega arith) (omega arith) ge) in omega arith
    ]

-- one address is between the two
part_more : (raw : List ℕ) (a c k i m : ℕ) → a ≤ addr_in raw k → addr_in raw k < c → i ≤ k → k < i + m → ((j : ℕ) → i ≤ j → j < i + m → j ≢ k → a ≤ addr_in raw j → c ≤ addr_in raw j) →
    part raw c i m ≡ part raw a i m + payload_len (block_in raw k)
part_more raw a c k i zero ge lt from to none = absurd (omega arith)
part_more raw a c k i (suc m) ge lt from to none =
    elim (cases_eq k i) [
      | inl e ↦
          let rest = part_same raw a c (i + 1) m (omega arith) (λ j from_j to_j h. none j (omega arith) (omega arith) (omega arith) h) in
          let same = ap (λ (x : ℕ). addr_in raw x) e in
          let long = ap (λ (x : ℕ). payload_len (block_in raw x)) e in
          let x = term_out raw a i (omega arith) in
          let y = term_in raw c i (omega arith) in
          omega arith
      | inr ne ↦
          let rest = part_more raw a c k (i + 1) m ge lt (omega arith) (omega arith) (λ j from_j to_j other h. none j (omega arith) (omega arith) other h) in
          elim (cases_lt (addr_in raw i) a) [
            | inl less ↦ let x = term_in raw a i less in let y = term_in raw c i (omega arith) in omega arith
            | inr more ↦ let other : i ≢ k = omega arith in let x = term_out raw a i more in let y = term_out raw c i (none i (omega arith) (omega arith) other more) in omega arith
          ]
    ]

-- The array in the midst of defragmentation. The payloads that stood below `from` were moved, and end at
-- or below `to`, the last of them there; the others stand where they stood.
pub record Packing (raw cur : List ℕ) (n from to : ℕ) : Type 0 where
  pub size : length cur ≡ length raw
  pub sound : IsSound cur n
  pub payload : (j : ℕ) → j < n → payload_in cur j ≡ payload_in raw j
  pub info : (j : ℕ) → j < n → (desc_at cur j).info ≡ (desc_at raw j).info
  pub ahead : (j : ℕ) → j < n → from ≤ addr_in raw j → addr_in cur j ≡ addr_in raw j
  pub behind : (j : ℕ) → j < n → addr_in raw j < from → addr_in cur j ≡ part raw (addr_in raw j) 0 n
  pub ends : (j : ℕ) → j < n → addr_in raw j < from → end_of (desc_at cur j) ≤ to
  pub order : to ≤ from
  pub sum : to ≡ part raw from 0 n
  pub hand : ℕ
  pub reached : 0 < to → (hand < n) × (end_of (desc_at cur hand) ≡ to)

part_zero : (raw : List ℕ) (i m : ℕ) → part raw 0 i m ≡ 0
part_zero raw i zero = refl
part_zero raw i (suc m) = let rest = part_zero raw (i + 1) m in let x = term_out raw 0 i (omega arith) in omega arith

pub packing_begins : (raw : List ℕ) (n : ℕ) → IsSound raw n → Packing raw raw n 0 0
packing_begins raw n sound = record {
  size = refl;
  sound = sound;
  payload = λ j small. refl;
  info = λ j small. refl;
  ahead = λ j small h. refl;
  behind = λ j small (h : addr_in raw j < 0). absurd (omega arith);
  ends = λ j small (h : addr_in raw j < 0). absurd (omega arith);
  order = omega arith;
  sum = sym (part_zero raw 0 n);
  hand = 0;
  reached = λ some. absurd (omega arith);
}

-- a payload was moved exactly where its address is below `from`
was_moved : (raw cur : List ℕ) (n from to j : ℕ) → Packing raw cur n from to → IsFilled raw n → j < n → from ≤ addr_in cur j → from ≤ addr_in raw j
was_moved raw cur n from to j p filled small h =
    elim (cases_lt (addr_in raw j) from) [
      | inl lt ↦
          let e = p.ends j small lt in
          let len = ap info_len (p.info j small) in
          let some = filled.filled j small in
          let order = p.order in
          omega arith
      | inr ge ↦ ge
    ]

-- two payloads, the second not in front of the first
pub behind_other : (raw : List ℕ) (n i j : ℕ) → IsSound raw n → IsFilled raw n → i < n → j < n → j ≢ i → addr_in raw i ≤ addr_in raw j → end_of (desc_at raw i) ≤ addr_in raw j
behind_other raw n i j sound filled hi hj ne le =
    let some = filled.filled j hj in
    elim (cases_lt i j) [
      | inl lt ↦ elim (sound.apart i j lt hj) [ inl h ↦ h | inr h ↦ absurd (omega arith) ]
      | inr ge ↦ elim (sound.apart j i (omega arith) hi) [ inl h ↦ absurd (omega arith) | inr h ↦ h ]
    ]

pub next_can_move : (raw cur : List ℕ) (n from to i : ℕ) → Packing raw cur n from to → IsSound raw n → IsFilled raw n → IsNext cur n from i → CanMove cur n i to
next_can_move raw cur n from to i p sound filled next =
    let order = p.order in
    let above = next.above in
    let at_i = p.ahead i next.within (was_moved raw cur n from to i p filled next.within above) in
    let len_i = ap info_len (p.info i next.within) in
    record {
      sound = p.sound;
      within = next.within;
      down = omega arith;
      gap = λ j small ne. elim (cases_lt (addr_in raw j) from) [
        | inl lt ↦ inl (p.ends j small lt)
        | inr ge ↦
            let at_j = p.ahead j small ge in
            let least = next.least j small (omega arith) in
            let apart = behind_other raw n i j sound filled next.within small ne (omega arith) in
            inr (omega arith)
      ];
    }

pub packing_goes_on : (raw cur new : List ℕ) (n from to i : ℕ) → Packing raw cur n from to → IsSound raw n → IsFilled raw n → IsTold raw n → IsNext cur n from i → IsMoved cur new n i to → Packing raw new n (end_of (desc_at cur i)) (to + len_in cur i)
packing_goes_on raw cur new n from to i p sound filled told next is =
    let can = next_can_move raw cur n from to i p sound filled next in
    let order = p.order in
    let above = next.above in
    let hi = next.within in
    let from_i = was_moved raw cur n from to i p filled hi above in
    let at_i = p.ahead i hi from_i in
    let len_i = ap info_len (p.info i hi) in
    let some_i = filled.filled i hi in
    let told_i = (told.told i hi).len in
    let least_raw : (j : ℕ) → j < n → from ≤ addr_in raw j → addr_in raw i ≤ addr_in raw j = λ j small ge.
    let at_j = p.ahead j small ge in
    let least = next.least j small (omega arith) in
    omega arith in
    let far : (j : ℕ) → j < n → j ≢ i → from ≤ addr_in raw j → end_of (desc_at cur i) ≤ addr_in raw j = λ j small ne ge.
    let apart = behind_other raw n i j sound filled hi small ne (least_raw j small ge) in
    omega arith in
    let here_addr = ap (λ (d : Desc). d.addr) is.here in
    let here_info = ap (λ (d : Desc). d.info) is.here in
    let here_len = ap info_len here_info in
    let upto : part raw from 0 n ≡ part raw (addr_in raw i) 0 n = part_same raw from (addr_in raw i) 0 n from_i (λ j ge lt h. least_raw j (omega arith) h) in
    let sum = p.sum in
    let more = part_more raw from (end_of (desc_at cur i)) i 0 n from_i (omega arith) (omega arith) (omega arith) (λ j ge lt ne h. far j (omega arith) ne h) in
    record {
      size = is.size ∙ p.size;
      sound = IsSound-moved cur new n i to can is;
      payload = λ j small. is.payload j small ∙ p.payload j small;
      info = λ j small. elim (cases_eq j i) [
        | inl e ↦ ap (λ (k : ℕ). (desc_at new k).info) e ∙ here_info ∙ p.info i hi ∙ ap (λ (k : ℕ). (desc_at raw k).info) (sym e)
        | inr ne ↦ ap (λ (d : Desc). d.info) (is.other j small ne) ∙ p.info j small
      ];
      ahead = λ j small ge. elim (cases_eq j i) [
        | inl e ↦ let same = ap (addr_in raw) e in absurd (omega arith)
        | inr ne ↦ ap (λ (d : Desc). d.addr) (is.other j small ne) ∙ p.ahead j small (omega arith)
      ];
      behind = λ j small lt. elim (cases_eq j i) [
        | inl e ↦ ap (addr_in new) e ∙ here_addr ∙ sum ∙ upto ∙ ap (λ (k : ℕ). part raw (addr_in raw k) 0 n) (sym e)
        | inr ne ↦ elim (cases_lt (addr_in raw j) from) [
          | inl less ↦ ap (λ (d : Desc). d.addr) (is.other j small ne) ∙ p.behind j small less
          | inr ge ↦ let h = far j small ne ge in absurd (omega arith)
        ]
      ];
      ends = λ j small lt. elim (cases_eq j i) [
        | inl e ↦ let same = ap (λ (k : ℕ). end_of (desc_at new k)) e in omega arith
        | inr ne ↦ elim (cases_lt (addr_in raw j) from) [
          | inl less ↦ let same = ap end_of (is.other j small ne) in let old = p.ends j small less in omega arith
          | inr ge ↦ let h = far j small ne ge in absurd (omega arith)
        ]
      ];
      order = omega arith;
      sum = omega arith;
      hand = i;
      reached = λ some. (hi, omega arith);
    }

-- ---- when all are behind

pub map_listed : {X Y : Type 0} (g : X → Y) (f : ℕ → X) (i m : ℕ) → map g (map f (range_with_len i m)) ≡ map (λ (k : ℕ). g (f k)) (range_with_len i m)
map_listed g f i zero = refl
map_listed g f i (suc m) = rw (map_listed g f (i + 1) m) refl

pub packing_ends : (raw cur : List ℕ) (n from to : ℕ) → Packing raw cur n from to → IsFilled raw n → IsPast cur n from → addrs_of cur n ≡ packed (blocks_of raw n) (addrs_of raw n)
packing_ends raw cur n from to p filled past =
    listed-same (λ (j : ℕ). part raw (addr_in raw j) 0 n) (addr_in cur) n (λ j small.
    let lt : addr_in raw j < from = elim (cases_lt (addr_in raw j) from) [
      | inl h ↦ h
      | inr ge ↦ let at_j = p.ahead j small ge in let h = past.past j small in absurd (omega arith)
    ] in
    p.behind j small lt)
    ∙ sym (map_listed (λ (a : ℕ). below a (blocks_of raw n) (addrs_of raw n)) (addr_in raw) 0 n)

pub packing_shifts : (raw cur : List ℕ) (n from to : ℕ) → Packing raw cur n from to → IsShifted raw cur n
packing_shifts raw cur n from to p = record { size = p.size; info = p.info; payload = p.payload }

-- ---- how far the payloads reach

pub packing_up_to : (raw cur : List ℕ) (n from to : ℕ) → Packing raw cur n from to → IsPast cur n from → IsUpTo cur n to
packing_up_to raw cur n from to p past = record {
  up_to = λ j small.
      let lt : addr_in raw j < from = elim (cases_lt (addr_in raw j) from) [
        | inl h ↦ h
        | inr ge ↦ let at_j = p.ahead j small ge in let h = past.past j small in absurd (omega arith)
      ] in
      p.ends j small lt;
}

-- they reach it
pub packing_top : (raw cur : List ℕ) (n from to : ℕ) → Packing raw cur n from to → IsTold raw n → IsPast cur n from → IsTop cur n to
packing_top raw cur n from to p told past = top_reached cur n to p.hand p.sound (shifted_told raw cur n (packing_shifts raw cur n from to p) told) (packing_up_to raw cur n from to p past) p.reached

-- all count
part_all : (raw : List ℕ) (a i m : ℕ) → ((j : ℕ) → i ≤ j → j < i + m → addr_in raw j < a) → part raw a i m ≡ sum_by payload_len (map (block_in raw) (range_with_len i m))
part_all raw a i zero all = refl
part_all raw a i (suc m) all =
    let rest = part_all raw a (i + 1) m (λ j ge lt. all j (omega arith) (omega arith)) in
    let whole = sum_by-cons payload_len (block_in raw i) (map (block_in raw) (range_with_len (i + 1) m)) in
    let x = term_in raw a i (all i (omega arith) (omega arith)) in
    omega arith

pub packing_total : (raw cur : List ℕ) (n from to : ℕ) → Packing raw cur n from to → IsPast cur n from → to ≡ sum_by payload_len (blocks_of raw n)
packing_total raw cur n from to p past =
    p.sum ∙ part_all raw from 0 n (λ j ge lt. elim (cases_lt (addr_in raw j) from) [
      | inl h ↦ h
      | inr far ↦ let at_j = p.ahead j (omega arith) far in let h = past.past j (omega arith) in absurd (omega arith)
    ])
