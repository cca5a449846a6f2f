-- A spot is free, and `front` parts the payloads again.
use Rattle.std.proofs.Common.{subst, refl, ◌≡◌, ℕ, zero, suc, ◌+◌, ◌*◌, ◌<◌, ◌≤◌, inl, inr, List, length, ap, sym, ◌∙◌, arith, nat_le, nat_eq, if◌then◌else◌, Option, Some, None, Bool, true, false, min}
use Rattle.std.proofs.lemmas.Bool.{cases_lt, cases_eq, le-leb, lt-leb, leb-true}
use Rattle.htx_arena.specs.Space.Windows.{desc_at}
use Rattle.htx_arena.specs.Layout.Raw.{addr_in, block_in, blocks_of, addrs_of}
use Rattle.htx_arena.specs.Layout.Sound.{end_of, IsTold, IsParted}
use Rattle.htx_arena.specs.Layout.Place.{top, low, least, spot, before, layout, layout_by, settled, settled_by}
use Rattle.htx_arena.specs.Layout.Moves.{IsSite, IsUpTo}
use Rattle.htx_arena.specs.declared.layout.scan.Spot.{Spot}
use Rattle.htx_arena.proofs.LayoutLemmas.RawLemmas.{length-listed}
use Rattle.htx_arena.proofs.LayoutLemmas.ScanLemmas.{low_from, low_skip, low_take, end_le-top_from}

-- the least address at or above a place, of m numbers from i on
pub record LowAt (raw : List ℕ) (from i m l : ℕ) : Type 0 where
  pub above : from ≤ l
  pub least : (j : ℕ) → i ≤ j → j < i + m → from ≤ addr_in raw j → l ≤ addr_in raw j
  pub index : ℕ
  pub first : i ≤ index
  pub last : index < i + m
  pub is : addr_in raw index ≡ l

pub record NoneAt (raw : List ℕ) (from i m : ℕ) : Type 0 where
  pub none : (j : ℕ) → i ≤ j → j < i + m → addr_in raw j < from

abbrev pub IsLow : List ℕ → ℕ → ℕ → ℕ → Option ℕ → Type 0
IsLow raw from i m None = NoneAt raw from i m
IsLow raw from i m (Some l) = LowAt raw from i m l

more_low : (raw : List ℕ) (from i m : ℕ) (o : Option ℕ) → from ≤ addr_in raw i → IsLow raw from (i + 1) m o → IsLow raw from i (suc m) (least (addr_in raw i) o)
more_low raw from i m None ge past = record {
  above = ge;
  least = λ j from_j to_j h. elim (cases_eq j i) [
    | inl e ↦ let same = ap (addr_in raw) e in omega arith
    | inr ne ↦ let less = past.none j (omega arith) (omega arith) in absurd (omega arith)
  ];
  index = i;
  first = omega arith;
  last = omega arith;
  is = refl;
}
more_low raw from i m (Some l) ge at =
    let above = at.above in
    let first = at.first in
    let last = at.last in
    let is = at.is in
    let each : (j : ℕ) → i ≤ j → j < i + suc m → from ≤ addr_in raw j → min (addr_in raw i) l ≤ addr_in raw j = λ j from_j to_j h. elim (cases_eq j i) [
      | inl e ↦ let same = ap (addr_in raw) e in omega arith
      | inr ne ↦ let less = at.least j (omega arith) (omega arith) h in omega arith
    ] in
    elim (cases_lt l (addr_in raw i)) [
      | inl lt ↦ record { above = omega arith; least = each; index = at.index; first = omega arith; last = omega arith; is = omega arith }
      | inr le ↦ record { above = omega arith; least = each; index = i; first = omega arith; last = omega arith; is = omega arith }
    ]

less_low : (raw : List ℕ) (from i m : ℕ) (o : Option ℕ) → addr_in raw i < from → IsLow raw from (i + 1) m o → IsLow raw from i (suc m) o
less_low raw from i m None lt past = record {
  none = λ j from_j to_j. elim (cases_eq j i) [
    | inl e ↦ let same = ap (addr_in raw) e in omega arith
    | inr ne ↦ past.none j (omega arith) (omega arith)
  ];
}
less_low raw from i m (Some l) lt at =
    let first = at.first in
    let last = at.last in
    record {
      above = at.above;
      least = λ j from_j to_j h. elim (cases_eq j i) [
        | inl e ↦ let same = ap (addr_in raw) e in absurd (omega arith)
        | inr ne ↦ at.least j (omega arith) (omega arith) h
      ];
      index = at.index;
      first = omega arith;
      last = omega arith;
      is = at.is;
    }

pub low_is : (raw : List ℕ) (from i m : ℕ) → IsLow raw from i m (low_from raw from i m)
low_is raw from i zero = record { none = λ j (from_j : i ≤ j) (to_j : j < i + zero). absurd (omega arith) }
low_is raw from i (suc m) =
    elim (cases_lt (addr_in raw i) from) [
      | inl lt ↦ subst (IsLow raw from i (suc m)) (sym (low_skip raw from i m lt)) (less_low raw from i m (low_from raw from (i + 1) m) lt (low_is raw from (i + 1) m))
      | inr ge ↦ subst (IsLow raw from i (suc m)) (sym (low_take raw from i m ge)) (more_low raw from i m (low_from raw from (i + 1) m) ge (low_is raw from (i + 1) m))
    ]

pub end_le_top : (raw : List ℕ) (n j : ℕ) → IsTold raw n → j < n → end_of (desc_at raw j) ≤ top (blocks_of raw n) (addrs_of raw n)
end_le_top raw n j told h =
    let zero_n : 0 + n ≡ n = omega arith in
    let zero_j : 0 + j ≡ j = omega arith in
    let at = end_le-top_from raw 0 n j (subst (IsTold raw) (sym zero_n) told) h in
    let same = ap (λ (k : ℕ). end_of (desc_at raw k)) zero_j in
    omega arith

-- ---- a spot

abbrev pub IsSpotFor : List ℕ → ℕ → ℕ → Option Spot → Type 0
IsSpotFor raw n len None = Unit {0}
IsSpotFor raw n len (Some s) = IsSite raw n len s

before_room : (raw : List ℕ) (n front len l : ℕ) (room : Bool) → IsTold raw n → IsParted raw n front → LowAt raw front 0 n l → front + len ≤ l → (room ≡ true → top (blocks_of raw n) (addrs_of raw n) + 8 * (n + 1) ≤ length raw) →
    IsSpotFor raw n len (if room then Some (record { addr = front; front = front + len }) else None)
before_room raw n front len l false told parted at fits has_room = tt
before_room raw n front len l true told parted at fits has_room =
    let enough = has_room refl in
    let low_end = end_le_top raw n at.index told (omega (arith, at.last)) in
    let is = at.is in
    record {
      opens = record {
        room = omega arith;
        below = λ j small. let h = end_le_top raw n j told small in omega arith;
        free = λ j small. elim (parted.parted j small) [
          | inl h ↦ inr h
          | inr h ↦ let less = at.least j (omega arith) (omega arith) h in inl (omega arith)
        ];
      };
      parted = record {
        parted = λ j small. elim (parted.parted j small) [
          | inl h ↦ inl (omega arith)
          | inr h ↦ let less = at.least j (omega arith) (omega arith) h in inr (omega arith)
        ];
      };
      beside = inl (omega arith);
      small = omega arith;
    }

before_is : (raw : List ℕ) (n front len : ℕ) (o : Option ℕ) (room : Bool) → IsTold raw n → IsParted raw n front → IsLow raw front 0 n o → (room ≡ true → top (blocks_of raw n) (addrs_of raw n) + 8 * (n + 1) ≤ length raw) →
    IsSpotFor raw n len (before o front len room)
before_is raw n front len None room told parted at has_room = tt
before_is raw n front len (Some l) room told parted at has_room =
    elim (cases_lt l (front + len)) [
      | inl lt ↦ rw (lt-leb (front + len) l lt) tt
      | inr le ↦ rw (le-leb (front + len) l le) (before_room raw n front len l room told parted at le has_room)
    ]

spot_by : (raw : List ℕ) (n front len : ℕ) (at_zero fits : Bool) (rest : Option Spot) → IsTold raw n →
    (fits ≡ true → top (blocks_of raw n) (addrs_of raw n) + len + 8 * (n + 1) ≤ length raw) → IsSpotFor raw n len rest →
    IsSpotFor raw n len (if at_zero then (if fits then Some (record { addr = top (blocks_of raw n) (addrs_of raw n); front = 0 }) else rest) else rest)
spot_by raw n front len false fits rest told room behind = behind
spot_by raw n front len true false rest told room behind = behind
spot_by raw n front len true true rest told room behind =
    let enough = room refl in
    record {
      opens = record {
        room = omega arith;
        below = λ j small. let h = end_le_top raw n j told small in omega arith;
        free = λ j small. inr (end_le_top raw n j told small);
      };
      parted = record { parted = λ j small. inr (omega arith) };
      beside = inr (omega arith);
      small = omega arith;
    }

-- cases 1 to 3 give free bytes
pub spot_is : (raw : List ℕ) (n front len : ℕ) → IsTold raw n → IsParted raw n front → IsSpotFor raw n len (spot (length raw) (blocks_of raw n) (addrs_of raw n) front len (n + 1))
spot_is raw n front len told parted =
    let t = top (blocks_of raw n) (addrs_of raw n) in
    let enough : nat_le (t + 8 * (n + 1)) (length raw) ≡ true → t + 8 * (n + 1) ≤ length raw = leb-true (t + 8 * (n + 1)) (length raw) in
    spot_by raw n front len (nat_eq front 0) (nat_le (t + len + 8 * (n + 1)) (length raw)) (before (low front (addrs_of raw n)) front len (nat_le (t + 8 * (n + 1)) (length raw))) told
    (leb-true (t + len + 8 * (n + 1)) (length raw))
    (before_is raw n front len (low front (addrs_of raw n)) (nat_le (t + 8 * (n + 1)) (length raw)) told parted (low_is raw front 0 n) enough)

-- ---- case 4: behind payloads that end at or below a place

pub top_is_site : (raw : List ℕ) (n len place : ℕ) → IsUpTo raw n place → place + len + 8 * (n + 1) ≤ length raw → IsSite raw n len (record { addr = place; front = 0 })
top_is_site raw n len place up room =
    record {
      opens = record {
        room = omega arith;
        below = λ j small. let h = up.up_to j small in omega arith;
        free = λ j small. inr (up.up_to j small);
      };
      parted = record { parted = λ j small. inr (omega arith) };
      beside = inr (omega arith);
      small = omega arith;
    }

-- ---- `front` where nothing stands at or above it

settled_parted_by : (raw : List ℕ) (n front : ℕ) (o : Option ℕ) → IsParted raw n front → IsParted raw n (settled_by o front)
settled_parted_by raw n front None parted = record { parted = λ j small. inr (omega arith) }
settled_parted_by raw n front (Some l) parted = parted

pub settled_parted : (raw : List ℕ) (n front : ℕ) → IsParted raw n front → IsParted raw n (settled front (addrs_of raw n))
settled_parted raw n front parted = settled_parted_by raw n front (low front (addrs_of raw n)) parted

-- ---- the layout that callers see

pub layout_is : (raw : List ℕ) (n front len : ℕ) (o : Option Spot) → o ≡ spot (length raw) (blocks_of raw n) (addrs_of raw n) front len (n + 1) → layout (length raw) (blocks_of raw n) (addrs_of raw n) front len ≡ layout_by o (blocks_of raw n) (addrs_of raw n)
layout_is raw n front len o e =
    ap (λ (m : ℕ). layout_by (spot (length raw) (blocks_of raw n) (addrs_of raw n) front len (m + 1)) (blocks_of raw n) (addrs_of raw n)) (length-listed (block_in raw) n)
    ∙ ap (λ (p : Option Spot). layout_by p (blocks_of raw n) (addrs_of raw n)) (sym e)
