-- A payload may grow where `stays` says so.
use Rattle.std.proofs.Common.{refl, sym, ap, ◌≡◌, ◌≢◌, ℕ, ◌+◌, ◌*◌, ◌<◌, ◌≤◌, ◌⊎◌, inl, inr, List, length, arith, nat_le, nat_eq, if◌then◌else◌, Option, Some, None, Bool, true, false}
use Rattle.std.proofs.lemmas.Bool.{leb-true, eqb-true}
use Rattle.std.proofs.lemmas.Option.{none-some}
use Rattle.htx_arena.specs.Space.Windows.{desc_at}
use Rattle.htx_arena.specs.Layout.Raw.{addr_in, len_in, info_len, block_in, blocks_of, addrs_of}
use Rattle.htx_arena.specs.Layout.Sound.{IsLaid, end_of}
use Rattle.htx_arena.specs.Layout.Place.{top, low, grown_at_top, grown_at_front, stays}
use Rattle.htx_arena.specs.Layout.Moves.{CanRenew}
use Rattle.htx_arena.proofs.LayoutLemmas.RawLemmas.{length-listed}
use Rattle.htx_arena.proofs.LayoutLemmas.SpotLemmas.{IsLow, low_is}
use Rattle.htx_arena.proofs.LayoutLemmas.RoomLemmas.{grow_at_top, grow_at_front}

-- the payload may have the length that an info word tells, and `front` parts the payloads then
pub record MayGrow (raw : List ℕ) (n i info front : ℕ) : Type 0 where
  pub can : CanRenew raw n i (record { addr = addr_in raw i; info = info })
  pub others : (j : ℕ) → j < n → j ≢ i → (end_of (desc_at raw j) ≤ front) ⊎ (front ≤ addr_in raw j)
  pub own : (addr_in raw i + info_len info ≤ front) ⊎ (front ≤ addr_in raw i)
  pub small : front ≤ length raw

value_or : Option ℕ → ℕ
value_or None = 0
value_or (Some x) = x

record TopCase (e fits : Bool) (f : ℕ) : Type 0 where
  pub ends : e ≡ true
  pub fits_is : fits ≡ true
  pub is : f ≡ 0

top_case : (e fits : Bool) (f : ℕ) → (if e then (if fits then Some 0 else None) else None) ≡ Some f → TopCase e fits f
unfolding value_or
top_case true true f h = record { ends = refl; fits_is = refl; is = sym (ap value_or h) }
top_case true false f h = absurd (none-some f h)
top_case false fits f h = absurd (none-some f h)

record FrontCase (e before fits : Bool) (x f : ℕ) : Type 0 where
  pub ends : e ≡ true
  pub before_is : before ≡ true
  pub fits_is : fits ≡ true
  pub is : f ≡ x

front_case : (e before fits : Bool) (x f : ℕ) → (if e then (if before then (if fits then Some x else None) else None) else None) ≡ Some f → FrontCase e before fits x f
unfolding value_or
front_case true true true x f h = record { ends = refl; before_is = refl; fits_is = refl; is = sym (ap value_or h) }
front_case true true false x f h = absurd (none-some f h)
front_case true false fits x f h = absurd (none-some f h)
front_case false before fits x f h = absurd (none-some f h)

at_top : (raw : List ℕ) (n front i info extra f : ℕ) → IsLaid raw n front → i < n → info_len info ≡ len_in raw i + extra → grown_at_top (length raw) (end_of (desc_at raw i)) extra (top (blocks_of raw n) (addrs_of raw n)) (length (blocks_of raw n)) ≡ Some f → MayGrow raw n i info f
at_top raw n front i info extra f laid small len h =
    let end = end_of (desc_at raw i) in
    let t = top (blocks_of raw n) (addrs_of raw n) in
    let count = length-listed (block_in raw) n in
    let c = top_case (nat_eq end t) (nat_le (end + extra + 8 * length (blocks_of raw n)) (length raw)) f h in
    let is = eqb-true end t c.ends in
    let fits = leb-true (end + extra + 8 * length (blocks_of raw n)) (length raw) c.fits_is in
    let zero = c.is in
    record {
      can = grow_at_top raw n i front info laid small (omega arith) is (omega arith);
      others = λ j j_small ne. inr (omega arith);
      own = inr (omega arith);
      small = omega arith;
    }

at_front_by : (raw : List ℕ) (n front i info extra f : ℕ) (o : Option ℕ) → IsLow raw front 0 n o → IsLaid raw n front → i < n → info_len info ≡ len_in raw i + extra → grown_at_front o front (end_of (desc_at raw i)) extra (nat_le (top (blocks_of raw n) (addrs_of raw n) + 8 * length (blocks_of raw n)) (length raw)) ≡ Some f → MayGrow raw n i info f
at_front_by raw n front i info extra f None at laid small len h = absurd (none-some f h)
at_front_by raw n front i info extra f (Some l) at laid small len h =
    let end = end_of (desc_at raw i) in
    let t = top (blocks_of raw n) (addrs_of raw n) in
    let count = length-listed (block_in raw) n in
    let c = front_case (nat_eq end front) (nat_le (end + extra) l) (nat_le (t + 8 * length (blocks_of raw n)) (length raw)) (front + extra) f h in
    let is = eqb-true end front c.ends in
    let before = leb-true (end + extra) l c.before_is in
    let fits = leb-true (t + 8 * length (blocks_of raw n)) (length raw) c.fits_is in
    let new = c.is in
    let low_at = at.is in
    let low_small = laid.sound.within at.index (omega (arith, at.last)) in
    record {
      can = grow_at_front raw n i front info l laid small (omega arith) is at (omega arith) (omega arith);
      others = λ j j_small ne. elim (laid.parted.parted j j_small) [
        | inl e ↦ inl (omega arith)
        | inr e ↦ let least = at.least j (omega arith) (omega arith) e in inr (omega arith)
      ];
      own = inl (omega arith);
      small = omega arith;
    }

stays_by : (raw : List ℕ) (n front i info extra f : ℕ) (z : Bool) → IsLaid raw n front → i < n → info_len info ≡ len_in raw i + extra →
    (if z then grown_at_top (length raw) (end_of (desc_at raw i)) extra (top (blocks_of raw n) (addrs_of raw n)) (length (blocks_of raw n))
    else grown_at_front (low front (addrs_of raw n)) front (end_of (desc_at raw i)) extra (nat_le (top (blocks_of raw n) (addrs_of raw n) + 8 * length (blocks_of raw n)) (length raw))) ≡ Some f → MayGrow raw n i info f
stays_by raw n front i info extra f true laid small len h = at_top raw n front i info extra f laid small len h
stays_by raw n front i info extra f false laid small len h = at_front_by raw n front i info extra f (low front (addrs_of raw n)) (low_is raw front 0 n) laid small len h

pub stays_grows : (raw : List ℕ) (n front i info extra f : ℕ) → IsLaid raw n front → i < n → info_len info ≡ len_in raw i + extra → stays (length raw) (blocks_of raw n) (addrs_of raw n) front (end_of (desc_at raw i)) extra ≡ Some f → MayGrow raw n i info f
stays_grows raw n front i info extra f laid small len h = stays_by raw n front i info extra f (nat_eq front 0) laid small len h
