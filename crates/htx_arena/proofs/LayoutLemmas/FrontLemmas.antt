-- An array with another `front`, with fewer blocks, or defragmented, is laid out too.
use Rattle.std.proofs.Common.{refl, subst, sym, ◌≡◌, ℕ, ◌<◌, ◌≤◌, inl, inr, List, arith, Option, Some, None, nat_lt, if◌then◌else◌}
use Rattle.std.proofs.lemmas.Bool.{lt-ltb, le-ltb}
use Rattle.htx_arena.specs.Layout.Raw.{addrs_of}
use Rattle.htx_arena.specs.Layout.Sound.{IsSound, IsLaid, IsTop}
use Rattle.htx_arena.specs.Layout.Place.{low, settled, settled_by}
use Rattle.htx_arena.specs.Layout.Moves.{IsShifted}
use Rattle.htx_arena.proofs.LayoutLemmas.MoveLemmas.{shifted_told, shifted_filled}
use Rattle.htx_arena.proofs.LayoutLemmas.SpotLemmas.{IsLow, LowAt, low_is, end_le_top, settled_parted}
use Rattle.htx_arena.proofs.LayoutLemmas.TopLemmas.{top_from_under}

settled_by_small : (o : Option ℕ) (front : ℕ) → settled_by o front ≤ front
settled_by_small None front = omega arith
settled_by_small (Some l) front = omega arith

pub laid_settled : (raw : List ℕ) (n front f : ℕ) → IsLaid raw n front → f ≡ settled front (addrs_of raw n) → IsLaid raw n f
laid_settled raw n front f laid e =
    let less = settled_by_small (low front (addrs_of raw n)) front in
    let small = laid.small in
    subst (IsLaid raw n) (sym e) (record { sound = laid.sound; told = laid.told; filled = laid.filled; parted = settled_parted raw n front laid.parted; small = omega arith; most = laid.most })

-- a payload stands at or above `front` exactly where one ends behind it
past_top : (raw : List ℕ) (n front t l : ℕ) → IsLaid raw n front → IsTop raw n t → LowAt raw front 0 n l → front < t
past_top raw n front t l laid was at =
    let last = at.last in
    let small : at.index < n = omega arith in
    let ends = end_le_top raw n at.index laid.told small in
    let some = laid.filled.filled at.index small in
    let above = at.above in
    let here = at.is in
    let is = was.is in
    omega arith

settled_by_top : (raw : List ℕ) (n front t : ℕ) (o : Option ℕ) → IsLaid raw n front → IsTop raw n t → IsLow raw front 0 n o → settled_by o front ≡ (if nat_lt front t then front else 0)
settled_by_top raw n front t None laid was past =
    let under = top_from_under raw 0 n front (λ j from to. let len = (laid.told.told j (omega arith)).len in let below = past.none j from to in elim (laid.parted.parted j (omega arith)) [ inl h ↦ omega arith | inr h ↦ absurd (omega arith) ]) in
    let is = was.is in
    rw (le-ltb front t (omega arith)) refl
settled_by_top raw n front t (Some l) laid was at = rw (lt-ltb front t (past_top raw n front t l laid was at)) refl

none_by : (raw : List ℕ) (n front t : ℕ) (o : Option ℕ) → IsLaid raw n front → IsTop raw n t → t ≤ front → IsLow raw front 0 n o → None ≡ o
none_by raw n front t None laid was h past = refl
none_by raw n front t (Some l) laid was h at = let less = past_top raw n front t l laid was at in absurd (omega arith)

pub low_past : (raw : List ℕ) (n front t : ℕ) → IsLaid raw n front → IsTop raw n t → t ≤ front → None ≡ low front (addrs_of raw n)
low_past raw n front t laid was h = none_by raw n front t (low front (addrs_of raw n)) laid was h (low_is raw front 0 n)

pub settled_top : (raw : List ℕ) (n front t : ℕ) → IsLaid raw n front → IsTop raw n t → (if nat_lt front t then front else 0) ≡ settled front (addrs_of raw n)
settled_top raw n front t laid was = sym (settled_by_top raw n front t (low front (addrs_of raw n)) laid was (low_is raw front 0 n))

pub laid_first : (raw : List ℕ) (n m front : ℕ) → IsLaid raw n front → m ≤ n → IsLaid raw m front
laid_first raw n m front laid h =
    let room = laid.sound.room in
    record {
      sound = record {
        room = omega arith;
        within = λ j small. let ends = laid.sound.within j (omega arith) in omega arith;
        apart = λ j k lt small. laid.sound.apart j k lt (omega arith);
      };
      told = record { told = λ j small. laid.told.told j (omega arith) };
      filled = record { filled = λ j small. laid.filled.filled j (omega arith) };
      parted = record { parted = λ j small. laid.parted.parted j (omega arith) };
      small = laid.small;
      most = laid.most;
    }

pub laid_shifted : (raw new : List ℕ) (n front : ℕ) → IsLaid raw n front → IsShifted raw new n → IsSound new n → IsLaid new n 0
laid_shifted raw new n front laid is sound =
    let size = is.size in
    let most = laid.most in
    record {
      sound = sound;
      told = shifted_told raw new n is laid.told;
      filled = shifted_filled raw new n is laid.filled;
      parted = record { parted = λ j small. inr (omega arith) };
      small = omega arith;
      most = omega arith;
    }
