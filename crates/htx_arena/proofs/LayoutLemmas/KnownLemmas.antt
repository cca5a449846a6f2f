-- The least address at or above `front`, where it is known.
use Rattle.std.proofs.Common.{refl, ◌≡◌, ℕ, zero, suc, ◌+◌, ◌-◌, ◌<◌, ◌≤◌, List, [], ◌∷◌, length, get_or, ap, sym, ◌∙◌, subst, arith, Option, Some, None}
use Rattle.std.specs.Prelude.{insert, remove, IfSome}
use Rattle.std.proofs.lemmas.Bool.{lt-leb}
use Rattle.htx_arena.specs.Layout.Raw.{addr_in, addrs_of}
use Rattle.htx_arena.specs.Layout.Place.{low, settled, settled_by}
use Rattle.htx_arena.specs.Layout.Sound.{IsKnown, StaysLow}
use Rattle.htx_arena.specs.declared.layout.scan.Ends.{Ends}
use Rattle.htx_arena.specs.declared.layout.scan.Spot.{Spot}
use Rattle.htx_arena.proofs.LayoutLemmas.RawLemmas.{length-listed}
use Rattle.htx_arena.proofs.LayoutLemmas.TellLemmas.{addr_told}
use Rattle.htx_arena.proofs.LayoutLemmas.SpotLemmas.{IsLow, LowAt, low_is}

pub unknown : (raw : List ℕ) (n front : ℕ) → IsKnown raw n front None
unknown raw n front = record { known = λ l (e : None ≡ Some l). cc }

-- it was looked at
pub known_is : (raw : List ℕ) (n front : ℕ) (o : Option ℕ) → o ≡ low front (addrs_of raw n) → IsKnown raw n front o
known_is raw n front o is = record { known = λ l e. sym is ∙ e }

pub known_same : (raw new : List ℕ) (n front : ℕ) (o : Option ℕ) → addrs_of new n ≡ addrs_of raw n → IsKnown raw n front o → IsKnown new n front o
known_same raw new n front o same was = record { known = λ l e. ap (low front) same ∙ was.known l e }

low-remove : (xs : List ℕ) (front i : ℕ) → i < length xs → get_or xs i 0 < front → low front (remove xs i) ≡ low front xs
low-remove [] front i h lt = absurd (omega arith)
low-remove (a ∷ xs) front zero h lt = rw (lt-leb front a lt) refl
low-remove (a ∷ xs) front (suc i) h lt = rw (low-remove xs front i (omega arith) lt) refl

-- a payload is gone: it stays known where that one stood below `front`
pub known_gone : (raw new : List ℕ) (n front a i : ℕ) (o p : Option ℕ) → IsKnown raw n front o → i < n → a ≡ addr_in raw i → addrs_of new (n - 1) ≡ remove (addrs_of raw n) i → ((l : ℕ) → p ≡ Some l → o ≡ Some l) → ((l : ℕ) → p ≡ Some l → a < front) → IsKnown new (n - 1) front p
known_gone raw new n front a i o p was small is addrs kept below = record {
  known = λ l e.
      let at = addr_told raw n i small in
      let less = below l e in
      ap (low front) addrs ∙ low-remove (addrs_of raw n) front i (omega (arith, length-listed (addr_in raw) n)) (omega arith) ∙ was.known l (kept l e);
}

-- `front` moves up to it at most
low_at : (raw : List ℕ) (n front l : ℕ) (o : Option ℕ) → LowAt raw front 0 n l → IsLow raw front 0 n o → o ≡ Some l
low_at raw n front l None at past =
    let above = at.above in
    let here = at.is in
    let less = past.none at.index (omega arith) at.last in
    absurd (omega arith)
low_at raw n front l (Some k) at other =
    let here = at.is in
    let there = other.is in
    let one = at.least other.index (omega arith) other.last (omega (arith, other.above)) in
    let two = other.least at.index (omega arith) at.last (omega (arith, at.above)) in
    ap Some (omega arith)

low_up : (raw : List ℕ) (n front f l : ℕ) → low front (addrs_of raw n) ≡ Some l → front ≤ f → f ≤ l → low f (addrs_of raw n) ≡ Some l
low_up raw n front f l is up under =
    let at : LowAt raw front 0 n l = subst (IsLow raw front 0 n) is (low_is raw front 0 n) in
    low_at raw n f l (low f (addrs_of raw n)) (record { above = under; least = λ j from to h. at.least j from to (omega arith); index = at.index; first = at.first; last = at.last; is = at.is }) (low_is raw f 0 n)

low-insert : (xs : List ℕ) (front i a : ℕ) → i ≤ length xs → a < front → low front (insert xs i a) ≡ low front xs
low-insert xs front zero a h lt = rw (lt-leb front a lt) refl
low-insert (x ∷ xs) front (suc i) a h lt = rw (low-insert xs front i a (omega arith) lt) refl
low-insert xs front i a h lt = absurd (omega arith)

-- a payload has come in front of it, or has become longer there
pub known_with : (raw new : List ℕ) (n : ℕ) (e : Ends) (s : Spot) (o : Option ℕ) → IsKnown raw n e.front e.low → addrs_of new n ≡ addrs_of raw n → IfSome o (StaysLow e s) → IsKnown new n s.front o
known_with raw new n e s o was addrs stays = record {
  known = λ l h.
      let k = subst (λ (p : Option ℕ). IfSome p (StaysLow e s)) h stays in
      ap (low s.front) addrs ∙ low_up raw n e.front s.front l (was.known l k.is) k.up k.under;
}

pub known_placed : (raw new : List ℕ) (n i : ℕ) (e : Ends) (s : Spot) (o : Option ℕ) → IsKnown raw n e.front e.low → i ≤ n → addrs_of new (n + 1) ≡ insert (addrs_of raw n) i s.addr → IfSome o (StaysLow e s) → IsKnown new (n + 1) s.front o
known_placed raw new n i e s o was small addrs stays = record {
  known = λ l h.
      let k = subst (λ (p : Option ℕ). IfSome p (StaysLow e s)) h stays in
      ap (low s.front) addrs ∙ low-insert (addrs_of raw n) s.front i s.addr (omega (arith, length-listed (addr_in raw) n)) k.beside ∙ (known_with raw raw n e s o was refl stays).known l h;
}

-- `front` is 0 where none stands at or above it
settled_known : (raw : List ℕ) (n front f : ℕ) (o p : Option ℕ) → low front (addrs_of raw n) ≡ p → f ≡ settled_by p front → IsKnown raw n front o → IsKnown raw n f o
settled_known raw n front f o None is e was = record { known = λ l h. absurd (let both : None ≡ Some l = sym is ∙ was.known l h in cc both) }
settled_known raw n front f o (Some l) is e was = subst (λ (x : ℕ). IsKnown raw n x o) (sym e) was

pub known_settled : (raw : List ℕ) (n front f : ℕ) (o : Option ℕ) → f ≡ settled front (addrs_of raw n) → IsKnown raw n front o → IsKnown raw n f o
known_settled raw n front f o e was = settled_known raw n front f o (low front (addrs_of raw n)) refl e was

pub ruleset knowns = (unknown, known_is)
