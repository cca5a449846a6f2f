-- What a write makes of what was put out.
use Rattle.std.proofs.Common.{◌≡◌, ℕ, ◌<◌, ◌≤◌, List, [], ◌++◌, Bool, true, false, length, take, sym, subst, ◌∙◌, append_assoc, arith, length-append}
use Rattle.std.proofs.lemmas.List.{length-take, length-take-le, take-take}
use Rattle.px_link.specs.Link.{Seen, SameKind, Took, WriteFailed, Takes, WithinTakes, MayRefuse}
use Rattle.px_link.specs.Told.{Rose}
use Rattle.htx_drive.specs.Came.{Put, FailsSo}
use Rattle.htx_drive.specs.Turned.{IsUpTo}

pub fails_same : (first old new : Seen) (b : Bool) → new.write_faults ≡ old.write_faults → FailsSo first old b → FailsSo first new b
fails_same first old new true e h = let P : ℕ → Type 0 = λ n. Rose first.write_faults n in subst P (sym e) h
fails_same first old new false e h = e ∙ h

pub put_still : (W V U : List ℕ → Type 0) (first old new : Seen) (put : List ℕ) (b : Bool) → ((bs : List ℕ) → V bs → U bs) → new.write_faults ≡ old.write_faults → Put W V first old put b → Put W U first new put b
put_still W V U first old new put b w e h =
    record { wrote = λ bs x. w _ (h.wrote bs x); limit = h.limit; full = h.full; fails = fails_same first old new b e h.fails }

pub put_more : (W V U : List ℕ → Type 0) (first old new : Seen) (put piece : List ℕ) (n : ℕ) → SameKind first old → Put W V first old put false → Took V U old new piece n → Put W U first new (put ++ take n piece) false
put_more W V U first old new put piece n kind h t =
    record {
      wrote = λ bs x. subst U (append_assoc bs put (take n piece)) (t.wrote (bs ++ put) (h.wrote bs x));
      limit = λ x. let P : Takes → Type 0 = λ k. WithinTakes k (length (put ++ take n piece)) in subst P kind.takes (t.limit put (h.wrote [] x));
      full = λ x e. cc;
      fails = t.writes ∙ h.fails;
    }

pub put_fails : (W V U : List ℕ → Type 0) (first old new : Seen) (put : List ℕ) → SameKind first old → Put W V first old put false → WriteFailed V U old new → Put W U first new put true
put_fails W V U first old new put kind h t =
    record {
      wrote = λ bs x. t.wrote _ (h.wrote bs x);
      limit = h.limit;
      full = λ x e. let P : Takes → Type 0 = λ k. MayRefuse k (length put) in subst P kind.takes (t.full put (h.wrote [] x));
      fails = let P : ℕ → Type 0 = λ n. Rose n new.write_faults in subst P h.fails t.rose;
    }

pub longer : (put piece : List ℕ) (n : ℕ) → 0 < n → n ≤ length piece → length put < length (put ++ take n piece)
longer put piece n h w = omega (arith, length-append put (take n piece), length-take-le n piece w)

pub put_fails_at : (W V U : List ℕ → Type 0) (first old new : Seen) (put : List ℕ) (b : Bool) → b ≡ false → SameKind first old → Put W V first old put b → WriteFailed V U old new → Put W U first new put true
put_fails_at W V U first old new put b e kind h t = let P : Bool → Type 0 = λ b. Put W V first old put b in put_fails W V U first old new put kind (subst P e h) t

-- what was taken of a part of a window was taken of the window
pub take_less : (n m : ℕ) (window : List ℕ) → n ≤ length (take m window) → take n (take m window) ≡ take n window
take_less n m window h = let e : n ≤ m = omega (arith, length-take m window) in take-take n m window e

pub put_more_at : (W V U : List ℕ → Type 0) (first old new : Seen) (put window : List ℕ) (m n : ℕ) (b : Bool) → b ≡ false → SameKind first old → Put W V first old put b → Took V U old new (take m window) n → Put W U first new (put ++ take n window) b
put_more_at W V U first old new put window m n b e kind h t =
    let P : Bool → Type 0 = λ b. Put W V first old put b in
    let Q : Bool → Type 0 = λ b. Put W U first new (put ++ take n window) b in
    let R : List ℕ → Type 0 = λ l. Put W U first new (put ++ l) false in
    subst Q (sym e) (subst R (take_less n m window t.within) (put_more W V U first old new put (take m window) n kind (subst P e h) t))

pub up_to_taken : (most m n : ℕ) (window : List ℕ) → 0 < n → n ≤ length (take m window) → m ≤ most → IsUpTo most (take n window)
up_to_taken most m n window z h w =
    let e : length (take m window) ≤ m = omega (arith, length-take m window) in
    let f : length (take n window) ≤ n = omega (arith, length-take n window) in
    let i : n ≤ length window = omega (arith, length-take m window) in
    let g : length (take n window) ≡ n = length-take-le n window i in
    (omega arith, omega arith)

pub longer_at : (put window : List ℕ) (m n : ℕ) → 0 < n → n ≤ length (take m window) → length put < length (put ++ take n window)
longer_at put window m n h w = let P : List ℕ → Type 0 = λ l. length put < length (put ++ l) in subst P (take_less n m window w) (longer put (take m window) n h w)
