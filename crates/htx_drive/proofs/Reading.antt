-- What a read makes of what came.
use Rattle.std.proofs.Common.{◌≡◌, ℕ, ◌+◌, ◌<◌, ◌≤◌, List, [], ◌++◌, Option, Some, None, IfSome, is_some, if◌then◌else◌, length, take, drop, sym, ap, subst, ◌∙◌, refl, append_assoc, arith, length-append}
use Rattle.std.proofs.lemmas.List.{length-take-le, take-append-drop, take-append-le}
use Rattle.http_model.specs.declared.Ending.{Ending}
use Rattle.http_model.specs.declared.Ending.TheVariants.{Closed, Broke}
use Rattle.px_link.specs.Link.{Seen, SameKind, Gave, ReadFailed, SameInput, counted}
use Rattle.px_link.specs.Calls.{fault_after}
use Rattle.session_core.specs.History.{Coming, gains, ends}
use Rattle.htx_drive.specs.Came.{EndsSo, Came, size_of}
use Rattle.htx_drive.specs.Turned.{IsRead}

pub at_some : {A : Type 0} (o : Option A) (x : A) (P : A → Type 0) → o ≡ Some x → IfSome o P → P x
at_some o x P e h = let Q : Option _ → Type 0 = λ o. IfSome o P in subst Q e h

no_end : (o : Option Ending) (how : Ending) → o ≡ None → o ≡ Some how → ⊥
no_end o how e f = cc

kind_on : (a b c : Seen) → SameKind a b → SameKind b c → SameKind a c
kind_on a b c h k = record { ending = k.ending ∙ h.ending; plain = k.plain ∙ h.plain; takes = k.takes ∙ h.takes; manner = k.manner ∙ h.manner }

pub ends_same : (first old new : Seen) (how : Option Ending) → new.read_faults ≡ old.read_faults → EndsSo first old how → EndsSo first new how
ends_same first old new None e h = e ∙ h
ends_same first old new (Some Closed) e h = (e ∙ h.0, h.1)
ends_same first old new (Some Broke) e h = (e ∙ h.0, h.1)

ends_none : (first old : Seen) (how : Option Ending) → how ≡ None → EndsSo first old how → old.read_faults ≡ first.read_faults
ends_none first old how e h = let P : Option Ending → Type 0 = λ o. EndsSo first old o in subst P e h

pub came_gains : (first old new : Seen) (came : Coming) (buf bytes : List ℕ) (n : ℕ) → came.ending ≡ None → bytes ≡ take n buf → Came first old came → Gave old new buf n → Came first new (gains came bytes)
came_gains first old new came buf bytes n is e h r =
    let long : length bytes ≡ n = ap length e ∙ length-take-le n buf r.within in
    record {
      kind = kind_on first old new h.kind r.kind;
      bytes = λ xs t.
          let o = h.bytes xs t in
          let g = at_some old.to_come o.rest _ o.to_come r.gives in
          record {
            rest = drop n o.rest;
            bytes =
                let join : bytes ++ drop n o.rest ≡ o.rest = ap (λ l. l ++ drop n o.rest) (e ∙ g.1) ∙ take-append-drop n o.rest in
                o.bytes ∙ ap (λ l. came.bytes ++ l) (sym join) ∙ sym (append_assoc came.bytes bytes (drop n o.rest));
            to_come = g.2;
            closed = λ f. absurd (no_end came.ending Closed is f);
            broke = λ p f. absurd (no_end came.ending Broke is f);
          };
      taken = λ k t.
          let u = at_some old.taken (counted k (length came.bytes)) (λ j. new.taken ≡ Some (counted j n)) (h.taken k t) r.taken in
          let v : counted (counted k (length came.bytes)) n ≡ counted k (length (came.bytes ++ bytes)) = omega (arith, length-append came.bytes bytes, long) in
          u ∙ ap (λ j. Some j) v;
      ended = ends_same first old new came.ending r.reads h.ended;
    }

drop_none : (n : ℕ) (rest : List ℕ) → n ≡ 0 → rest ≡ [] → drop n rest ≡ []
drop_none n rest e r = let P : ℕ → Type 0 = λ n. drop n rest ≡ [] in subst P (sym e) r

pub came_closes : (first old new : Seen) (came : Coming) (buf : List ℕ) (n : ℕ) → n ≡ 0 → came.ending ≡ None → Came first old came → Gave old new buf n → Came first new (ends came Closed)
came_closes first old new came buf n zero is h r =
    record {
      kind = kind_on first old new h.kind r.kind;
      bytes = λ xs t.
          let o = h.bytes xs t in
          let g = at_some old.to_come o.rest _ o.to_come r.gives in
          let none : o.rest ≡ [] = at_some old.to_come o.rest (λ l. l ≡ []) o.to_come (r.at_end zero).0 in
          record {
            rest = [];
            bytes = o.bytes ∙ ap (λ l. came.bytes ++ l) none;
            to_come = g.2 ∙ ap (λ l. Some l) (drop_none n o.rest zero none);
            closed = λ f. refl;
            broke = λ p f. refl;
          };
      taken = λ k t.
          let u = at_some old.taken (counted k (length came.bytes)) (λ j. new.taken ≡ Some (counted j n)) (h.taken k t) r.taken in
          let v : counted (counted k (length came.bytes)) n ≡ counted k (length came.bytes) = omega (arith, zero) in
          u ∙ ap (λ j. Some j) v;
      ended =
          let P : Option Ending → Type 0 = λ o. IfSome o (λ e. e ≡ Closed) in
          (r.reads ∙ ends_none first old came.ending is h.ended, subst P h.kind.ending (r.at_end zero).1);
    }

pub came_breaks : (first old new : Seen) (came : Coming) → came.ending ≡ None → Came first old came → ReadFailed old new → Came first new (ends came Broke)
came_breaks first old new came is h r =
    record {
      kind = kind_on first old new h.kind r.kind;
      bytes = λ xs t.
          let o = h.bytes xs t in
          record {
            rest = o.rest;
            bytes = o.bytes;
            to_come = r.to_come ∙ o.to_come;
            closed = λ f. cc;
            broke = λ p f. at_some old.to_come o.rest (λ l. l ≡ []) o.to_come (r.fails (h.kind.plain ∙ p)).0;
          };
      taken = λ k t. r.taken ∙ h.taken k t;
      ended =
          let P : Option Ending → Type 0 = λ o. IfSome o (λ e. e ≡ Broke) in
          (r.one_more ∙ ap fault_after (ends_none first old came.ending is h.ended), λ p. subst P h.kind.ending (r.fails (h.kind.plain ∙ p)).1);
    }

pub came_same : (first old new : Seen) (came : Coming) → Came first old came → SameInput old new → Came first new came
came_same first old new came h s =
    record {
      kind = kind_on first old new h.kind s.kind;
      bytes = λ xs t. let o = h.bytes xs t in record { rest = o.rest; bytes = o.bytes; to_come = s.to_come ∙ o.to_come; closed = o.closed; broke = o.broke };
      taken = λ k t. s.taken ∙ h.taken k t;
      ended = ends_same first old new came.ending s.reads h.ended;
    }

pub size-gains : (came : Coming) (bytes : List ℕ) → 0 < length bytes → size_of came < size_of (gains came bytes)
size-gains came bytes h = omega (arith, length-append came.bytes bytes)

size_none : (bytes : List ℕ) (how : Option Ending) → how ≡ None → length bytes + (if is_some how then 1 else 0) < length bytes + 1
size_none bytes how e = let P : Option Ending → Type 0 = λ o. length bytes + (if is_some o then 1 else 0) < length bytes + 1 in let at_none : P None = omega arith in subst P (sym e) at_none

pub size-ends : (came : Coming) (how : Ending) → came.ending ≡ None → size_of came < size_of (ends came how)
size-ends came how e = size_none came.bytes came.ending e

-- what was read stands in front of the rest of the array
pub in_front : (n : ℕ) (buf tail : List ℕ) → n ≤ length buf → take n (buf ++ tail) ≡ take n buf
in_front n buf tail h = take-append-le n buf tail h

pub size-front : (came : Coming) (n : ℕ) (buf tail : List ℕ) → 0 < n → n ≤ length buf → size_of came < size_of (gains came (take n (buf ++ tail)))
size-front came n buf tail z h =
    size-gains came (take n (buf ++ tail)) (let e : length (take n (buf ++ tail)) ≡ n = ap length (in_front n buf tail h) ∙ length-take-le n buf h in omega arith)

pub read_front : (limit most n : ℕ) (buf tail : List ℕ) → 0 < n → n ≤ length buf → length buf ≤ most → length buf ≤ limit → IsRead limit most (take n (buf ++ tail))
read_front limit most n buf tail z h w m =
    let e : length (take n (buf ++ tail)) ≡ n = ap length (in_front n buf tail h) ∙ length-take-le n buf h in
    ((omega arith, omega arith), omega arith)

pub more_left : (a b n : ℕ) → a < b → a + n < b + n
more_left a b n h = omega arith
