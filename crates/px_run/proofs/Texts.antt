-- The lines that are written, one after another.
use Rattle.std.proofs.Common.{◌≡◌, ℕ, ◌+◌, ◌<◌, ◌≤◌, List, [], ◌∷◌, ◌++◌, Bool, true, false, cond, Option, Some, None, refl, sym, ap, subst, ◌∙◌, inl, inr, append_assoc, arith}
use Rattle.std.specs.Prelude.{Result, Ok, Err, OnOk, IfSome, is_ok, ◌==◌, is_some}
use Rattle.std.proofs.lemmas.List.{append-nil}
use Rattle.std.proofs.lemmas.Bool.{eq-eqb, ne_eqb, false≢true}
use Rattle.px_link.specs.Told.{Rose, Gains, GainsFront}
use Rattle.htx_drive.specs.declared.Ran.{Ran}
use Rattle.htx_drive.specs.declared.SessionFault.{SessionFault}
use Rattle.htx_drive.specs.declared.SessionFault.TheVariants as faults
use Rattle.serve_run.specs.declared.outcome.Outcome.{Outcome}
use Rattle.serve_run.specs.declared.outcome.Outcome.TheVariants as outcome
use Rattle.serve_run.specs.Lines.{answer_of}
use Rattle.px_run.specs.Lines.{Ended, outcomes_in, said_of, ended_by, Writes}
use Rattle.px_run.specs.Connection.{LookedSo, IsIdle}
use Rattle.px_run.specs.Served.{WritesLines}
use Rattle.px_run.specs.declared.connection.Looked.{Looked}
use Rattle.px_run.specs.declared.connection.Looked.TheVariants as looks
use Rattle.px_run.specs.declared.lines.Output.{Output}
use Rattle.px_run.specs.declared.lines.Output.TheVariants as outputs

-- ---- what was written

gains_none : (old : Option (List ℕ)) → Gains old old []
gains_none None = tt
gains_none (Some bytes) = ap (λ b. Some b) (sym (append-nil bytes))

gains_then : (old mid new : Option (List ℕ)) (xs ys : List ℕ) → Gains old mid xs → Gains mid new ys → Gains old new (xs ++ ys)
gains_then None mid new xs ys g h = tt
gains_then (Some bytes) mid new xs ys g h =
    let P : Option (List ℕ) → Type 0 = λ o. Gains o new ys in
    let then_new : new ≡ Some ((bytes ++ xs) ++ ys) = subst P g h in then_new ∙ ap (λ b. Some b) (append_assoc bytes xs ys)

front_whole : (old new : Option (List ℕ)) (xs : List ℕ) → Gains old new xs → GainsFront old new xs
front_whole old new xs g = (xs, [], sym (append-nil xs), g)

front_then : (old mid new : Option (List ℕ)) (xs ys : List ℕ) → Gains old mid xs → GainsFront mid new ys → GainsFront old new (xs ++ ys)
front_then old mid new xs ys g h = (xs ++ h.0, h.1, ap (λ b. xs ++ b) h.2 ∙ sym (append_assoc xs h.0 h.1), gains_then old mid new xs h.0 g h.3)

pub writes_none : (writes : ℕ) (old : Option (List ℕ)) → Writes true outputs.Open writes writes old old []
writes_none writes old = (refl, gains_none old)

-- a front of it was written
pub writes_front : (output : Output) (writes writes_now : ℕ) (old new : Option (List ℕ)) (text : List ℕ) → Writes true output writes writes_now old new text → GainsFront old new text
writes_front outputs.Open writes writes_now old new text w = front_whole old new text w.1
writes_front outputs.Gone writes writes_now old new text w = w.1

pub front_short : (old new : Option (List ℕ)) (text more : List ℕ) → GainsFront old new text → GainsFront old new (text ++ more)
front_short old new text more g = (g.0, g.1 ++ more, ap (λ b. b ++ more) g.2 ∙ append_assoc g.0 g.1 more, g.3)

-- nothing of what was said then was written
pub writes_short : (output : Output) (writes writes_now : ℕ) (old new : Option (List ℕ)) (text more : List ℕ) → Writes true output writes writes_now old new text → GainsFront old new (text ++ more)
writes_short output writes writes_now old new text more w = front_short old new text more (writes_front output writes writes_now old new text w)

pub writes_weaker : (whole : Bool) (output : Output) (writes writes_now : ℕ) (old new : Option (List ℕ)) (text : List ℕ) → Writes true output writes writes_now old new text → Writes whole output writes writes_now old new text
writes_weaker true output writes writes_now old new text w = w
writes_weaker false output writes writes_now old new text w = writes_front output writes writes_now old new text w

-- a front of it was
pub writes_part : (writes mid : ℕ) (old between new : Option (List ℕ)) (text line : List ℕ) → GainsFront between new line → Writes true outputs.Open writes mid old between text → GainsFront old new (text ++ line)
writes_part writes mid old between new text line g w = front_then old between new text line w.1 g

rose_from : (a b c : ℕ) → b ≡ a → Rose b c → Rose a c
rose_from a b c e h = let P : ℕ → Type 0 = λ n. Rose n c in subst P e h

pub writes_fails : (writes mid now : ℕ) (old between new : Option (List ℕ)) (text line : List ℕ) → Rose mid now → GainsFront between new line → Writes true outputs.Open writes mid old between text → Writes true outputs.Gone writes now old new (text ++ line)
writes_fails writes mid now old between new text line r g w = (rose_from writes mid now w.0 r, front_then old between new text line w.1 g)

pub writes_as : (whole : Bool) (output : Output) (writes writes_now : ℕ) (old new : Option (List ℕ)) (xs ys : List ℕ) → xs ≡ ys → Writes whole output writes writes_now old new xs → Writes whole output writes writes_now old new ys
writes_as whole output writes writes_now old new xs ys e w = let P : List ℕ → Type 0 = λ b. Writes whole output writes writes_now old new b in subst P e w

pub writes_open : (whole : Bool) (output other : Output) (writes writes_now : ℕ) (old new : Option (List ℕ)) (text : List ℕ) → output ≡ other → Writes whole output writes writes_now old new text → Writes whole other writes writes_now old new text
writes_open whole output other writes writes_now old new text e w = let P : Output → Type 0 = λ o. Writes whole o writes writes_now old new text in subst P e w

-- by the loop's answer
pub writes_lines : (whole : Bool) (output : Output) (writes writes_now : ℕ) (old new : Option (List ℕ)) (text : List ℕ) → Writes whole output writes writes_now old new text → WritesLines whole writes writes_now old new text
writes_lines true outputs.Open writes writes_now old new text w = inl w
writes_lines true outputs.Gone writes writes_now old new text w = inr w
writes_lines false output writes writes_now old new text w = w

-- ---- the connections that ended

or_one : (b : Bool) (x : Outcome) (more rest behind : List Outcome) → more ≡ rest ++ behind → cond b (x ∷ more) more ≡ cond b (x ∷ rest) rest ++ behind
or_one true x more rest behind e = ap (λ l. x ∷ l) e
or_one false x more rest behind e = e

pub said_then : (number : ℕ) (xs ys : List Ended) → said_of number (xs ++ ys) ≡ said_of number xs ++ said_of number ys
said_then number [] ys = refl
said_then number (x ∷ xs) ys = or_one (x.0 == number) x.1 (said_of number (xs ++ ys)) (said_of number xs) (said_of number ys) (said_then number xs ys)

-- the line of the connection that was looked at
pub looked_says : (looked : Looked) (number : ℕ) (was ran : Option (Result Ran SessionFault)) → LookedSo looked number was ran → (other : ℕ) → other ≡ number → outcomes_in ran ≡ outcomes_in was ++ said_of other (ended_by looked)
looked_says looks.Waits number was ran h other e = ap (λ o. outcomes_in o) h ∙ sym (append-nil (outcomes_in was))
looked_says looks.GoesOn number was ran h other e = ap (λ o. outcomes_in o) h ∙ sym (append-nil (outcomes_in was))
looked_says looks.Rests number was ran h other e = ap (λ o. outcomes_in o) h ∙ sym (append-nil (outcomes_in was))
looked_says looks.Hungry number was ran h other e = ap (λ o. outcomes_in o) h ∙ sym (append-nil (outcomes_in was))
looked_says (looks.Ended told outcome) number was ran h other e =
    let one : said_of other ((told, outcome) ∷ []) ≡ outcome ∷ [] = ap (λ b. cond b (outcome ∷ []) []) (eq-eqb told other (h.0 ∙ sym e)) in
    h.3 ∙ sym (ap (λ o. outcomes_in o ++ said_of other ((told, outcome) ∷ [])) h.1 ∙ one)
looked_says looks.Lost number was ran h other e = h.2 ∙ sym (ap (λ o. outcomes_in o ++ []) h.0)
looked_says looks.Leaves number was ran h other e = ap (λ o. outcomes_in o) h.0 ∙ sym (append-nil (outcomes_in was))

-- and of no other
pub looked_other : (looked : Looked) (number : ℕ) (was ran : Option (Result Ran SessionFault)) → LookedSo looked number was ran → (other : ℕ) → (other ≡ number → ⊥) → said_of other (ended_by looked) ≡ []
looked_other looks.Waits number was ran h other n = refl
looked_other looks.GoesOn number was ran h other n = refl
looked_other looks.Rests number was ran h other n = refl
looked_other looks.Hungry number was ran h other n = refl
looked_other (looks.Ended told outcome) number was ran h other n = ap (λ b. cond b (outcome ∷ []) []) (ne_eqb told other (λ e. n (sym e ∙ h.0)))
looked_other looks.Lost number was ran h other n = refl
looked_other looks.Leaves number was ran h other n = refl

pub idle_says : (looked : Looked) → IsIdle looked → ended_by looked ≡ []
idle_says looks.Waits h = refl
idle_says looks.GoesOn h = refl
idle_says looks.Rests h = refl
idle_says looks.Hungry h = refl
idle_says (looks.Ended told outcome) h = let none = (h 0 None).2 in cc
idle_says looks.Lost h = refl
idle_says looks.Leaves h = refl

-- one that was looked at, and wasn't given up for want of memory
pub looked_keeps : (looked : Looked) (number : ℕ) (was ran : Option (Result Ran SessionFault)) → LookedSo looked number was ran → (looked ≡ looks.Lost → ⊥) → (is_some was ≡ true → outcomes_in was ≡ [] → ⊥) → is_some ran ≡ true → outcomes_in ran ≡ [] → ⊥
looked_keeps looks.Waits number was ran h l k s o = k (ap is_some (sym h) ∙ s) (ap (λ r. outcomes_in r) (sym h) ∙ o)
looked_keeps looks.GoesOn number was ran h l k s o = k (ap is_some (sym h) ∙ s) (ap (λ r. outcomes_in r) (sym h) ∙ o)
looked_keeps looks.Rests number was ran h l k s o = k (ap is_some (sym h) ∙ s) (ap (λ r. outcomes_in r) (sym h) ∙ o)
looked_keeps looks.Hungry number was ran h l k s o = k (ap is_some (sym h) ∙ s) (ap (λ r. outcomes_in r) (sym h) ∙ o)
looked_keeps (looks.Ended told outcome) number was ran h l k s o = let one = h.3 in cc
looked_keeps looks.Lost number was ran h l k s o = l refl
looked_keeps looks.Leaves number was ran h l k s o = k (ap is_some (sym h.0) ∙ s) (ap (λ r. outcomes_in r) (sym h.0) ∙ o)

-- it has an outcome
pub has_outcome : (ran : Option (Result Ran SessionFault)) → is_some ran ≡ true → (outcomes_in ran ≡ [] → ⊥) → (outcome : Outcome) × (ran ≡ Some (answer_of outcome))
has_outcome None s o = absurd (false≢true s)
has_outcome (Some (Ok ran)) s o = (outcome.Ended ran, refl)
has_outcome (Some (Err faults.ClientWrite)) s o = (outcome.ClientWrite, refl)
has_outcome (Some (Err faults.Spent)) s o = absurd (o refl)
has_outcome (Some (Err faults.OutOfMemory)) s o = absurd (o refl)

pub on_ok_then : {T E : Type 0} (answer : Result T E) (P : Type 0) → OnOk answer P → is_ok answer ≡ true → P
on_ok_then (Ok x) P h e = h
on_ok_then (Err x) P h e = absurd (false≢true e)

-- ---- how many were accepted

pub within_then : (most : Option ℕ) (a b c d : ℕ) → IfSome most (λ (count : ℕ). a ≤ count → b ≤ count) → c ≡ b → IfSome most (λ (count : ℕ). c ≤ count → d ≤ count) → IfSome most (λ (count : ℕ). a ≤ count → d ≤ count)
within_then None a b c d h e k = tt
within_then (Some count) a b c d h e k = λ w. k (let x = h w in omega (arith, x, e))

pub within_one : (most : Option ℕ) (a b : ℕ) → IfSome most (λ (count : ℕ). a < count) → b ≤ a + 1 → IfSome most (λ (count : ℕ). a ≤ count → b ≤ count)
within_one None a b h e = tt
within_one (Some count) a b h e = λ w. omega (arith, h, e)

pub within_same : (most : Option ℕ) (a b : ℕ) → b ≡ a → IfSome most (λ (count : ℕ). a ≤ count → b ≤ count)
within_same None a b e = tt
within_same (Some count) a b e = λ w. omega (arith, e, w)

pub within_begun : (most : Option ℕ) (a b : ℕ) → a ≡ 0 → IfSome most (λ (count : ℕ). a ≤ count → b ≤ count) → IfSome most (λ (count : ℕ). b ≤ count)
within_begun None a b e h = tt
within_begun (Some count) a b e h = h (omega (arith, e))

pub within_as : (most : Option ℕ) (a b : ℕ) → b ≡ a → IfSome most (λ (count : ℕ). a ≤ count) → IfSome most (λ (count : ℕ). b ≤ count)
within_as None a b e h = tt
within_as (Some count) a b e h = omega (arith, e, h)
