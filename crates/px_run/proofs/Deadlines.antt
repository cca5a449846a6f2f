-- The least of the times of some rows.
use Rattle.std.proofs.Common.{◌≡◌, ℕ, ◌≤◌, List, [], ◌∷◌, Option, Some, None, Bool, refl, sym, subst, inl, inr, arith}
use Rattle.std.specs.Prelude.{if◌then◌else◌}
use Rattle.std.specs.List.{AllByRecursion}
use Rattle.std.proofs.lemmas.Bool.Decides.{leb_tells}
use Rattle.px_run.specs.declared.deadline.Call.{Call}
use Rattle.px_run.specs.declared.deadline.Call.TheVariants as call
use Rattle.px_run.specs.Deadline.{Row, row, sooner, IsNotBefore, IsLeast}

later : (n m : ℕ) → n ≤ m → (o : Option ℕ) → IsNotBefore m o → IsNotBefore n o
later n m le None h = tt
later n m le (Some k) h = omega (arith, le, h)

all_later : (n m : ℕ) → n ≤ m → (rows : List Row) → AllByRecursion (λ (r : Row). IsNotBefore m r.at) rows → AllByRecursion (λ (r : Row). IsNotBefore n r.at) rows
all_later n m le [] h = tt
all_later n m le (r ∷ rows) h = (later n m le r.at h.0, all_later n m le rows h.1)

none_before : (n : ℕ) (o : Option ℕ) → o ≡ None → IsNotBefore n o
none_before n o e = let P : Option ℕ → Type 0 = λ o. IsNotBefore n o in subst P (sym e) tt

all_none : (n : ℕ) (rows : List Row) → AllByRecursion (λ (r : Row). r.at ≡ None) rows → AllByRecursion (λ (r : Row). IsNotBefore n r.at) rows
all_none n [] h = tt
all_none n (r ∷ rows) h = (none_before n r.at h.0, all_none n rows h.1)

-- a row in front of others
in_front : (of : Call) (at : Option ℕ) (rows : List Row) (least : Option ℕ) → IsLeast least rows → IsLeast (sooner at least) (row of at ∷ rows)
in_front of None rows None h = (refl, h)
in_front of None rows (Some m) h = (inr h.0, (tt, h.1))
in_front of (Some n) rows None h = (inl refl, (omega arith, all_none n rows h))
in_front of (Some n) rows (Some m) h =
    let P : Bool → Type 0 = λ b. IsLeast (if b then Some n else Some m) (row of (Some n) ∷ rows) in
    elim (leb_tells n m) [
      | inl w ↦ subst P (sym w.0) (inl refl, (omega arith, all_later n m w.1 rows h.1))
      | inr w ↦ subst P (sym w.0) (inr h.0, (omega (arith, w.1), h.1))
    ]

alone : (of : Call) (at : Option ℕ) → IsLeast at (row of at ∷ [])
alone of None = (refl, tt)
alone of (Some n) = (inl refl, (omega arith, tt))

-- the sooner of each and those behind it
pub is_least : (a b c d e f : Option ℕ)
    → IsLeast (sooner a (sooner b (sooner c (sooner d (sooner e f))))) (row call.Connect a ∷ row call.ServerRead b ∷ row call.ServerWrite c ∷ row call.ClientWrite d ∷ row call.ClientRead e ∷ row call.ClientRead f ∷ [])
is_least a b c d e f = in_front _ a _ _ (in_front _ b _ _ (in_front _ c _ _ (in_front _ d _ _ (in_front _ e _ _ (alone _ f)))))
