-- Cores that are free, and places.
use Rattle.std.proofs.Common.{◌≡◌, List, [], ◌∷◌, ◌++◌, Bool, true, false, sym, subst}
use Rattle.std.specs.Prelude.{if◌then◌else◌}
use Rattle.std.specs.List.{AllByRecursion}

pub all_more : {A : Type 0} (P : A → Type 0) (xs : List A) (y : A) → AllByRecursion P xs → P y → AllByRecursion P (xs ++ y ∷ [])
all_more P [] y h p = (p, tt)
all_more P (x ∷ xs) y h p = (h.0, all_more P xs y h.1 p)

-- one was given back, where there was room
pub all_pushed : {A : Type 0} (P : A → Type 0) (done : Bool) (old new : List A) (y : A) → new ≡ (if done then old ++ y ∷ [] else old) → AllByRecursion P old → P y → AllByRecursion P new
all_pushed P true old new y e h p = subst (λ l. AllByRecursion P l) (sym e) (all_more P old y h p)
all_pushed P false old new y e h p = subst (λ l. AllByRecursion P l) (sym e) h
