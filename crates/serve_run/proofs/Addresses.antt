-- The addresses of connects that all went to one.
use Rattle.std.proofs.Common.{◌≡◌, inl, inr, List, [], ◌∷◌, ◌++◌, Bool, true, false, ◌&&◌, ◌||◌, ◌==◌, if◌then◌else◌, ap, ◌∙◌, refl, eq-eqb}
use Rattle.std.proofs.lemmas.Slice.Eq.{bytes_eq-Decides}
use Rattle.px_link.specs.Net.{Place, with_address, is_among, same_address}
use Rattle.htx_drive.specs.Dialled.{Dialled}

same_as_itself : (one : Place) → same_address one one ≡ true
same_as_itself one = ap (λ b. b && (one.1 == one.1)) ((bytes_eq-Decides one.0 one.0).1 refl) ∙ eq-eqb one.1 one.1 refl

or_true : (b c : Bool) → c ≡ true → (b || c) ≡ true
or_true true c e = refl
or_true false c e = e

added : (all : List Place) (one : Place) → is_among one (all ++ one ∷ []) ≡ true
added [] one = ap (λ b. b || false) (same_as_itself one)
added (other ∷ all) one = or_true (same_address other one) _ (added all one)

-- an address that is added twice stands there once
add_again : (found : Bool) (all : List Place) (one : Place) → is_among one (if found then all else all ++ one ∷ []) ≡ true → with_address (if found then all else all ++ one ∷ []) one ≡ (if found then all else all ++ one ∷ [])
add_again found all one e = ap (λ b. if b then (if found then all else all ++ one ∷ []) else (if found then all else all ++ one ∷ []) ++ one ∷ []) e

is_there : (found : Bool) (all : List Place) (one : Place) → is_among one all ≡ found → is_among one (if found then all else all ++ one ∷ []) ≡ true
is_there true all one e = e
is_there false all one e = added all one

pub add_twice : (all : List Place) (one : Place) → with_address (with_address all one) one ≡ with_address all one
add_twice all one = add_again (is_among one all) all one (is_there (is_among one all) all one refl)

pub dialled_then : (first old new : List Place) (to : Place) → Dialled first old to → Dialled old new to → Dialled first new to
dialled_then first old new to (inl e) (inl f) = inl (f ∙ e)
dialled_then first old new to (inr e) (inl f) = inr (f ∙ e)
dialled_then first old new to (inl e) (inr f) = inr (f ∙ ap (λ all. with_address all to) e)
dialled_then first old new to (inr e) (inr f) = inr (f ∙ ap (λ all. with_address all to) e ∙ add_twice first to)
