-- What a server's event makes of the last connect.
use Rattle.std.proofs.Common.{◌≡◌, ℕ, ◌+◌, ◌<◌, List, [], ◌∷◌, ◌++◌, Bool, false, length, if◌then◌else◌, is_some, sym, ap, subst, ◌∙◌, refl, arith}
use Rattle.session_core.specs.History.{Past, Coming, Connect, at_last, stopping}
use Rattle.htx_drive.specs.Came.{size_of}
use Rattle.htx_drive.specs.Driven.{moved_by}

at_last_of : (f : Connect → Connect) (before : List Connect) (c : Connect) → at_last f (before ++ c ∷ []) ≡ before ++ f c ∷ []
at_last_of f [] c = refl
at_last_of f (b ∷ []) c = refl
at_last_of f (b ∷ d ∷ bs) c = ap (λ l. b ∷ l) (at_last_of f (d ∷ bs) c)

pub stand_last : (S : Past → Type 0) (past : Past) (before : List Connect) (c : Connect) (f : Connect → Connect) → past.connects ≡ before ++ c ∷ []
    → S (record past { connects = at_last f past.connects }) → S (record past { connects = before ++ f c ∷ [] })
stand_last S past before c f e s =
    let P : List Connect → Type 0 = λ cs. S (record past { connects = cs }) in
    subst P (ap (at_last f) e ∙ at_last_of f before c) s

-- as a past
pub last_is : (past : Past) (before : List Connect) (c : Connect) (f : Connect → Connect) → past.connects ≡ before ++ c ∷ []
    → record past { connects = at_last f past.connects } ≡ record past { connects = before ++ f c ∷ [] }
last_is past before c f e = ap (λ (cs : List Connect). record past { connects = cs }) (ap (at_last f) e ∙ at_last_of f before c)

pub more_stream : (c : Connect) (s : Coming) → size_of c.stream < size_of s → moved_by c < moved_by (record c { stream = s })
more_stream c s h = omega arith

pub more_taken : (c : Connect) (put : List ℕ) → length c.taken < length put → moved_by c < moved_by (record c { taken = put })
more_taken c put h = omega arith

pub more_stopped : (c : Connect) → c.stopped ≡ false → moved_by c < moved_by (stopping c)
more_stopped c e =
    let P : Bool → Type 0 = λ b. 1 + size_of c.stream + length c.taken + (if b then 1 else 0) + (if is_some c.closed then 1 else 0) < moved_by (stopping c) in
    let at_false : P false = omega arith in
    subst P (sym e) at_false
