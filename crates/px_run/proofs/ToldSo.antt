-- What lines are of, one behind the other: connections that ended, and exchanges that are told.
use Rattle.std.proofs.Common.{◌≡◌, ℕ, List, [], ◌∷◌, ◌++◌, Bool, Option, Some, refl, sym, ap, subst, ◌∙◌, inl, inr, append_assoc}
use Rattle.std.specs.List.{AllByRecursion}
use Rattle.std.proofs.lemmas.Bool.{cases_eq}
use Rattle.session_model.specs.Meaning.{Meaning}
use Rattle.session_core.specs.History.{Past}
use Rattle.px_link.specs.Link.{Seen}
use Rattle.px_link.specs.Net.{Place, NetSeen}
use Rattle.px_peer.specs.declared.Pair.{Pair}
use Rattle.htx_drive.specs.Machine.{CoreSeen}
use Rattle.px_run.specs.Log.{Entry, entry_line, entry_lines, IsToldOf, IsLine, MoreLines}
use Rattle.px_run.specs.Lines.{Ended, Said, Ends, Tells, said_line, lines_of, ended_in, AllTold, says_of, tells_of}
use Rattle.px_run.specs.History.{Visit, numbered, change_numbered, IsLogged, KeepsEach}
use Rattle.px_run.specs.declared.plan.Opening.{Opening}
use Rattle.px_run.proofs.Numbers.{num_here, num_other, num_more}
use Rattle.px_run.proofs.Logs.{more_as}

-- ---- lines

pub lines_then : (xs ys : List Said) → lines_of (xs ++ ys) ≡ lines_of xs ++ lines_of ys
lines_then [] ys = refl
lines_then (x ∷ xs) ys = ap (λ l. said_line x ++ l) (lines_then xs ys) ∙ sym (append_assoc (said_line x) (lines_of xs) (lines_of ys))

lines_told : (entries : List Entry) → lines_of (tells_of entries) ≡ entry_lines entries
lines_told [] = refl
lines_told (x ∷ xs) = ap (λ l. entry_line x ++ l) (lines_told xs)

ended_then : (xs ys : List Said) → ended_in (xs ++ ys) ≡ ended_in xs ++ ended_in ys
ended_then [] ys = refl
ended_then (Ends one ∷ xs) ys = ap (λ l. one ∷ l) (ended_then xs ys)
ended_then (Tells entry ∷ xs) ys = ended_then xs ys

ended_told : (entries : List Entry) (ys : List Said) → ended_in (tells_of entries ++ ys) ≡ ended_in ys
ended_told [] ys = refl
ended_told (x ∷ xs) ys = ended_told xs ys

ended_says : (ended : List Ended) → ended_in (says_of ended) ≡ ended
ended_says [] = refl
ended_says (x ∷ xs) = ap (λ l. x ∷ l) (ended_says xs)

-- exchanges were told, and then connections ended
pub lines_more : (said : List Said) (entries : List Entry) (ended : List Ended) → lines_of (said ++ (tells_of entries ++ says_of ended)) ≡ (lines_of said ++ entry_lines entries) ++ lines_of (says_of ended)
lines_more said entries ended =
    lines_then said (tells_of entries ++ says_of ended) ∙ ap (λ l. lines_of said ++ l) (lines_then (tells_of entries) (says_of ended) ∙ ap (λ l. l ++ lines_of (says_of ended)) (lines_told entries))
    ∙ sym (append_assoc (lines_of said) (entry_lines entries) (lines_of (says_of ended)))

pub ended_more : (said : List Said) (entries : List Entry) (ended : List Ended) → ended_in (said ++ (tells_of entries ++ says_of ended)) ≡ ended_in said ++ ended
ended_more said entries ended = ended_then said (tells_of entries ++ says_of ended) ∙ ap (λ l. ended_in said ++ l) (ended_told entries (says_of ended) ∙ ended_says ended)

-- ---- what is so of them

told_then : (so : Entry → Type 0) (xs ys : List Said) → AllTold so xs → AllTold so ys → AllTold so (xs ++ ys)
told_then so [] ys h k = k
told_then so (Ends one ∷ xs) ys h k = told_then so xs ys h k
told_then so (Tells entry ∷ xs) ys h k = (h.0, told_then so xs ys h.1 k)

told_as : (so how : Entry → Type 0) → ((entry : Entry) → so entry → how entry) → (said : List Said) → AllTold so said → AllTold how said
told_as so how f [] h = tt
told_as so how f (Ends one ∷ said) h = told_as so how f said h
told_as so how f (Tells entry ∷ said) h = (f entry h.0, told_as so how f said h.1)

told_says : (so : Entry → Type 0) (ended : List Ended) → AllTold so (says_of ended)
told_says so [] = tt
told_says so (x ∷ xs) = told_says so xs

told_tells : (so : Entry → Type 0) (entries : List Entry) (said : List Said) → AllByRecursion so entries → AllTold so said → AllTold so (tells_of entries ++ said)
told_tells so [] said h k = k
told_tells so (x ∷ xs) said h k = (h.0, told_tells so xs said h.1 k)

-- ---- connections keep their numbers

pub keeps_same : {L N : Type 0} (visits : List (Visit L N)) → KeepsEach visits visits
keeps_same visits = λ number visit e. (visit, e, refl, refl)

pub keeps_more : {L N : Type 0} (visits more : List (Visit L N)) → KeepsEach visits (visits ++ more)
keeps_more visits more = λ number visit e. (visit, num_more visits more number visit e, refl, refl)

pub keeps_changed : {L N : Type 0} (f : Visit L N → Visit L N) → ((v : Visit L N) → (f v).first ≡ v.first) → ((v : Visit L N) → (f v).own ≡ v.own) → (number : ℕ) (visits : List (Visit L N)) → KeepsEach visits (change_numbered f number visits)
keeps_changed f first own number visits = λ other visit e. elim (cases_eq other number) [
  | inl same ↦ (f visit, ap (λ k. numbered k (change_numbered f number visits)) same ∙ num_here f visits number visit (ap (λ k. numbered k visits) (sym same) ∙ e), first visit, own visit)
  | inr ne ↦ (visit, num_other f visits number other ne ∙ e, refl, refl)
]

module _ {C L N : Type 0} (M : Option Pair → Meaning) (stands : Option Pair → C → Past → Type 0) (sees : C → CoreSeen) (seen : L → Seen) (wrote : L → List ℕ → Type 0) (tells : L → Option Pair → Type 0) (accepts_header logs : Bool) (opening : Opening) (sees_net : N → NetSeen) (to : Place) where
  logged_kept : (visits behind : List (Visit L N)) → KeepsEach visits behind → (entry : Entry) → IsLogged M stands sees seen wrote tells accepts_header logs opening sees_net to visits entry → IsLogged M stands sees seen wrote tells accepts_header logs opening sees_net to behind entry
  logged_kept visits behind k entry l =
      let n = k entry.connection l.visit l.is in
      let P : L → Type 0 = λ first. IsToldOf M stands sees seen wrote tells accepts_header opening sees_net to first l.visit.own entry in
      let Q : N → Type 0 = λ own. IsToldOf M stands sees seen wrote tells accepts_header opening sees_net to n.0.first own entry in
      record { asked = l.asked; visit = n.0; is = n.1; told = subst Q (sym n.3) (subst P (sym n.2) l.told) }

  pub told_kept : (visits behind : List (Visit L N)) → KeepsEach visits behind → (said : List Said) → AllTold (IsLogged M stands sees seen wrote tells accepts_header logs opening sees_net to visits) said → AllTold (IsLogged M stands sees seen wrote tells accepts_header logs opening sees_net to behind) said
  told_kept visits behind k said h =
      told_as (IsLogged M stands sees seen wrote tells accepts_header logs opening sees_net to visits) (IsLogged M stands sees seen wrote tells accepts_header logs opening sees_net to behind) (λ entry l. logged_kept visits behind k entry l) said h

  -- exchanges were told, and then connections ended
  pub told_more : (visits behind : List (Visit L N)) → KeepsEach visits behind → (said : List Said) (entries : List Entry) (ended : List Ended) → AllByRecursion (IsLogged M stands sees seen wrote tells accepts_header logs opening sees_net to visits) entries
      → AllTold (IsLogged M stands sees seen wrote tells accepts_header logs opening sees_net to visits) said → AllTold (IsLogged M stands sees seen wrote tells accepts_header logs opening sees_net to behind) (said ++ (tells_of entries ++ says_of ended))
  told_more visits behind k said entries ended e h =
      let so : Entry → Type 0 = IsLogged M stands sees seen wrote tells accepts_header logs opening sees_net to visits in
      told_kept visits behind k (said ++ (tells_of entries ++ says_of ended)) (told_then so said (tells_of entries ++ says_of ended) h (told_tells so entries (says_of ended) e (told_says so ended)))

  -- what a look tells of the connection of a number is logged
  pub more_logged : (visits : List (Visit L N)) (visit : Visit L N) (number : ℕ) → numbered number visits ≡ Some visit → (old new : List ℕ)
      → MoreLines (IsLine logs number (IsToldOf M stands sees seen wrote tells accepts_header opening sees_net to visit.first visit.own)) old new → MoreLines (IsLogged M stands sees seen wrote tells accepts_header logs opening sees_net to visits) old new
  more_logged visits visit number is old new m =
      more_as (IsLine logs number (IsToldOf M stands sees seen wrote tells accepts_header opening sees_net to visit.first visit.own)) (IsLogged M stands sees seen wrote tells accepts_header logs opening sees_net to visits) old new
      (λ entry l. record { asked = l.asked; visit = visit; is = ap (λ k. numbered k visits) l.number ∙ is; told = l.is }) m
