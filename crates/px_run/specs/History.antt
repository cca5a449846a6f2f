-- What a loop did since it began: with the net that listens, and with each connection.
use Rattle.std.specs.Prelude.{◌≡◌, ℕ, Bool, zero, suc, ◌==◌, ◌⊎◌, if◌then◌else◌, List, [], ◌∷◌, map, slice_get, Option, Some, None, Result, IfSome, is_some, true}
use Rattle.std.specs.List.{sum_by}
use Rattle.session_model.specs.Meaning.{Meaning}
use Rattle.session_core.specs.History.{Past}
use Rattle.px_link.specs.Link.{Seen}
use Rattle.px_peer.specs.declared.Pair.{Pair}
use Rattle.px_link.specs.Net.{Place, NetSeen, Accepted, AcceptFailed, AcceptUnroomed, Keeps}
use Rattle.htx_drive.specs.Machine.{CoreSeen}
use Rattle.htx_drive.specs.declared.Ran.{Ran}
use Rattle.htx_drive.specs.declared.SessionFault.{SessionFault}
use Rattle.serve_run.specs.declared.outcome.Outcome.{Outcome}
use Rattle.px_run.specs.Course.{IsToldNet}
use Rattle.px_run.specs.Callers.{CameBack}
use Rattle.px_run.specs.Lines.{Ended, outcomes_in, said_of}
use Rattle.px_run.specs.Log.{Entry, IsToldOf}
use Rattle.px_run.specs.declared.plan.Opening.{Opening}

-- ---- connections

-- A connection: its link as it was accepted, the net that was made for it, what it came to, and both as they were when the link was given back.
pub record Visit (L N : Type 0) : Type 0 where
  pub first : L
  pub own : N
  pub came : Option (Result Ran SessionFault)
  pub back : Option (L × N)

-- one that was accepted
abbrev pub new_visit : {L N : Type 0} → L → N → Visit L N
new_visit link own = record { first = link; own = own; came = None; back = None }

-- the one of this number: they are numbered from 1
abbrev pub numbered : {A : Type 0} → (number : ℕ) → List A → Option A
numbered zero all = None
numbered (suc place) all = slice_get all place

-- the one of this number is changed
abbrev pub change_at : {A : Type 0} → (A → A) → (place : ℕ) → List A → List A
change_at change place [] = []
change_at change zero (one ∷ all) = change one ∷ all
change_at change (suc place) (one ∷ all) = one ∷ change_at change place all

abbrev pub change_numbered : {A : Type 0} → (A → A) → (number : ℕ) → List A → List A
change_numbered change zero all = all
change_numbered change (suc place) all = change_at change place all

-- it came to this
abbrev pub came_to : {L N : Type 0} → Option (Result Ran SessionFault) → Visit L N → Visit L N
came_to ran visit = record visit { came = ran }

-- it was given back so
abbrev pub given_back : {L N : Type 0} → (client : L) → (net : N) → Visit L N → Visit L N
given_back client net visit = record visit { back = Some (client, net) }

-- its link as it was given back
abbrev pub link_of : {L N : Type 0} → Option (L × N) → List L
link_of None = []
link_of (Some back) = back.0 ∷ []

abbrev pub links_back : {L N : Type 0} → Option (Visit L N) → List L
links_back None = []
links_back (Some visit) = link_of visit.back

-- its outcome
abbrev pub outcomes_of : {L N : Type 0} → Option (Visit L N) → List Outcome
outcomes_of None = []
outcomes_of (Some visit) = outcomes_in visit.came

-- one where it wasn't given back
abbrev pub open_in : {A : Type 0} → Option A → ℕ
open_in None = 1
open_in (Some back) = 0

-- how many weren't given back
abbrev pub count_open : {L N : Type 0} → List (Visit L N) → ℕ
count_open {L} {N} visits = sum_by (λ (visit : Visit L N). open_in visit.back) visits

-- Its net is a new one, which was told of the application, where there is one. Where its link was given back, it was met as the link that was accepted tells, its net was to introduce its caller, whose session led there, or it was turned away or given up.
pub record IsVisit {C L N : Type 0} (M : Option Pair → Meaning) (stands : Option Pair → C → Past → Type 0) (sees : C → CoreSeen) (seen : L → Seen) (wrote : L → List ℕ → Type 0) (tells : L → Option Pair → Type 0) (accepts_header : Bool) (opening : Opening) (sees_net : N → NetSeen) (to : Place) (visit : Visit L N) : Type 0 where
  pub new_net : IsToldNet opening.responder (sees_net visit.own)
  pub back : IfSome visit.back (λ (back : L × N). CameBack M stands sees seen wrote tells accepts_header opening visit.first back.0 to (sees_net visit.own) (sees_net back.1) visit.came)

-- An exchange that is told is one of a connection that was accepted, and was so.
pub record IsLogged {C L N : Type 0} (M : Option Pair → Meaning) (stands : Option Pair → C → Past → Type 0) (sees : C → CoreSeen) (seen : L → Seen) (wrote : L → List ℕ → Type 0) (tells : L → Option Pair → Type 0) (accepts_header logs : Bool) (opening : Opening) (sees_net : N → NetSeen) (to : Place) (visits : List (Visit L N)) (entry : Entry) : Type 0 where
  pub asked : logs ≡ true
  pub visit : Visit L N
  pub is : numbered entry.connection visits ≡ Some visit
  pub told : IsToldOf M stands sees seen wrote tells accepts_header opening sees_net to visit.first visit.own entry

-- It is given back only once it has come to something, and not for want of memory.
pub record EndsByItself {L N : Type 0} (visit : Visit L N) : Type 0 where
  pub over : is_some visit.back ≡ true → is_some visit.came ≡ true
  pub kept_on : is_some visit.came ≡ true → outcomes_in visit.came ≡ [] → ⊥

-- each connection has its number still, the link that was accepted, and the net that was made for it
abbrev pub KeepsEach : {L N : Type 0} → (old new : List (Visit L N)) → Type 0
KeepsEach {L} {N} old new = (number : ℕ) (visit : Visit L N) → numbered number old ≡ Some visit → (next : Visit L N) × (numbered number new ≡ Some next) × (next.first ≡ visit.first) × (next.own ≡ visit.own)

-- ---- the net that listens

-- what was done with it: a link was accepted, an accept failed or wanted memory, or the link of the connection of this number was given back
pub data Act (L : Type 0) : Type 0 where
  Accepts : L → Act L
  AcceptsNone : Act L
  GivesBack : ℕ → L → Act L

abbrev pub Does : {L : Type 0} → (seen : L → Seen) → (wrote : L → List ℕ → Type 0) → Act L → (old new : NetSeen) → Type 0
Does seen wrote (Accepts link) old new = Accepted old new (seen link) (wrote link [])
Does seen wrote AcceptsNone old new = AcceptFailed old new ⊎ AcceptUnroomed old new
Does seen wrote (GivesBack number link) old new = Keeps (wrote link) old new (seen link)

-- one after another
abbrev pub AllDone : {L : Type 0} → (seen : L → Seen) → (wrote : L → List ℕ → Type 0) → List (Act L) → (old new : NetSeen) → Type 0
AllDone seen wrote [] old new = new ≡ old
AllDone seen wrote (act ∷ acts) old new = (next : NetSeen) × Does seen wrote act old next × AllDone seen wrote acts next new

-- the links that were accepted, in their order
abbrev pub accepted_in : {L : Type 0} → List (Act L) → List L
accepted_in [] = []
accepted_in (Accepts link ∷ acts) = link ∷ accepted_in acts
accepted_in (AcceptsNone ∷ acts) = accepted_in acts
accepted_in (GivesBack number link ∷ acts) = accepted_in acts

-- the links of the connection of this number that were given back
abbrev pub returned_in : {L : Type 0} → (number : ℕ) → List (Act L) → List L
returned_in number [] = []
returned_in number (Accepts link ∷ acts) = returned_in number acts
returned_in number (AcceptsNone ∷ acts) = returned_in number acts
returned_in number (GivesBack other link ∷ acts) = if other == number then link ∷ returned_in number acts else returned_in number acts

-- ---- all of it

-- From the one net to the other exactly the links of these connections were accepted, in their order, and each that was given back was so once, as it was then. These
-- are the connections that came to an outcome, each once.
pub record Story {L N : Type 0} (seen : L → Seen) (wrote : L → List ℕ → Type 0) (begun now : NetSeen) (visits : List (Visit L N)) (ended : List Ended) : Type 0 where
  pub acts : List (Act L)
  pub done : AllDone seen wrote acts begun now
  pub accepted : accepted_in acts ≡ map (λ (visit : Visit L N). visit.first) visits
  pub returned : (number : ℕ) → returned_in number acts ≡ links_back (numbered number visits)
  pub said : (number : ℕ) → said_of number ended ≡ outcomes_of (numbered number visits)
