-- A net whose connected links ask an application, in words of the net below it.
use Rattle.std.specs.Prelude.{◌≡◌, ◌≤◌, ◌-◌, Bool, true, false, List, [], ◌∷◌, ◌++◌, length, take, drop, Option, Some, None, option_map, IfSome, ⊤}
use Rattle.px_link.specs.Link.{Manner, AsItIs, Behind, Asks}
use Rattle.px_link.specs.Net.{Kept, NetSeen}
use Rattle.fcgi_link.specs.Asked.{answers_through}
use Rattle.fcgi_link.specs.Asking.{no_request, no_answer}
use Rattle.fcgi_link.specs.declared.exchange.Exchange.{Exchange}
use Rattle.fcgi_link.specs.declared.responder.Responder.{Responder}
use Rattle.fcgi_link.specs.declared.note.Note.{Note}

-- ---- what comes

-- a net whose next connected links ask this application, where there is one: nothing else of it changes
abbrev pub asking_some : Option Responder → NetSeen → NetSeen
asking_some None seen = seen
asking_some (Some responder) seen = record seen { answers = answers_through responder.limit seen.answers; manner = Asks responder.application }

-- a request of this application and its answer, which have not begun
pub record IsFresh (responder : Responder) (one : Exchange) : Type 0 where
  pub asks : one.asks ≡ no_request responder.application
  pub answers : one.answers ≡ no_answer responder.limit

-- what is asked over a link that was connected, and has not begun
abbrev pub IsBegun : Option Responder → Option Exchange → Type 0
IsBegun None exchange = exchange ≡ None
IsBegun (Some responder) exchange = (one : Exchange) × (exchange ≡ Some one) × IsFresh responder one

-- bytes are passed on as they are, or behind a header: no application is asked
abbrev pub IsHeaded : Manner → Type 0
IsHeaded AsItIs = ⊤
IsHeaded (Behind header manner) = ⊤
IsHeaded (Asks application) = ⊥

-- links ask an application over ones that pass all on as it is; without one those below ask none either
abbrev pub IsOver : Option Responder → Manner → Type 0
IsOver None manner = IsHeaded manner
IsOver (Some responder) manner = manner ≡ AsItIs

-- ---- what was kept

-- a kept link as it was, or with the counts of a link that asked an application over it
abbrev pub noted : Option Note → Kept → Kept
noted None kept = kept
noted (Some note) kept = record kept { taken = Some note.given; read_faults = note.read_faults; write_faults = note.write_faults }

-- each with its note; without one as it is
abbrev pub each_noted : List Kept → (notes : List (Option Note)) → List Kept
each_noted [] notes = []
each_noted (one ∷ kept) [] = one ∷ kept
each_noted (one ∷ kept) (note ∷ notes) = noted note one ∷ each_noted kept notes

-- the last ones with their notes
abbrev pub kept_noted : (notes : List (Option Note)) → List Kept → List Kept
kept_noted notes kept = let before = length kept - length notes in take before kept ++ each_noted (drop before kept) notes

-- there is a kept link for each note
abbrev pub HaveNotes : (notes : List (Option Note)) → Option (List Kept) → Type 0
HaveNotes notes kept = IfSome kept (λ kept. length notes ≤ length kept)

-- the notes behind a further kept link: its own behind the others, where kept links are told
abbrev pub notes_with : (tells : Bool) → (notes : List (Option Note)) → (own : Option Note) → List (Option Note)
notes_with true notes own = notes ++ own ∷ []
notes_with false notes own = notes

-- ---- the net

-- the net below, the application that links ask which are connected next, where there is one, and the notes of links that were kept
pub record AppNetSeen (N : Type 0) : Type 0 where
  pub inner : N
  pub responder : Option Responder
  pub notes : List (Option Note)

-- a net with notes of its kept links
abbrev pub with_notes : (notes : List (Option Note)) → NetSeen → NetSeen
with_notes notes seen = record seen { kept = option_map (kept_noted notes) seen.kept }

-- the net in words of the net below
abbrev pub net_over : {N : Type 0} → (seen : N → NetSeen) → AppNetSeen N → NetSeen
net_over seen net = asking_some net.responder (with_notes net.notes (seen net.inner))
