-- A link that asks an application, or passes all on as it is, in words of the link below it.
use Rattle.std.specs.Prelude.{◌≡◌, ℕ, List, Option, Some, None, ⊤}
use Rattle.px_link.specs.Link.{Seen, Manner, AsItIs}
use Rattle.fcgi_link.specs.Asking.{seen_asking, WroteAsking}
use Rattle.fcgi_link.specs.declared.exchange.Exchange.{Exchange}
use Rattle.fcgi_link.specs.declared.note.Note.{Note}

abbrev pub seen_over : Option Exchange → (below : Seen) → Seen
seen_over None below = below
seen_over (Some one) below = seen_asking one.asks.translating.application one.answers one.asks.faults below

-- the link below passes on as it is what is written to it, where an application is asked over it
abbrev pub IsOver : Option Exchange → Manner → Type 0
IsOver None manner = ⊤
IsOver (Some one) manner = manner ≡ AsItIs

abbrev pub WroteOver : Option Exchange → (below : List ℕ → Type 0) → List ℕ → Type 0
WroteOver None below text = below text
WroteOver (Some one) below text = WroteAsking one.asks below text

-- ---- the link

-- the link below, and what is asked and answered over it, where it asks an application
pub record AppLinkSeen (L : Type 0) : Type 0 where
  pub inner : L
  pub exchange : Option Exchange

-- the link in words of the link below
abbrev pub link_over : {L : Type 0} → (seen : L → Seen) → AppLinkSeen L → Seen
link_over seen link = seen_over link.exchange (seen link.inner)

-- what counts as written to it
abbrev pub LinkWrote : {L : Type 0} → (wrote : L → List ℕ → Type 0) → AppLinkSeen L → List ℕ → Type 0
LinkWrote wrote link text = WroteOver link.exchange (wrote link.inner) text

-- what is noted of a link that was kept: nothing of one that asked no application
abbrev pub note_of : Option Exchange → Option Note
note_of None = None
note_of (Some one) = Some (record { given = one.answers.given; read_faults = one.answers.faults; write_faults = one.asks.faults })
