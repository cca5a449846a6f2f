-- A link that writes a header before the first piece, in words of the link below it.
use Rattle.std.specs.Prelude.{◌≡◌, ℕ, ◌<◌, List, [], ◌∷◌, ◌++◌, length, take, Option, Some, None, Result, Ok, Err}
use Rattle.px_link.specs.declared.fault.Fault.{Fault}
use Rattle.px_link.specs.declared.fault.Fault.TheVariants as faults
use Rattle.px_link.specs.Link.{Seen, Manner, Behind, takes_behind, NoRoom, WriteFailed}
use Rattle.px_proxyproto.specs.declared.heading.Heading.{Heading}
use Rattle.px_proxyproto.specs.Texts.{header_of}

-- the link below, the header, which is empty where it passes all on as it is, and how much of it is out
pub record SendLinkSeen (L : Type 0) : Type 0 where
  pub inner : L
  pub header : List ℕ
  pub sent : ℕ

-- how bytes are passed on that go to a link of this manner behind a header
abbrev pub manner_behind : (header : List ℕ) → Manner → Manner
manner_behind [] manner = manner
manner_behind (byte ∷ header) manner = Behind (byte ∷ header) manner

-- the link below, with less to take and a header in front: nothing else is changed
abbrev pub seen_behind : (header : List ℕ) → Seen → Seen
seen_behind header seen = record seen { takes = takes_behind (length header) seen.takes; manner = manner_behind header seen.manner }

-- These bytes were written behind a header of which so much is out: the link below was written that much, and then these. While the header isn't
-- out they are none.
pub record WroteBehind (header : List ℕ) (sent : ℕ) (wrote : List ℕ → Type 0) (bytes : List ℕ) : Type 0 where
  pub first : sent < length header → bytes ≡ []
  pub below : wrote (take sent header ++ bytes)

-- What is written of a header, by the answer: no count of faults rose, or the write failed below, or wanted memory. What counted as written still does.
abbrev pub Sends : (wrote_old wrote_new : List ℕ → Type 0) → Seen → Seen → Result (Unit {0}) Fault → Type 0
Sends wrote_old wrote_new old new (Ok done) = NoRoom wrote_old wrote_new old new
Sends wrote_old wrote_new old new (Err faults.Failed) = WriteFailed wrote_old wrote_new old new
Sends wrote_old wrote_new old new (Err faults.OutOfMemory) = NoRoom wrote_old wrote_new old new

-- the link in words of the link below
abbrev pub link_behind : {L : Type 0} → (seen : L → Seen) → SendLinkSeen L → Seen
link_behind seen link = seen_behind link.header (seen link.inner)

-- a link to which nothing was written yet, with this header in front or with none
abbrev pub begun : {L : Type 0} → L → Option Heading → SendLinkSeen L
begun inner None = record { inner = inner; header = []; sent = 0 }
begun inner (Some heading) = record { inner = inner; header = header_of heading.version heading.pair; sent = 0 }

-- what counts as written to it
abbrev pub LinkWrote : {L : Type 0} → (wrote : L → List ℕ → Type 0) → SendLinkSeen L → List ℕ → Type 0
LinkWrote wrote link bytes = WroteBehind link.header link.sent (wrote link.inner) bytes
