-- Where the two directions stand in the exchange in hand.
use Rattle.std.specs.Prelude.{◌≡◌, ◌⊎◌, Bool, true, false, if◌then◌else◌, Option, None}
use Rattle.session_core.specs.Sided.{AnswerSeen}
use Rattle.session_core.specs.Waits.{is_turned}
use Rattle.session_core.specs.declared.Phase.{Phase}
use Rattle.session_core.specs.declared.Phase.TheVariants as phase
use Rattle.session_core.specs.declared.sides.Asked.{Asked}
use Rattle.session_core.specs.declared.sides.Asked.TheVariants as asked

pub data Place : Type 0 where
  -- the head of the client's next request is to be read
  Reads : Place
  -- a request goes to a server, which is to be opened
  Opens : Place
  -- its server is open, and its answer goes out
  Serves : Place
  -- a refusal goes out: of a request before its server is open, or in place of a server's answer that hasn't begun
  Says : Place
  -- a reply of the rules goes out
  Replies : Place
  -- the client asks for nothing more
  Ends : Place

-- a text goes out that was made here as a whole
abbrev pub is_saying : Place → Bool
is_saying Reads = false
is_saying Opens = false
is_saying Serves = false
is_saying Says = true
is_saying Replies = true
is_saying Ends = false

-- where the directions stand once they were asked for the client's next request
abbrev pub place_behind : Asked → Place
place_behind asked.More = Reads
place_behind asked.Nothing = Ends
place_behind asked.Refuse = Says
place_behind (asked.Reply kept) = Replies
place_behind asked.Send = Opens

-- while a server is open: by whether a refusal took the place of its answer
abbrev pub place_serving : (cut : Option Bool) → Place
place_serving cut = if is_turned cut then Says else Serves

-- the directions stand somewhere
abbrev pub IsSomewhere : (Place → Type 0) → Type 0
IsSomewhere placed = (at : Place) × placed at

-- the head of the client's next request is to be read
abbrev pub is_reading : Place → Bool
is_reading Reads = true
is_reading Opens = false
is_reading Serves = false
is_reading Says = false
is_reading Replies = false
is_reading Ends = false

-- the directions stand behind what the client asked for
abbrev pub IsBehindAsking : (Place → Type 0) → Type 0
IsBehindAsking placed = (at : Place) × (is_reading at ≡ false) × placed at

-- a server is open for the request in hand
abbrev pub IsAtServer : (Place → Type 0) → Type 0
IsAtServer placed = placed Serves ⊎ placed Says

-- from wherever they stood to the same place
abbrev pub Stay : (old new : Place → Type 0) → Type 0
Stay old new = (at : Place) → old at → new at

-- The directions of a core in this phase stand where it has them. No request was met as cut where another may follow.
abbrev pub IsPlaced : (placed : Place → Type 0) → AnswerSeen → Phase → (cut : Option Bool) → Type 0
IsPlaced placed a phase.Reading cut = placed Reads × (cut ≡ None)
IsPlaced placed a phase.Opening cut = placed Opens × (cut ≡ None)
IsPlaced placed a phase.Unserved cut = placed Opens
IsPlaced placed a phase.Serving cut = placed (place_serving cut)
IsPlaced placed a phase.Served cut = placed (place_serving cut) × (a.answered ≡ true)
IsPlaced placed a phase.Refusing cut = placed Says
IsPlaced placed a (phase.Replying kept) cut = placed Replies × (cut ≡ None)
IsPlaced placed a (phase.Over how) cut = IsBehindAsking placed
