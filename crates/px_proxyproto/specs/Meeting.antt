-- Who asks over a link that was accepted.
use Rattle.std.specs.Prelude.{◌≡◌, Bool, true, false, Option, option_map}
use Rattle.px_link.specs.Link.{Seen}
use Rattle.px_peer.specs.declared.Peer.{Peer}
use Rattle.px_peer.specs.declared.Pair.{Pair}
use Rattle.px_proxyproto.specs.declared.greeting.Greeting.TheVariants as greetings
use Rattle.px_proxyproto.specs.declared.meeting.Met.{Met}
use Rattle.px_proxyproto.specs.declared.meeting.Met.TheVariants as met
use Rattle.px_proxyproto.specs.Greeting.{Greets}

-- the end that asks
abbrev pub source : Pair → Peer
source pair = pair.src

-- the end that asks, where a pair is told
abbrev pub source_in : Option Pair → Option Peer
source_in pair = option_map source pair

-- Whom a link was met by, and what was read of it for that. Where its stream begins with a header, exactly a header with this pair was taken; or there
-- is none, for a reason. Else nothing was read, and the pair is one that the link may tell.
abbrev pub Meets : {L : Type 0} → (tells : L → Option Pair → Type 0) → (accepts_header : Bool) → (link : L) → (old new : Seen) → Met → Type 0
Meets tells true link old new (met.Caller pair) = Greets old new (greetings.Got pair)
Meets tells true link old new met.Refused = Greets old new greetings.Bad
Meets tells false link old new (met.Caller pair) = tells link pair × (new ≡ old)
Meets tells false link old new met.Refused = ⊥
