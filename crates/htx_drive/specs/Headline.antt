-- What a session that ended is, in words of its links' own streams.
use Rattle.std.specs.Prelude.{◌≡◌, ℕ, List, ◌∷◌, ◌++◌, map, true, false, Option, Some, None}
use Rattle.std.specs.List.{AllByRecursion, AllZip}
use Rattle.http_model.specs.declared.Ending.{Ending}
use Rattle.http_model.specs.declared.Ending.TheVariants.{Closed, Broke}
use Rattle.session_model.specs.Stream.{Stream, Server, NotThere, Open}
use Rattle.session_model.specs.Meaning.{Meaning}
use Rattle.session_model.specs.Session.{Session, Out}
use Rattle.session_core.specs.History as history
use Rattle.session_core.specs.History.{sent_of}
use Rattle.px_link.specs.Link.{Seen, closed_by}
use Rattle.px_link.specs.Net.{Place, Coming, NetSeen, Kept}
use Rattle.htx_drive.specs.Came.{Came}
use Rattle.htx_drive.specs.Driven.{IsOver}
use Rattle.htx_drive.specs.Dialled.{CountsRefused, Dial, Told, Dialled}
use Rattle.htx_drive.specs.declared.Ran.{Ran}

-- the stream of a link: its own, or where a read failed what came before, which broke off
abbrev pub stream_by : Option Ending → (came own : List ℕ) → Ending → Stream
stream_by None came own ending = record { bytes = own; ending = ending }
stream_by (Some Closed) came own ending = record { bytes = own; ending = ending }
stream_by (Some Broke) came own ending = record { bytes = came; ending = Broke }

abbrev pub stream_of : history.Coming → List ℕ → Ending → Stream
stream_of came own ending = stream_by came.ending came.bytes own ending

-- the server that a connect found: refused, or the link's stream and whether a write to it failed
abbrev pub IsServerOf : Dial → Server → Type 0
IsServerOf d NotThere = d.connect.there ≡ false
IsServerOf d (Open stream stopped) =
    (d.connect.there ≡ true) × (stopped ≡ d.connect.stopped)
    × (coming : Coming) × (d.answers ≡ Some coming ∷ d.left) × (stream ≡ stream_of d.connect.stream coming.bytes coming.ending)

pub record IsSessionOf {L : Type 0} (M : Meaning) (seen : L → Seen) (wrote : L → List ℕ → Type 0) (first client : L) (to : Place) (first_net net : NetSeen) (ran : Ran) (own : List ℕ) (ending : Ending) (answers : List (Option Coming)) (ks : List Kept) : Type 0 where
  -- what was read of the client, and how it ended: broken off only by a read that failed. Its stream is the link's own, or where a read
  -- failed what came before; over a plain link it is the link's own
  pub came : history.Coming
  pub read_client : Came (seen first) (seen client) came
  pub plain : (seen first).plain ≡ true → stream_of came own ending ≡ record { bytes = own; ending = ending }
  -- the connects of the call, and the servers that they found
  pub connects : List history.Connect
  pub told : Told first_net net answers ks connects
  pub servers : List Server
  pub found : AllZip IsServerOf told.dials servers
  pub out : Out
  pub session : Session M (stream_of came own ending) servers out
  pub how : out.how ≡ ran.end
  pub count : out.exchanges ≡ ran.exchanges
  pub bit : out.cut ≡ ran.begun_cut
  -- what was written to the client, and its close
  pub wrote_client : (bs : List ℕ) → wrote first bs → wrote client (bs ++ out.client.bytes)
  pub closed_client : (seen client).closed ≡ closed_by (seen first).closed out.client.close
  -- what was sent to each server is what the kept links were written, with their closes: each link was closed
  pub sent : out.servers ≡ map sent_of connects
  pub over : AllByRecursion IsOver connects
  -- the count of connects that failed tells whether one was refused
  pub refused : CountsRefused connects first_net.connect_faults net.connect_faults
  pub lent : net.lent ≡ first_net.lent
  pub dialled : Dialled first_net.dialled net.dialled to
