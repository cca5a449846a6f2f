-- The log of exchanges: what its lines say, and what makes them so.
use Rattle.std.specs.Prelude.{◌≡◌, ℕ, ◌⊎◌, List, [], ◌∷◌, ◌++◌, Bool, true, Option, Some, None, codes, decimal}
use Rattle.std.specs.List.{AllByRecursion, flat_map}
use Rattle.session_model.specs.Meaning.{Meaning}
use Rattle.session_core.specs.History.{Past}
use Rattle.px_link.specs.Link.{Seen}
use Rattle.px_link.specs.Net.{Place, NetSeen}
use Rattle.px_peer.specs.declared.Pair.{Pair}
use Rattle.px_proxyproto.specs.Nets.{heading_for, introduced}
use Rattle.px_proxyproto.specs.declared.meeting.Met.TheVariants as met
use Rattle.htx_drive.specs.Machine.{CoreSeen, TellsSo}
use Rattle.htx_drive.specs.Underway.{Runs, Stopped}
use Rattle.serve_run.specs.Met.{MetSo}
use Rattle.px_run.specs.declared.log.Log.{Log}
use Rattle.px_run.specs.declared.entry.Told.{Told}
use Rattle.px_run.specs.declared.plan.Opening.{Opening}

-- What a line tells: of which connection and of which of its exchanges, who asks, the words of its request line as they were received, the status that its client was sent, how many
-- bytes that was, and how many milliseconds it took.
pub record Entry : Type 0 where
  pub connection : ℕ
  pub exchange : ℕ
  pub peer : List ℕ
  pub words : List ℕ
  pub status : Option ℕ
  pub bytes : ℕ
  pub milliseconds : ℕ

-- a text, and `-` in place of none
abbrev pub or_dash : List ℕ → List ℕ
or_dash [] = codes "-"
or_dash (byte ∷ text) = byte ∷ text

abbrev pub status_text : Option ℕ → List ℕ
status_text None = codes "-"
status_text (Some code) = decimal code

-- what stands in front of who asks
unfoldable pub entry_head : (connection exchange : ℕ) → List ℕ
entry_head connection exchange = codes "connection " ++ decimal connection ++ codes " exchange " ++ decimal exchange ++ codes ": "

-- what stands behind the words of the request line
unfoldable pub entry_end : (status : Option ℕ) → (bytes milliseconds : ℕ) → List ℕ
entry_end status bytes milliseconds = codes " status " ++ status_text status ++ codes " bytes " ++ decimal bytes ++ codes " ms " ++ decimal milliseconds ++ codes "\n"

unfoldable pub entry_line : Entry → List ℕ
entry_line entry = entry_head entry.connection entry.exchange ++ or_dash entry.peer ++ codes " " ++ or_dash entry.words ++ entry_end entry.status entry.bytes entry.milliseconds

abbrev pub entry_lines : List Entry → List ℕ
entry_lines entries = flat_map entry_line entries

-- of who asks, and of these words
abbrev pub entry_of : Told → (peer words : List ℕ) → Entry
entry_of told peer words = record { connection = told.connection; exchange = told.exchange; peer = peer; words = words; status = told.status; bytes = told.bytes; milliseconds = told.milliseconds }

-- ---- what makes it so

-- S holds of what happened over its links from the first of them to a moment: its session was under way then, or a write to its client had failed
abbrev pub IsMoment : {L : Type 0} → (S : Past → Type 0) → (seen : L → Seen) → (wrote : L → List ℕ → Type 0) → (first : L) → Place → (first_net : NetSeen) → Type 0
IsMoment {L} S seen wrote first to first_net =
    ((client : L) × (server : Option L) × (net : NetSeen) × (count : ℕ) × Runs S seen wrote first client server to first_net net count)
    ⊎ ((client : L) × (net : NetSeen) × (count : ℕ) × Stopped S seen wrote first client true to first_net net count)

-- it tells this of the exchange that a core has in hand
pub record TellsOf (core : CoreSeen) (entry : Entry) : Type 0 where
  pub exchange : entry.exchange ≡ core.exchanges
  pub words : entry.words ≡ core.line
  pub status : entry.status ≡ core.status

-- At a moment of this session its core told this of the exchange in hand, and what it told was so.
pub record IsTold {C L : Type 0} (M : Meaning) (stands : C → Past → Type 0) (sees : C → CoreSeen) (seen : L → Seen) (wrote : L → List ℕ → Type 0) (first : L) (to : Place) (first_net : NetSeen) (entry : Entry) : Type 0 where
  pub core : C
  pub moment : IsMoment (stands core) seen wrote first to first_net
  pub tells : TellsOf (sees core) entry
  pub so : (past : Past) → stands core past → TellsSo M past (sees core)

-- the same of a connection that was accepted with this link and this net: of the session of its caller, as it was met
pub record IsToldOf {C L N : Type 0} (M : Option Pair → Meaning) (stands : Option Pair → C → Past → Type 0) (sees : C → CoreSeen) (seen : L → Seen) (wrote : L → List ℕ → Type 0) (tells : L → Option Pair → Type 0) (accepts_header : Bool) (opening : Opening) (sees_net : N → NetSeen) (to : Place) (accepted : L) (made : N) (entry : Entry) : Type 0 where
  pub pair : Option Pair
  pub begins : L
  pub met : MetSo tells accepts_header seen wrote accepted begins (met.Caller pair)
  pub own : N
  pub introduces : sees_net own ≡ introduced (heading_for opening.sends_header pair) (sees_net made)
  pub told : IsTold (M pair) (stands pair) sees seen wrote begins to (sees_net own) entry

-- ---- a log

-- It is asked for, of the connection of this number, and so.
pub record IsLine (logs : Bool) (connection : ℕ) (so : Entry → Type 0) (entry : Entry) : Type 0 where
  pub asked : logs ≡ true
  pub number : entry.connection ≡ connection
  pub is : so entry

-- a text is more by the lines of exchanges, each of which is so
pub record MoreLines (so : Entry → Type 0) (old new : List ℕ) : Type 0 where
  pub entries : List Entry
  pub text : new ≡ old ++ entry_lines entries
  pub each : AllByRecursion so entries

-- its lines for one connection are more: each is asked for, of the connection at hand, and so
pub record LinesMore (so : Entry → Type 0) (logs logs_now : Bool) (connection connection_now : ℕ) (old new : List ℕ) : Type 0 where
  pub more : MoreLines (IsLine logs connection so) old new
  pub same_logs : logs_now ≡ logs
  pub same_connection : connection_now ≡ connection

abbrev pub LogsMore : (so : Entry → Type 0) → (old new : Log) → Type 0
LogsMore so old new = LinesMore so old.logs new.logs old.connection new.connection old.text.items new.text.items

-- the same of exchanges of this session
abbrev pub Logs : {C L N S : Type 0} → (meaning : S → Meaning) → (stands : S → C → Past → Type 0) → (cfg : S) → (sees : C → CoreSeen) → (seen : L → Seen) → (wrote : L → List ℕ → Type 0) → (sees_net : N → NetSeen) → (first : L) → Place → (first_net : N) → (old new : Log) → Type 0
Logs meaning stands cfg sees seen wrote sees_net first to first_net old new = LogsMore (IsTold (meaning cfg) (stands cfg) sees seen wrote first to (sees_net first_net)) old new
