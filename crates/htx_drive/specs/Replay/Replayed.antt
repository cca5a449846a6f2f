-- What the sessions of a record come to.
use Rattle.std.specs.Prelude.{◌≡◌, ◌↔◌, ℕ, ◌+◌, ◌<◌, ◌≤◌, List, [], ◌∷◌, length, take, Bool, true, false, Option, Some, None, ⊤}
use Rattle.std.specs.List.{AllZip}
use Rattle.session_model.specs.Meaning.{Meaning}
use Rattle.session_model.specs.Stream.{Stream, Server, NotThere, Open, Sent, Takes}
use Rattle.session_model.specs.Session.{Out, Session}
use Rattle.session_core.specs.History.{Past, Continues, ContinuesServer}
use Rattle.session_core.specs.Consequences.{out_of_past}
use Rattle.px_link.specs.declared.turns.Turn.{Turn}
use Rattle.rec_format.specs.Entries.{ServerEntry}
use Rattle.rec_format.specs.Recorded.{Visit}
use Rattle.htx_drive.specs.Machine.{CoreSeen}
use Rattle.htx_drive.specs.Turned.{InTurns}
use Rattle.htx_drive.specs.Replay.Memory.{turns_of}

-- How a server of a record takes what it is sent. Without a number it never stops; with one it stopped only behind so many bytes,
-- and took no more.
abbrev pub TakesSo : Option ℕ → (stopped : Bool) → (taken : List ℕ) → Type 0
TakesSo None stopped taken = stopped ≡ false
TakesSo (Some n) true taken = length taken ≡ n
TakesSo (Some n) false taken = length taken ≤ n

-- Of any text of which a server took so much: where a server has a number, it got just the first so many bytes, and it stopped
-- exactly where the text is longer.
abbrev pub StopsSo : Option ℕ → (stopped : Bool) → (taken : List ℕ) → Type 0
StopsSo None stopped taken = ⊤
StopsSo (Some n) stopped taken =
    (text : List ℕ) → Takes stopped text taken → (taken ≡ take n text) × (stopped ≡ true ↔ n < length text)

-- a server of a record: it gave its own stream, and took and stopped as the record says
pub record ServesAs (entry : ServerEntry) (stream : Stream) (stopped : Bool) (taken : List ℕ) : Type 0 where
  pub own : stream ≡ entry.stream
  pub takes : TakesSo entry.takes stopped taken
  pub stops : StopsSo entry.takes stopped taken

-- how a server of a record serves: its entry, its stream, whether it stopped, and what it took
abbrev pub Serving : Type 1
Serving = ServerEntry → Stream → (stopped : Bool) → (taken : List ℕ) → Type 0

-- it gave its own stream: how many bytes it takes says nothing of a text
abbrev pub GivesOwn : Serving
GivesOwn entry stream stopped taken = stream ≡ entry.stream

-- What a connect found, and what it was sent, is this entry of a record: a refused one, or a server that serves so.
abbrev pub IsFoundBy : Serving → Option ServerEntry → Server → Option Sent → Type 0
IsFoundBy serves None NotThere None = ⊤
IsFoundBy serves (Some entry) (Open stream stopped) (Some sent) = serves entry stream stopped sent.bytes
IsFoundBy serves None NotThere (Some sent) = ⊥
IsFoundBy serves None (Open stream stopped) sent = ⊥
IsFoundBy serves (Some entry) NotThere sent = ⊥
IsFoundBy serves (Some entry) (Open stream stopped) None = ⊥

-- The connects found the entries of a record in their order, as far as there were connects; one past the last entry was refused.
abbrev pub FindsBy : Serving → List (Option ServerEntry) → List Server → List (Option Sent) → Type 0
FindsBy serves entries [] [] = ⊤
FindsBy serves [] (server ∷ servers) (sent ∷ others) = IsFoundBy serves None server sent × FindsBy serves [] servers others
FindsBy serves (entry ∷ entries) (server ∷ servers) (sent ∷ others) = IsFoundBy serves entry server sent × FindsBy serves entries servers others
FindsBy serves entries [] (sent ∷ others) = ⊥
FindsBy serves entries (server ∷ servers) [] = ⊥

-- the same of servers with their own streams, which take what the record says
abbrev pub IsFound : Option ServerEntry → Server → Option Sent → Type 0
IsFound = IsFoundBy ServesAs

abbrev pub Finds : List (Option ServerEntry) → List Server → List (Option Sent) → Type 0
Finds = FindsBy ServesAs

-- These turns led to the outcome: to a history of this client's stream and of these servers, in which was sent just what the outcome says. They were
-- taken as `InTurns` says, by the wants of cores that stand for the history so far; `left` is what is left of them.
pub record LedTo {C : Type 0} (stands : C → Past → Type 0) (seen : C → CoreSeen) (turns : List Turn) (client : Stream) (servers : List Server) (out : Out) : Type 0 where
  pub past : Past
  pub left : List Turn
  pub turned : InTurns stands seen turns true left past
  pub client_stream : Continues past.client client
  pub server_streams : AllZip ContinuesServer past.connects servers
  pub came_to : out ≡ out_of_past past past.taken out.exchanges out.how

-- The outcome is that of a session of the connection's client with the servers that its connects found, and these turns led to it.
pub record ReplaysServing {C : Type 0} (serves : Serving) (M : Meaning) (stands : C → Past → Type 0) (seen : C → CoreSeen) (turns : List Turn) (visit : Visit) (out : Out) : Type 0 where
  pub servers : List Server
  pub found : FindsBy serves visit.servers servers out.servers
  pub session : Session M visit.client servers out
  pub led : LedTo stands seen turns visit.client servers out

-- the same, where the servers have their own streams and take what the record says
abbrev pub Replays : {C : Type 0} → Meaning → (C → Past → Type 0) → (C → CoreSeen) → List Turn → Visit → Out → Type 0
Replays M = ReplaysServing ServesAs M

-- each connection from the one of this number on comes to such an outcome, in their order, by just the turns of its own number
abbrev pub EachFrom : (one : List Turn → Visit → Out → Type 0) → List (ℕ × Turn) → (owner : ℕ) → List Visit → List Out → Type 0
EachFrom one turns owner [] [] = ⊤
EachFrom one turns owner (visit ∷ visits) (out ∷ outs) = one (turns_of owner turns) visit out × EachFrom one turns (owner + 1) visits outs
EachFrom one turns owner [] (out ∷ outs) = ⊥
EachFrom one turns owner (visit ∷ visits) [] = ⊥

-- each from the one of this number on has the outcome of a session
abbrev pub ReplaysFrom : {C : Type 0} → Meaning → (C → Past → Type 0) → (C → CoreSeen) → List (ℕ × Turn) → (owner : ℕ) → List Visit → List Out → Type 0
ReplaysFrom M stands seen = EachFrom (Replays M stands seen)

-- each connection has, the first of which is number 1
abbrev pub ReplaysAll : {C : Type 0} → Meaning → (C → Past → Type 0) → (C → CoreSeen) → List (ℕ × Turn) → List Visit → List Out → Type 0
ReplaysAll M stands seen turns visits outs = ReplaysFrom M stands seen turns 1 visits outs
