-- What a session comes to over links that pass on in their own manner what is written to them: as it is, behind a header, or as records.
use Rattle.std.specs.Prelude.{◌≡◌, ℕ, ◌-◌, Bool, false, List, [], ◌∷◌, length, Option, Some, None, option_map, ⊤}
use Rattle.session_model.specs.Meaning.{Meaning}
use Rattle.session_model.specs.Stream.{Server, NotThere, Open, Sent}
use Rattle.session_model.specs.Session.{Out}
use Rattle.session_core.specs.History.{Past}
use Rattle.px_link.specs.Link.{Manner, AsItIs, Behind, Asks, PassesOn}
use Rattle.px_link.specs.declared.turns.Turn.{Turn}
use Rattle.rec_format.specs.Entries.{ServerEntry}
use Rattle.rec_format.specs.Recorded.{Visit}
use Rattle.htx_drive.specs.Machine.{CoreSeen}
use Rattle.htx_drive.specs.Replay.Replayed.{Serving, ServesAs, ReplaysServing}

-- how many bytes of a text a server of a record takes: a header takes its length of the number; of an application it isn't told
abbrev pub takes_for : Manner → Option ℕ → Option ℕ
takes_for AsItIs takes = takes
takes_for (Behind header manner) takes = option_map (λ n. n - length header) (takes_for manner takes)
takes_for (Asks application) takes = None

-- it is told
abbrev pub TellsTakes : Manner → Type 0
TellsTakes AsItIs = ⊤
TellsTakes (Behind header manner) = TellsTakes manner
TellsTakes (Asks application) = ⊥

-- a server of a record, as a text finds it
abbrev pub entry_for : Manner → ServerEntry → ServerEntry
entry_for manner entry = record entry { takes = takes_for manner entry.takes }

-- it serves as its entry says, but for what takes of a text a header that goes first
abbrev pub ServesIn : Manner → Serving
ServesIn manner entry = ServesAs (entry_for manner entry)

-- whether what a connect found stopped
abbrev pub has_stopped : Server → Bool
has_stopped NotThere = false
has_stopped (Open stream stopped) = stopped

-- what a server was sent, and the bytes that were passed on of it by a link that stopped or not, with the same close; or neither, since it was refused
abbrev pub IsPassedOn : Manner → (stopped : Bool) → (text bytes : Option Sent) → Type 0
IsPassedOn manner stopped None None = ⊤
IsPassedOn manner stopped (Some text) (Some bytes) = PassesOn manner stopped bytes.bytes text.bytes × (bytes.close ≡ text.close)
IsPassedOn manner stopped None (Some bytes) = ⊥
IsPassedOn manner stopped (Some text) None = ⊥

-- of each server, in their order
abbrev pub ArePassedOn : Manner → List Server → (texts bytes : List (Option Sent)) → Type 0
ArePassedOn manner [] [] [] = ⊤
ArePassedOn manner (server ∷ servers) (text ∷ texts) (one ∷ bytes) = IsPassedOn manner (has_stopped server) text one × ArePassedOn manner servers texts bytes
ArePassedOn manner [] [] (one ∷ bytes) = ⊥
ArePassedOn manner [] (text ∷ texts) bytes = ⊥
ArePassedOn manner (server ∷ servers) [] bytes = ⊥
ArePassedOn manner (server ∷ servers) (text ∷ texts) [] = ⊥

-- The outcome is that of a session by these turns, whose servers serve so; but what it says of each server is what was passed on of the text that the
-- session sent.
pub record PassesBy {C : Type 0} (manner : Manner) (serves : Serving) (M : Meaning) (stands : C → Past → Type 0) (seen : C → CoreSeen) (turns : List Turn) (visit : Visit) (out : Out) : Type 0 where
  pub texts : Out
  pub replays : ReplaysServing serves M stands seen turns visit texts
  pub same : out ≡ record texts { servers = out.servers }
  pub passed : ArePassedOn manner replays.servers texts.servers out.servers

-- the same of servers that take less where a header goes first
abbrev pub ReplaysIn : {C : Type 0} → Manner → Meaning → (C → Past → Type 0) → (C → CoreSeen) → List Turn → Visit → Out → Type 0
ReplaysIn manner = PassesBy manner (ServesIn manner)
