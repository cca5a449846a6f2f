-- What `explain` tells of the first connection of a record. What `replay` makes of it is a session of it, so it tells the same status.
use Rattle.std.proofs.Common.{◌≡◌, ◌≢◌, ℕ, ◌<◌, List, [], ◌∷◌, ap, sym, false, length, drop, get_or, vec_len, arith}
use Rattle.std.specs.Prelude.{Option, Some, None}
use Rattle.session_model.specs.Stream.{Server, NotThere, Open, Sent}
use Rattle.session_model.specs.Session.{Out}
use Rattle.http_rules.specs.declared.config.Config.{Config}
use Rattle.forward_core.specs.Meaning.Product.{meaning_of as session_meaning}
use Rattle.px_link.specs.declared.turns.Turn.{Turn}
use Rattle.rec_format.specs.Entries.{ServerEntry}
use Rattle.rec_format.specs.Recorded.{Visit}
use Rattle.rec_format.specs.Read.{meaning_of, visit, visits}
use Rattle.rec_format.specs.declared.record.Connection.{Connection}
use Rattle.rec_format.specs.declared.record.Record.{Record}
use Rattle.px_explain.specs.Sessions.{AreEntries, IsEntry, IsSessionOf, TellsStatus}
use Rattle.px_explain.specs.Traced.{Traced, TraceOf}
use Rattle.htx_drive.specs.Replay.Replayed.{Finds, IsFound, Replays}
use Rattle.proxy_commands.specs.Explained.{IsToldOf}
use Rattle.proxy_sessions.specs.Driven.{stands_for, seen_of}

is_entry : (entry : Option ServerEntry) (server : Server) (sent : Option Sent) → IsFound entry server sent → IsEntry entry server
is_entry None NotThere sent found = tt
is_entry None (Open stream stopped) sent found = absurd found
is_entry (Some entry) NotThere sent found = absurd found
is_entry (Some entry) (Open stream stopped) (Some sent) found = found.own
is_entry (Some entry) (Open stream stopped) None found = absurd found

-- the servers that its connects found are those of the record
are_entries : (entries : List (Option ServerEntry)) (servers : List Server) (sent : List (Option Sent)) → Finds entries servers sent → AreEntries entries servers
are_entries entries [] sent found = tt
are_entries entries (server ∷ servers) [] found = absurd found
are_entries [] (server ∷ servers) (first ∷ sent) found = (is_entry None server first found.0, are_entries [] servers sent found.1)
are_entries (entry ∷ entries) (server ∷ servers) (first ∷ sent) found = (is_entry entry server first found.0, are_entries entries servers sent found.1)

told_by_replays : (cfg : Config) (visited : Visit) (answer : Option ℕ) → ((out : Out) → IsSessionOf cfg visited out → TellsStatus answer out.client.bytes)
    → cfg.peer ≡ None → (turns : List Turn) (out : Out) → Replays (session_meaning cfg) (stands_for cfg) seen_of turns visited out → out.cut ≢ Some false → TellsStatus answer out.client.bytes
told_by_replays cfg visited answer sessions nobody turns out replays uncut =
    sessions out (record { nobody = nobody; servers = replays.servers; found = are_entries visited.servers replays.servers out.servers replays.found; session = replays.session; uncut = uncut })

-- the first of a record's connections, in front of the others
first_visit : (conns : List Connection) (conn : Connection) → 0 < length conns → conn ≡ get_or conns 0 conn → visits conns ≡ visit conn ∷ visits (drop 1 conns)
first_visit [] conn some is = absurd (omega arith)
first_visit (x ∷ xs) conn some is = ap (λ (c : Connection). visit c ∷ visits xs) (sym is)

pub explained : (cfg : Config) (recorded : Record) (conn : Connection) (told : Traced) (IsWritten : Traced → Type 0) → 0 < vec_len recorded.conns → conn ≡ get_or recorded.conns.items 0 conn → TraceOf cfg (visit conn) told
    → ((cfg : Config) (visit : Visit) (traced : Traced) (out : Out) → TraceOf cfg visit traced → IsSessionOf cfg visit out → TellsStatus traced.answer out.client.bytes)
    → IsWritten told → IsToldOf cfg (meaning_of recorded) IsWritten
explained cfg recorded conn told IsWritten some is traced law is_written =
    let sessions : (out : Out) → IsSessionOf cfg (visit conn) out → TellsStatus told.answer out.client.bytes = λ out session. law cfg (visit conn) told out traced session in
    let count : length recorded.conns.items ≡ vec_len recorded.conns = sym recorded.conns.ok.0 in
    record {
      visit = visit conn;
      others = visits (drop 1 recorded.conns.items);
      is_first = first_visit recorded.conns.items conn (omega (arith, count)) is;
      traced = told;
      is_traced = traced;
      is_written = is_written;
      sessions = sessions;
      replays = told_by_replays cfg (visit conn) told.answer sessions;
    }
