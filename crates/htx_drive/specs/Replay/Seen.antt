-- Links and nets as they are before a session is run over them, and what a session comes to that was run.
use Rattle.std.specs.Prelude.{◌≡◌, ℕ, List, [], Bool, true, map, Option, Some, option_map}
use Rattle.std.specs.List.{AllZip}
use Rattle.px_link.specs.declared.turns.Turn.{Turn}
use Rattle.px_link.specs.Link.{Seen, AsItIs, All}
use Rattle.px_link.specs.Net.{Place, NetSeen, new_link}
use Rattle.px_link.specs.MemLink.{MemLinkSeen, link_of, limit_of, is_unused}
use Rattle.px_link.specs.MemNet.{MemNetSeen, coming}
use Rattle.session_model.specs.Meaning.{Meaning}
use Rattle.session_model.specs.Stream.{Stream}
use Rattle.rec_format.specs.Entries.{ServerEntry}
use Rattle.rec_format.specs.Recorded.{Visit}
use Rattle.session_core.specs.History.{Past, Continues, ContinuesServer}
use Rattle.session_core.specs.Consequences.{out_of_past}
use Rattle.htx_drive.specs.Headline.{IsSessionOf, stream_of}
use Rattle.htx_drive.specs.Machine.{CoreSeen}
use Rattle.htx_drive.specs.Turned.{InTurns}
use Rattle.htx_drive.specs.declared.Ran.{Ran}
use Rattle.htx_drive.specs.Replay.Memory.{answer_of, IsEnough}

-- ---- before

-- nothing was done yet over a link in memory, which gives this stream and takes so much
pub record IsFresh (stream : Stream) (takes : Option ℕ) (link : MemLinkSeen) : Type 0 where
  pub seen : link_of link ≡ new_link AsItIs (record { bytes = stream.bytes; ending = stream.ending; plain = true; takes = limit_of takes })
  pub written : link.written ≡ []
  pub unused : is_unused link ≡ true

-- nothing was done yet with a net in memory, whose connects are to find these entries
pub record IsFreshNet (entries : List (Option ServerEntry)) (net : MemNetSeen) (refused : ℕ) : Type 0 where
  pub answers : map (option_map coming) net.servers ≡ map answer_of entries
  pub kept : net.kept ≡ []
  pub failing : net.failing ≡ []
  pub lent : net.lent ≡ 0
  pub none : refused ≡ 0

-- what was written over a link in memory
abbrev pub wrote_by : MemLinkSeen → List ℕ → Type 0
wrote_by link bytes = bytes ≡ link.written

-- The same of any client's link, as it is told: it gives this stream, takes all and passes it on as it is, and nothing was done yet over it.
pub record IsUntouched {L : Type 0} (seen : L → Seen) (wrote : L → List ℕ → Type 0) (stream : Stream) (link : L) : Type 0 where
  pub is : seen link ≡ new_link AsItIs (record { bytes = stream.bytes; ending = stream.ending; plain = true; takes = All })
  pub unwritten : wrote link []

-- The same of any net, as it is told: its connects are to find these entries, by links in whatever manner, and nothing was done yet with it.
pub record IsUntouchedNet (entries : List (Option ServerEntry)) (net : NetSeen) : Type 0 where
  pub answers : net.answers ≡ Some (map answer_of entries)
  pub kept : net.kept ≡ Some []
  pub plain : net.plain ≡ true
  pub lent : net.lent ≡ 0
  pub none : net.connect_faults ≡ 0

-- A budget is enough for a connection that gives its client's link and its net, with buffers of this size, and nothing was done yet with either.
pub record IsPaid {L : Type 0} (seen : L → Seen) (wrote : L → List ℕ → Type 0) (link : L) (net : NetSeen) (bufsize budget : ℕ) : Type 0 where
  pub visit : Visit
  pub client : IsUntouched seen wrote visit.client link
  pub servers : IsUntouchedNet visit.servers net
  pub enough : IsEnough visit bufsize budget

-- ---- behind

-- a session of the connection was run over its link and its net
abbrev pub RanOver : {L : Type 0} → (M : Meaning) → Visit → (seen : L → Seen) → (wrote : L → List ℕ → Type 0) → (first client : L) → (to : Place) → (first_net net : NetSeen) → Ran → Type 0
RanOver M visit seen wrote first client to first_net net ran =
    IsSessionOf M seen wrote first client to first_net net ran visit.client.bytes visit.client.ending (map answer_of visit.servers) []

-- a session of the connection was run over its link and its net, and these turns led to it, so that those are left
pub record RanByTurns {C L : Type 0} (M : Meaning) (stands : C → Past → Type 0) (sees : C → CoreSeen) (turns left : List Turn) (visit : Visit) (seen : L → Seen) (wrote : L → List ℕ → Type 0) (first client : L) (to : Place) (first_net net : NetSeen) (ran : Ran) : Type 0 where
  pub session : RanOver M visit seen wrote first client to first_net net ran
  pub past : Past
  pub turned : InTurns stands sees turns true left past
  pub client_stream : Continues past.client (stream_of session.came visit.client.bytes visit.client.ending)
  pub server_streams : AllZip ContinuesServer past.connects session.servers
  pub came_to : session.out ≡ out_of_past past past.taken ran.exchanges ran.end
