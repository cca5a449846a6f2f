-- The connections of a record over links and nets in memory.
use Rattle.std.specs.Prelude.{◌≡◌, ℕ, ◌+◌, List, Some, None, Ok, sum_by}
use Rattle.std.specs.List.{AllZip}
use Rattle.px_link.specs.Net.{NetSeen}
use Rattle.px_link.specs.MemLink.{MemLinkSeen}
use Rattle.session_model.specs.Session.{Out}
use Rattle.rec_format.specs.Recorded.{Visit}
use Rattle.htx_drive.specs.declared.Ran.{Ran}
use Rattle.htx_drive.specs.declared.replay.record_net.RecordNet.{RecordNet}
use Rattle.htx_drive.specs.declared.weave.conn.Conn.{Conn}
use Rattle.htx_drive.specs.Replay.Memory.{needed_by}
use Rattle.htx_drive.specs.Replay.Nets.{seen_by}
use Rattle.htx_drive.specs.Replay.Outcome.{outcome}
use Rattle.htx_drive.specs.Replay.Seen.{IsFresh, IsFreshNet}

-- a connection over a link and a net in memory
abbrev pub MemConn : Type 0
MemConn = Conn MemLinkSeen RecordNet

-- what is seen of its net
abbrev pub sees_net : RecordNet → NetSeen
sees_net net = seen_by net.net net.refused

-- nothing was done yet over its client's link and on its net, whose connects are to find the record's entries
pub record IsFreshConn (visit : Visit) (conn : MemConn) : Type 0 where
  pub client : IsFresh visit.client None conn.client
  pub net : IsFreshNet visit.servers conn.net.net conn.net.refused
  pub no_server : conn.server ≡ None
  pub not_ended : conn.ran ≡ None

-- so it is of each connection, in their order
abbrev pub AreFreshConns : List Visit → List MemConn → Type 0
AreFreshConns visits conns = AllZip IsFreshConn visits conns

-- its session was run to its end
abbrev pub HasRun : MemConn → Type 0
HasRun conn = (ran : Ran) × (conn.ran ≡ Some (Ok ran))

-- and this is what it came to
abbrev pub ComesTo : MemConn → Out → Type 0
ComesTo conn out = (ran : Ran) × (conn.ran ≡ Some (Ok ran)) × (out ≡ outcome ran conn.client conn.net.net conn.net.refused)

-- one more than what all connections need of a budget that they share, with buffers of this size
abbrev pub needed_by_all : List Visit → (bufsize : ℕ) → ℕ
needed_by_all visits bufsize = 1 + sum_by (λ (visit : Visit). needed_by visit bufsize) visits
