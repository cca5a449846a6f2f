-- What contracts see of the net of a record.
use Rattle.std.specs.Prelude.{ℕ}
use Rattle.px_link.specs.Net.{NetSeen}
use Rattle.px_link.specs.MemNet.{MemNetSeen, net_of}

-- a net in memory, of which so many connects failed
abbrev pub seen_by : MemNetSeen → (refused : ℕ) → NetSeen
seen_by net refused = record (net_of net) { connect_faults = refused }
