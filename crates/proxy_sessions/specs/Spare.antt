-- A core whose memory the next session gets.
use Rattle.std.specs.Prelude.{Option, Some, None, ⊤}
use Rattle.px_peer.specs.declared.Peer.{Peer}
use Rattle.http_rules.specs.declared.config.Config.{Config}
use Rattle.session_core.specs.History.{Past}
use Rattle.session_core.specs.Place.{IsPlaced}
use Rattle.session_core.specs.declared.machine.Core.{Core}
use Rattle.forward_core.specs.Joined.Joined.{Placed, answer_of}
use Rattle.forward_core.specs.declared.joined.directions.Directions.{Directions}
use Rattle.proxy_sessions.specs.Driven.{stands_for}

-- it stands for what happened to it under this configuration, whosever connection it was, and its output windows have as many bytes as a buffer
pub record IsUsed (cfg : Config) (core : Core Directions) : Type 0 where
  pub peer : Option Peer
  pub past : Past
  pub stands : stands_for (record cfg { peer = peer }) core past
  pub placed : IsPlaced (Placed core.sides) (answer_of core.sides) core.at.phase core.at.cut

-- none, or such a one
abbrev pub IsSpare : Config → Option (Core Directions) → Type 0
IsSpare cfg None = ⊤
IsSpare cfg (Some core) = IsUsed cfg core
