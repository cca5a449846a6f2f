-- What links and a net in memory tell of a session that was run over them.
use Rattle.std.specs.Prelude.{ℕ, zero, suc, List, [], ◌∷◌, ◌++◌, map, Option, Some, None, unwrap_or}
use Rattle.http_model.specs.declared.Close.TheVariants.{Failed}
use Rattle.px_link.specs.MemLink.{MemLinkSeen}
use Rattle.px_link.specs.MemNet.{MemNetSeen}
use Rattle.session_model.specs.Stream.{Sent}
use Rattle.session_model.specs.Session.{Out}
use Rattle.htx_drive.specs.declared.Ran.{Ran}

-- what was sent over a link
abbrev pub sent_on : MemLinkSeen → Sent
sent_on link = record { bytes = link.written; close = unwrap_or link.closed Failed }

-- a refused server, where a connect was refused
abbrev pub refused_by : (refused : ℕ) → List (Option Sent)
refused_by zero = []
refused_by (suc more) = None ∷ []

-- What was sent to the servers of a net, in the order of the connects: only the last of them may have been refused, since a session
-- ends there.
abbrev pub servers_sent : MemNetSeen → (refused : ℕ) → List (Option Sent)
servers_sent net refused = map (λ (l : MemLinkSeen). Some (sent_on l)) net.kept ++ refused_by refused

-- what a session came to that was run over this link and this net
abbrev pub outcome : Ran → MemLinkSeen → MemNetSeen → (refused : ℕ) → Out
outcome ran client net refused = record {
  exchanges = ran.exchanges;
  how = ran.end;
  cut = ran.begun_cut;
  client = sent_on client;
  servers = servers_sent net refused;
}
