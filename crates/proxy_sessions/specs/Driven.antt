-- The core of a configuration's sessions, as its driver sees it.
use Rattle.std.specs.Prelude.{ℕ}
use Rattle.session_core.specs.History.{Past}
use Rattle.session_core.specs.Leads.{Stands}
use Rattle.session_core.specs.declared.machine.Core.{Core}
use Rattle.http_rules.specs.declared.config.Config.{Config}
use Rattle.forward_core.specs.Meaning.Product.{meaning_of}
use Rattle.forward_core.specs.Joined.Joined.{SessionStands, request_of, answer_of}
use Rattle.forward_core.specs.declared.joined.directions.Directions.{Directions}
use Rattle.htx_drive.specs.Cores.{core_seen}
use Rattle.htx_drive.specs.Machine.{CoreSeen}

-- the core stands for this past, under this configuration, with output windows of this size
abbrev pub stands_at : Config → (window : ℕ) → Core Directions → Past → Type 0
stands_at cfg window core past = Stands (meaning_of cfg) request_of answer_of (SessionStands (cfg, window)) core.sides core.at past

-- with those that the commands give a session: an output window has as many bytes as a buffer
abbrev pub stands_for : Config → Core Directions → Past → Type 0
stands_for cfg core past = stands_at cfg cfg.limits.bufsize core past

-- what is seen of it
abbrev pub seen_of : Core Directions → CoreSeen
seen_of core = core_seen (request_of core.sides) (answer_of core.sides) core.at core.lost
