-- What serving by a configuration does with its net and its output.
use Rattle.std.specs.Prelude.{◌≡◌, ℕ, ◌⊎◌, List, [], ◌∷◌, ◌++◌, Option, Some, Result, OnOk, OnErr, IsErrOf}
use Rattle.px_link.specs.Told.{Rose}
use Rattle.px_link.specs.Link.{Seen}
use Rattle.px_peer.specs.declared.Pair.{Pair}
use Rattle.px_link.specs.Net.{Coming, Kept, NetSeen, address_of}
use Rattle.http_rules.specs.declared.config.Config.{Config}
use Rattle.htx_drive.specs.Dialled.{Dialled}
use Rattle.serve_run.specs.Lines.{net_line}
use Rattle.serve_run.specs.Served.{Breaks, LostOne, NetFails, ServedAll, ServedOne}
use Rattle.serve_run.specs.Told.{Visited}
use Rattle.serve_run.specs.declared.outcome.Outcome.{Outcome}
use Rattle.serve_run.specs.declared.outcome.ServeFault.{ServeFault}
use Rattle.serve_run.specs.declared.outcome.ServeFault.TheVariants as faults
use Rattle.proxy_sessions.specs.Connections.{ServesFor}

-- a connection that was served by a configuration, with its outcome: its session is that of the configuration
abbrev pub ServedBy : {L N : Type 0} (seen : L → Seen) (wrote : L → List ℕ → Type 0) (tells : L → Option Pair → Type 0) (net_seen : N → NetSeen) → Config → N → N → Outcome → Type 0
ServedBy seen wrote tells net_seen cfg =
    ServedOne seen wrote net_seen (λ first client first_net net result. ServesFor tells cfg seen wrote (address_of cfg.server) first client (net_seen first_net) (net_seen net) result) (address_of cfg.server)

-- a connection whose session, that of the configuration, was given up for want of memory
abbrev pub LostBy : {L N : Type 0} (seen : L → Seen) (wrote : L → List ℕ → Type 0) (tells : L → Option Pair → Type 0) (net_seen : N → NetSeen) → Config → N → N → Type 0
LostBy seen wrote tells net_seen cfg =
    LostOne seen wrote net_seen (λ first client first_net net result. ServesFor tells cfg seen wrote (address_of cfg.server) first client (net_seen first_net) (net_seen net) result) (address_of cfg.server)

-- the net was bound once more, where the configuration says
abbrev pub GainsBind : NetSeen → NetSeen → Config → Type 0
GainsBind old new cfg = new.bound ≡ old.bound ++ address_of cfg.bind ∷ []

-- What serving so many connections by a configuration did, by its answer; the count of failed writes went from one number to the other.
pub record Serves {L N : Type 0} (seen : L → Seen) (wrote : L → List ℕ → Type 0) (tells : L → Option Pair → Type 0) (net_seen : N → NetSeen) (first now : N) (writes writes_now : ℕ) (old new : Option (List ℕ)) (cfg : Config) (count : ℕ) (answer : Result (Unit {0}) ServeFault) : Type 0 where
  pub good : OnOk answer (ServedAll net_seen (ServedBy seen wrote tells net_seen cfg) (address_of cfg.bind) count first now old new)
  pub told : (coming : List Coming) (answers : List (Option Coming)) (kept : List Kept)
      → (net_seen first).accepts ≡ Some coming → (net_seen first).answers ≡ Some answers → (net_seen first).kept ≡ Some kept → OnOk answer (Visited (net_seen now) coming kept count)
  pub net : IsErrOf answer faults.Net → NetFails net_seen (ServedBy seen wrote tells net_seen cfg) (address_of cfg.bind) count net_line first now old new
  pub output : IsErrOf answer faults.Output → Rose writes writes_now
  pub front : OnErr answer (Breaks net_seen (ServedBy seen wrote tells net_seen cfg) (LostBy seen wrote tells net_seen cfg) (address_of cfg.bind) count first now old new)
  pub binds : OnOk answer (GainsBind (net_seen first) (net_seen now) cfg)
  pub bound : ((net_seen now).bound ≡ (net_seen first).bound) ⊎ GainsBind (net_seen first) (net_seen now) cfg
  pub dialled : Dialled (net_seen first).dialled (net_seen now).dialled (address_of cfg.server)
  pub lent : (net_seen now).lent ≡ (net_seen first).lent
