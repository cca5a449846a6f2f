-- What running by a configuration does with what it is handed.
use Rattle.std.specs.Prelude.{◌≡◌, ℕ, ◌⊎◌, ◌*◌, List, Option, Some, None, Result, Err, OnOk}
use Rattle.px_link.specs.Link.{Seen}
use Rattle.px_peer.specs.declared.Pair.{Pair}
use Rattle.px_link.specs.Net.{Place, NetSeen, SameBeside, Bound, BindFailed, BindUnroomed, address_of}
use Rattle.px_link.specs.Told.{Gains, GainsFront, Rose}
use Rattle.forward_core.specs.Meaning.Product.{meaning_of}
use Rattle.http_rules.specs.declared.config.Config.{Config}
use Rattle.px_command.specs.declared.options.RunOptions.{RunOptions}
use Rattle.px_proxyproto.specs.Meeting.{source_in}
use Rattle.px_run.specs.Served.{ServedMany}
use Rattle.px_run.specs.declared.plan.Opening.{Opening}
use Rattle.px_run.specs.declared.plan.RunFault.{RunFault}
use Rattle.px_run.specs.declared.plan.RunFault.TheVariants as faults
use Rattle.proxy_sessions.specs.Connections.{responder_of}
use Rattle.proxy_sessions.specs.Driven.{stands_at, seen_of}
use Rattle.proxy_sessions.specs.Lines.{listening_line}
use Rattle.proxy_sessions.specs.Serving.{GainsBind}

-- The line that says where it listens was written, and no write failed; or a write failed, and a front of it was written.
abbrev pub WroteListening : Place → (writes writes_now : ℕ) → (old new : Option (List ℕ)) → Type 0
WroteListening at writes writes_now old new = ((writes_now ≡ writes) × Gains old new (listening_line at)) ⊎ (Rose writes writes_now × GainsFront old new (listening_line at))

-- how many bytes an output window has where many are served at once: four buffers, so that what was read of a server by several reads is written to the client by one call
abbrev pub wide_window : Config → ℕ
wide_window cfg = 4 * cfg.limits.bufsize

-- what each link to a server is told first: how the application is asked, where the configuration says one, and the header that it begins with
abbrev pub opening_of : Config → Opening
opening_of cfg = record { sends_header = cfg.send_proxy; responder = responder_of cfg }

-- The net was bound where the configuration says, the line that says so was written, and then each link that was accepted was served by sessions of the configuration,
-- which begin with what the link tells of its two ends, or behind the header in front of its stream and with what that names, where the configuration accepts
-- one. Where it sends headers each link to a server passes on one of these ends first; where it asks an application each link to it passes on the records that ask its text.
pub record RanLoop {L N : Type 0} (seen : L → Seen) (wrote : L → List ℕ → Type 0) (tells : L → Option Pair → Type 0) (net_seen : N → NetSeen) (accepts_none : Type 0) (first now : N) (writes writes_now : ℕ) (old new : Option (List ℕ)) (cfg : Config) (options : RunOptions) (answer : Result (Unit {0}) RunFault) : Type 0 where
  pub bound : N
  pub listens : Bound (net_seen first) (net_seen bound) (address_of cfg.bind)
  pub writes_then : ℕ
  pub between : Option (List ℕ)
  pub line : WroteListening (address_of cfg.bind) writes writes_then old between
  pub served : ServedMany (λ pair. meaning_of (record cfg { peer = source_in pair })) (λ pair. stands_at (record cfg { peer = source_in pair }) (wide_window cfg)) seen_of seen wrote tells cfg.accept_proxy options.logs (opening_of cfg) net_seen (address_of cfg.server) options.connections accepts_none (net_seen bound) (net_seen now) writes_then writes_now between new answer

-- The bind failed, and nothing was written; or memory ran out at the bind or behind it, and a front of the line was written. No link was accepted.
abbrev pub NotBegun : (first now : NetSeen) → (old new : Option (List ℕ)) → Place → Result (Unit {0}) RunFault → Type 0
NotBegun first now old new at answer =
    (BindFailed first now at × (new ≡ old) × (answer ≡ Err faults.Net))
    ⊎ ((Bound first now at ⊎ BindUnroomed first now at) × GainsFront old new (listening_line at) × (answer ≡ Err faults.OutOfMemory))

-- What running by a configuration did with the net that listens, its connections and its output, by its answer.
pub record Runs {L N : Type 0} (seen : L → Seen) (wrote : L → List ℕ → Type 0) (tells : L → Option Pair → Type 0) (net_seen : N → NetSeen) (accepts_none : Type 0) (first now : N) (writes writes_now : ℕ) (old new : Option (List ℕ)) (cfg : Config) (options : RunOptions) (answer : Result (Unit {0}) RunFault) : Type 0 where
  -- where no other process serves: each link that was accepted was served here, and the lines were written
  pub did : options.workers ≡ None → RanLoop seen wrote tells net_seen accepts_none first now writes writes_now old new cfg options answer ⊎ NotBegun (net_seen first) (net_seen now) old new (address_of cfg.bind) answer
  -- the net was bound where the configuration says, and once at most
  pub binds : OnOk answer (GainsBind (net_seen first) (net_seen now) cfg)
  pub bound : ((net_seen now).bound ≡ (net_seen first).bound) ⊎ GainsBind (net_seen first) (net_seen now) cfg
  -- each link that was accepted was given back
  pub lent : (net_seen now).lent ≡ (net_seen first).lent
  -- where others serve nothing else was done with it: no link was accepted here, and none was asked for
  pub workers : (count : ℕ) → options.workers ≡ Some count → SameBeside (net_seen first) (net_seen now)
