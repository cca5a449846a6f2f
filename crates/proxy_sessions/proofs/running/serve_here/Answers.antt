use Rattle.std.proofs.Common.{◌≡◌, List, [], ◌∷◌, inl, subst, ℕ, Bool, Option, Some, None}
use Rattle.std.specs.Prelude.{Result}
use Rattle.std.specs.List.{AllByRecursion}
use Rattle.px_link.specs.Link.{Seen}
use Rattle.px_link.specs.Net.{Place, NetSeen}
use Rattle.px_peer.specs.declared.Pair.{Pair}
use Rattle.px_peer.specs.declared.Peer.{Peer}
use Rattle.px_proxyproto.specs.Meeting.{source_in}
use Rattle.session_core.specs.History.{Past}
use Rattle.session_core.specs.Leads.{Stands}
use Rattle.session_core.specs.declared.machine.Core.{Core}
use Rattle.http_rules.specs.declared.config.Config.{Config}
use Rattle.forward_core.specs.Meaning.Product.{meaning_of}
use Rattle.forward_core.specs.Joined.Joined.{SessionStands, request_of, answer_of}
use Rattle.forward_core.specs.declared.joined.directions.Directions.{Directions}
use Rattle.session_model.specs.Meaning.{Meaning}
use Rattle.htx_drive.specs.Machine.{CoreSeen}
use Rattle.htx_drive.specs.Weave.State.{IsFresh}
use Rattle.px_run.specs.Connection.{IsFreshFor}
use Rattle.px_run.specs.Served.{ServedMany}
use Rattle.px_run.specs.declared.plan.Opening.{Opening}
use Rattle.px_run.specs.declared.plan.RunFault.{RunFault}
use Rattle.proxy_sessions.specs.Running.{opening_of, wide_window}
use Rattle.proxy_sessions.proofs.running.serve_here.Goals as goal

all_as : {A : Type 0} (P Q : A → Type 0) → ((x : A) → P x → Q x) → (xs : List A) → AllByRecursion P xs → AllByRecursion Q xs
all_as P Q follows [] h = tt
all_as P Q follows (x ∷ xs) h = (follows x h.0, all_as P Q follows xs h.1)

-- a core that is fresh for a peer is so for two ends of which this one asks
fresh_for : {C : Type 0} (stands : Option Peer → C → Past → Type 0) (peer : Option Peer) (core : C) → IsFresh (stands peer) core → IsFreshFor (λ pair. stands (source_in pair)) core
fresh_for stands None core h = (None, h)
fresh_for stands (Some peer) core h = (Some (record { src = peer; dst = peer }), h)

-- cores of this configuration stand so, each for its peer
abbrev stands_under : Config → (window : ℕ) → Option Peer → Core Directions → Past → Type 0
stands_under cfg window peer core past =
    Stands (meaning_of (record cfg { peer = peer })) request_of answer_of (SessionStands (record cfg { peer = peer }, window)) core.sides core.at past

-- fresh ones are so for each link, with windows of the size that was told
all_fresh : (cfg : Config) (window size : ℕ) (cores : List (Core Directions)) → window ≡ size → AllByRecursion (IsFresh (stands_under cfg window cfg.peer)) cores
    → AllByRecursion (IsFreshFor (λ pair. stands_under cfg size (source_in pair))) cores
all_fresh cfg window size cores is fresh =
    subst (λ (w : ℕ). AllByRecursion (IsFreshFor (λ pair. stands_under cfg w (source_in pair))) cores) is (all_as _ _ (λ core h. fresh_for (stands_under cfg window) cfg.peer core h) cores fresh)

-- what was served by what each link was told is so by what that equals
opened : {C L N : Type 0} {M : Option Pair → Meaning} {stands : Option Pair → C → Past → Type 0} {sees : C → CoreSeen} {seen : L → Seen} {wrote : L → List ℕ → Type 0} {tells : L → Option Pair → Type 0} {accepts_header logs : Bool} {sees_net : N → NetSeen} {to : Place} {most : Option ℕ} {accepts_none : Type 0} {begun now : NetSeen} {writes writes_now : ℕ} {old new : Option (List ℕ)} {answer : Result (Unit {0}) RunFault}
    (a b : Opening) → a ≡ b
    → ServedMany M stands sees seen wrote tells accepts_header logs a sees_net to most accepts_none begun now writes writes_now old new answer
    → ServedMany M stands sees seen wrote tells accepts_header logs b sees_net to most accepts_none begun now writes writes_now old new answer
opened {M} {stands} {sees} {seen} {wrote} {tells} {accepts_header} {logs} {sees_net} {to} {most} {accepts_none} {begun} {now} {writes} {writes_now} {old} {new} {answer} a b e h =
    subst (λ (o : Opening). ServedMany M stands sees seen wrote tells accepts_header logs o sees_net to most accepts_none begun now writes writes_now old new answer) e h

pub run-requires-clause-fresh : goal.run-requires-clause-fresh
run-requires-clause-fresh g c =
    let cfg = c.args.config.now in
    ((cfg, wide_window cfg), all_fresh cfg c.wide_window.result (wide_window cfg) _ c.wide_window.ensures.size c.in-Ok.ensures.fresh)

pub returns-clause-did : goal.returns-clause-did
returns-clause-did g c =
    let cfg = c.args.config.now in
    λ first h.
    inl (record {
      bound = c.args.many.now.net;
      listens = h;
      writes_then = g.K.Sink.faults c.write_listening.new.out;
      between = g.K.Sink.written c.write_listening.new.out;
      line = c.in-Ok-write_listening.ensures.wrote;
      served = opened c.opening_of.result (opening_of cfg) c.opening_of.ensures (c.run.ensures.served (cfg, wide_window cfg) (all_fresh cfg c.wide_window.result (wide_window cfg) _ c.wide_window.ensures.size c.in-Ok.ensures.fresh));
    })
