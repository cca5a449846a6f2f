use Rattle.std.proofs.Common.{◌≡◌, Result, Ok, Err, IfOk, Option, Some, None, sym, subst}
use Rattle.http_rules.specs.declared.config.Config.{Config}
use Rattle.session_core.specs.History.{nothing_yet}
use Rattle.session_core.specs.Place.{IsPlaced}
use Rattle.session_core.specs.declared.machine.Core.{Core}
use Rattle.forward_core.specs.Joined.Joined.{Placed, answer_of}
use Rattle.forward_core.specs.declared.joined.directions.Directions.{Directions}
use Rattle.proxy_sessions.specs.Driven.{stands_for}
use Rattle.proxy_sessions.specs.Spare.{IsUsed, IsSpare}
use Rattle.http_model.specs.declared.OutOfMemory.{OutOfMemory}
use Rattle.proxy_sessions.proofs.cores.ClientCores.next.Goals as goal
use Rattle.proxy_sessions.proofs.cores.ClientCores.next.Goals.{in-Some, in-None}

-- a core to which nothing has happened can be used
used_of : {E : Type 0} (cfg : Config) (r : Result (Core Directions) E) → IfOk r (λ core. stands_for cfg core nothing_yet)
    → IfOk r (λ core. IsPlaced (Placed core.sides) (answer_of core.sides) core.at.phase core.at.cut) → IfOk r (IsUsed cfg)
used_of cfg (Ok core) s p = record { peer = cfg.peer; past = nothing_yet; stands = s; placed = p }
used_of cfg (Err fault) s p = tt

pub returns-clause-used : goal.returns-clause-used
returns-clause-used c =
    let own : Config = c.self.inside.config.now in
    let Good : Result (Core Directions) OutOfMemory → Type 0 = λ r. IfOk r (IsUsed c.args.self.now) in
    elim c.match-take.branch [
      | in-Some w ↦
          let spare : IsUsed own w.in-Some.core = subst (λ (s : Option (Core Directions)). IsSpare own s) (sym w.in-Some.ensures.value) c.self.invariant.1 in
          subst Good (sym w.result-is) (subst (λ (x : Config). IsUsed x w.in-Some.core) c.self.view_is spare)
      | in-None w ↦
          let opened : IfOk w.open_core.result (IsUsed own) = used_of own w.open_core.result w.open_core.ensures.stands w.open_core.ensures.placed in
          subst Good (sym w.result-is) (subst (λ (x : Config). IfOk w.open_core.result (IsUsed x)) c.self.view_is opened)
    ]
