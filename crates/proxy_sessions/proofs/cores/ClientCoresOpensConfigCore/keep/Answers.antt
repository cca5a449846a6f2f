use Rattle.std.proofs.Common.{sym, subst}
use Rattle.std.specs.Prelude.{Option}
use Rattle.session_core.specs.declared.machine.Core.{Core}
use Rattle.http_rules.specs.declared.config.Config.{Config}
use Rattle.forward_core.specs.declared.joined.directions.Directions.{Directions}
use Rattle.proxy_sessions.specs.Spare.{IsUsed, IsSpare}
use Rattle.proxy_sessions.proofs.cores.ClientCoresOpensConfigCore.keep.Goals as goal

pub invariant_of-self : goal.invariant_of-self
invariant_of-self c =
    let cfg : Config = c.args.self.now in
    let s = c.requires.stands in
    let used : IsUsed cfg c.args.core = record { peer = s.0; past = s.1; stands = s.2; placed = c.requires.sound } in (
      c.self.invariant.0,
      subst (λ (s : Option (Core Directions)). IsSpare c.self.inside.config.now s) (sym c.replace.ensures.after) (subst (λ (x : Config). IsUsed x c.args.core) (sym c.self.view_is) used),
    )
