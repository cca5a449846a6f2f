use Rattle.std.proofs.Common.{◌≢◌, Some, false, refl, rules}
use Rattle.session_core.specs.Waits.{IsNone, IsTaken}
use Rattle.session_core.proofs.Placing.{is_somewhere}
use Rattle.session_core.proofs.Stalls.{not_turned}
use Rattle.session_core.proofs.machine.Core.at_once.Goals as goal

pub at_once-requires : goal.at_once-requires
at_once-requires g c = record { placed = is_somewhere (g.S.Works.placed c.args.self.now.sides) (g.S.Works.answer c.args.self.now.sides) c.args.self.now.at.phase c.args.self.now.at.cut c.requires.placed }

pub returns-then-is_turned : goal.returns-then-is_turned
returns-then-is_turned g c = record { goes = IsNone refl }

pub returns : goal.returns
returns g c =
    let other : c.args.self.now.at.cut ≢ Some false = λ e. absurd (search (rules, c.is_turned.ensures.1 e, c.if-is_turned.false)) in
    record { goes = IsTaken (not_turned c.args.self.now.at.cut other) c.at_once.ensures.goes }
