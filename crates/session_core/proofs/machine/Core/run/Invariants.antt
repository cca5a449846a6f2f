use Rattle.std.proofs.Common.{◌≡◌}
use Rattle.session_core.specs.Leads.{Keeps, Meets}
use Rattle.session_core.specs.Place.{IsPlaced}
use Rattle.session_core.specs.Waits.{is_serving, Ended}
use Rattle.session_core.proofs.machine.Core.run.Given as goal

abbrev pub invariant-loop-self : goal.invariant-loop-self
invariant-loop-self g l =
    record {
      keeps : Keeps g.S.Works.meaning g.S.Works.request g.S.Works.answer g.S.Works.stands l.fn.self.sides l.fn.self.at l.self.sides l.self.at;
      placed : IsPlaced (g.S.Works.placed l.self.sides) (g.S.Works.answer l.self.sides) l.self.at.phase l.self.at.cut;
      met : Meets l.fn.self.at.cut l.self.at.cut (g.S.Works.answer l.fn.self.sides).begun;
      serving : is_serving l.self.at.phase ≡ is_serving l.fn.self.at.phase;
      ended : Ended l.self.at.phase l.self.at.cut (g.S.Works.request l.self.sides) (g.S.Works.answer l.self.sides);
    }

abbrev pub decreases-loop-self : goal.decreases-loop-self
decreases-loop-self g l = (g.S.Works.request l.self.sides).unread
