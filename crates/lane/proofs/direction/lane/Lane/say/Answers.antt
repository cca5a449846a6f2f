use Rattle.std.proofs.Common.{sym, ap, ◌∙◌, subst}
use Rattle.htx_model.specs.Blocks.{flow}
use Rattle.std.specs.Prelude.{Option}
use Rattle.lane.specs.declared.sieve.sieve.Sieve.{Sieve}
use Rattle.lane.specs.Direction.Filtering.{AreThese}
use Rattle.lane.specs.Direction.Sends.{Stands, said}
use Rattle.lane.specs.Direction.State.{LaneState}
use Rattle.lane.proofs.DirectionLemmas.FlowLemmas.{front_flow}
use Rattle.lane.proofs.direction.lane.Lane.say.Goals as goal

pub returns-clause-stands : goal.returns-clause-stands
returns-clause-stands c = λ filters head body these is.
    let flows = ap flow is ∙ front_flow head body in
    let at = c.put_by.ensures.flow ∙ flows in
    let same = c.put_by.ensures.same ∙ ap (λ (l : LaneState). record l { msg = c.put_by.new.self.msg }) c.hide.ensures.same in
    subst (λ (l : LaneState). Stands c.say_msg.new.self (said l filters head body c.args.no_body)) same (c.say_msg.ensures.stands filters head body (subst (λ (o : Option Sieve). AreThese o filters) (sym (ap (λ (l : LaneState). l.sieve) same)) these) at)
