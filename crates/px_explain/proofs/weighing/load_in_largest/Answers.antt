use Rattle.std.proofs.Common.{◌≡◌, List, Bool, true, sym, subst}
use Rattle.std.proofs.lemmas.Result.{IfOk-weaker}
use Rattle.http_model.specs.Block.{Block}
use Rattle.http_rules.specs.Action.Outcome.{IsFront}
use Rattle.px_explain.specs.Wanted.{is_one_edit}
use Rattle.px_explain.proofs.Weighed.{in_largest}
use Rattle.px_explain.proofs.weighing.load_in_largest.Goals as goal

pub load_of_reply-requires-clause-front : goal.load_of_reply-requires-clause-front
load_of_reply-requires-clause-front c = subst IsFront (sym c.in_ok-copy.ensures.blocks) c.requires.front

pub load_of_edit-requires-clause-front : goal.load_of_edit-requires-clause-front
load_of_edit-requires-clause-front c = subst IsFront (sym c.in_ok-copy.ensures.blocks) c.requires.front

pub load_of_edit-requires-clause-one : goal.load_of_edit-requires-clause-one
load_of_edit-requires-clause-one c = subst (λ (bs : List Block). is_one_edit c.args.action.now bs ≡ true) (sym c.in_ok-copy.ensures.blocks) c.requires.one

pub returns-then-answers-clause-load : goal.returns-then-answers-clause-load
returns-then-answers-clause-load c =
    IfOk-weaker c.load_of_reply.result _ _
    (λ load h. in_largest c.args.side c.args.action.now c.args.vars.now c.args.msg.now.blocks c.in_ok-copy.copy.blocks c.in_ok-copy.copy.size load c.in_ok-copy.ensures.blocks c.in_ok-copy.ensures.size h)
    c.load_of_reply.ensures.load

pub returns-clause-load : goal.returns-clause-load
returns-clause-load c =
    IfOk-weaker c.load_of_edit.result _ _
    (λ load h. in_largest c.args.side c.args.action.now c.args.vars.now c.args.msg.now.blocks c.in_ok-copy.copy.blocks c.in_ok-copy.copy.size load c.in_ok-copy.ensures.blocks c.in_ok-copy.ensures.size h)
    c.load_of_edit.ensures.load
