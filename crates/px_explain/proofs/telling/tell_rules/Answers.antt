use Rattle.std.proofs.Common.{◌≡◌, ℕ, ◌+◌, [], ◌∷◌, refl, ap, sym, subst, ◌∙◌}
use Rattle.htx_arena.specs.Layout.Contents.{Contents}
use Rattle.http_rules.specs.declared.action.scratch.Scratch.{Scratch}
use Rattle.http_rules.specs.declared.turn.Turned.{Turned}
use Rattle.http_rules.specs.declared.turn.Turned.TheVariants.{Goes, Ends}
use Rattle.http_rules.specs.Action.Given.{Env}
use Rattle.http_rules.specs.Action.Outcome.{IsAt, IsScratch}
use Rattle.http_rules.specs.Steps.{course_of}
use Rattle.http_rules.specs.Stepped.{StepLeaves}
use Rattle.px_sample.specs.Variables.{Variables}
use Rattle.px_explain.specs.declared.trail.Trail.{Trail}
use Rattle.px_explain.specs.declared.walk.Teller.{Teller}
use Rattle.px_explain.specs.Told.{step_in}
use Rattle.px_explain.proofs.Lines.{Reached, held, front_left, added, needs, goes_on, ends}
use Rattle.px_explain.proofs.telling.tell_rules.Goals as goal

pub wanted-requires-clause-front : goal.wanted-requires-clause-front
wanted-requires-clause-front c =
    let start = held c.args.side c.args.msg.now.blocks c.args.teller.now.vars c.requires.front in
    let r = c.loop-at.invariant.reached start.0 start.1 in
    front_left c.args.side (course_of c.loop-at.msg.size c.get-rule.result.now c.loop-at.strict r.now) c.in_ok-turned.turned c.step_rule.new.msg.blocks c.step_rule.new.reply.blocks c.step_rule.new.vars (c.in_ok-turned.ensures.steps r.now r.at_now)

pub returns-in-Ends-clause-told : goal.returns-in-Ends-clause-told
returns-in-Ends-clause-told c = λ env at.
    let size : ℕ = c.args.msg.now.size in
    let array : Contents = c.step_rule.new.msg in
    let before : Trail = c.loop-at.teller.trail in
    let r = c.loop-at.invariant.reached env at in
    let left = subst (λ (n : ℕ). StepLeaves c.args.side (course_of n c.get-rule.result.now c.loop-at.strict r.now) (Ends c.in-Ends.field-0 c.in-Ends.verdict) array.blocks c.step_rule.new.vars c.step_rule.new.reply.blocks) c.loop-at.invariant.size
    (subst (λ (t : Turned). StepLeaves c.args.side (course_of c.loop-at.msg.size c.get-rule.result.now c.loop-at.strict r.now) t array.blocks c.step_rule.new.vars c.step_rule.new.reply.blocks) c.in-Ends.is (c.in_ok-turned.ensures.steps r.now r.at_now)) in
    let step : c.step_in-step.result ≡ c.in-Ends.field-0 = c.step_in-step.ensures ∙ ap step_in c.in-Ends.is in
    let sized : array.size ≡ size = c.in_ok-turned.ensures.size ∙ c.loop-at.invariant.size in
    let one = added before c.wanted.new.teller.trail c.tell.new.trail c.args.list.which c.loop-at.at c.step_in-step.result c.in-Ends.field-0 c.in_ok-needed.needed array c.in_ok-needed.ensures.trail step c.in_ok-tell.ensures in
    let wants = needs c.args.side array.blocks c.step_rule.new.vars before.shows c.in_ok-needed.needed c.get-rule.result.now.action c.step_in-step.result c.in-Ends.field-0 array.size size step sized c.in_ok-needed.ensures.wanted in
    let teller : Teller = record { vars = c.wanted.new.teller.vars; scratch = c.wanted.new.teller.scratch; trail = c.tell.new.trail } in
    ends c.args.list c.args.side size env c.args.teller.now.trail c.loop-at.at c.get-rule.result.now c.loop-at.strict before c.loop-at.msg.blocks array c.loop-at.teller.vars c.step_rule.new.vars
    c.stepping_is_the_run.ensures.first c.get-rule.ensures sized r c.in-Ends.field-0 c.in-Ends.verdict c.step_rule.new.reply.blocks c.in_ok-needed.needed c.args.teller.now teller refl c.in_ok-needed.ensures.vars one wants left

pub loop-at-preserved : goal.loop-at-preserved
loop-at-preserved c =
    let size : ℕ = c.args.msg.now.size in
    let array : Contents = c.step_rule.new.msg in
    let before : Trail = c.loop-at.teller.trail in
    let step : c.step_in-step.result ≡ c.in-Goes.field-0 = c.step_in-step.ensures ∙ ap step_in c.in-Goes.is in
    let sized : array.size ≡ size = c.in_ok-turned.ensures.size ∙ c.loop-at.invariant.size in
    let one = added before c.wanted.new.teller.trail c.tell.new.trail c.args.list.which c.loop-at.at c.step_in-step.result c.in-Goes.field-0 c.in_ok-needed.needed array c.in_ok-needed.ensures.trail step c.in_ok-tell.ensures in
    let wants = needs c.args.side array.blocks c.step_rule.new.vars before.shows c.in_ok-needed.needed c.get-rule.result.now.action c.step_in-step.result c.in-Goes.field-0 array.size size step sized c.in_ok-needed.ensures.wanted in
    let next : (env : Env) → IsAt c.args.side env c.args.msg.now.blocks c.args.teller.now.vars
    → (c.step_rule.new.reply.blocks ≡ []) × Reached c.args.list c.args.side size env c.args.teller.now.trail (c.loop-at.at + 1) c.in-Goes.mode c.tell.new.trail array.blocks c.step_rule.new.vars
    = λ env at.
    let r = c.loop-at.invariant.reached env at in
    let left = subst (λ (n : ℕ). StepLeaves c.args.side (course_of n c.get-rule.result.now c.loop-at.strict r.now) (Goes c.in-Goes.field-0 c.in-Goes.mode) array.blocks c.step_rule.new.vars c.step_rule.new.reply.blocks) c.loop-at.invariant.size
    (subst (λ (t : Turned). StepLeaves c.args.side (course_of c.loop-at.msg.size c.get-rule.result.now c.loop-at.strict r.now) t array.blocks c.step_rule.new.vars c.step_rule.new.reply.blocks) c.in-Goes.is (c.in_ok-turned.ensures.steps r.now r.at_now)) in
    goes_on c.args.list c.args.side size env c.args.teller.now.trail c.loop-at.at c.get-rule.result.now c.loop-at.strict before c.loop-at.msg.blocks array c.loop-at.teller.vars c.step_rule.new.vars
    c.stepping_is_the_run.ensures.first c.get-rule.ensures sized r c.in-Goes.field-0 c.in-Goes.mode c.step_rule.new.reply.blocks c.in_ok-needed.needed c.tell.new.trail one wants left
    in
    let start = held c.args.side c.args.msg.now.blocks c.args.teller.now.vars c.requires.front in
    let first = next start.0 start.1 in
    record {
      reached = λ env at. subst (λ (v : Variables). Reached c.args.list c.args.side size env c.args.teller.now.trail (c.loop-at.at + 1) c.in-Goes.mode c.tell.new.trail array.blocks v) (sym c.in_ok-needed.ensures.vars) (next env at).1;
      front = (first.1.now.head, first.1.now.body, first.1.at_now.blocks_are);
      silent = first.0;
      size = sized;
      reply_size = c.in_ok-turned.ensures.reply_size ∙ c.loop-at.invariant.reply_size;
      scratch = subst (λ (s : Scratch). IsScratch size s) (sym c.in_ok-needed.ensures.scratch) (subst (λ (n : ℕ). IsScratch n c.step_rule.new.scratch) c.loop-at.invariant.size c.in_ok-turned.ensures.scratch);
    }
