use Rattle.std.proofs.Common.{◌≡◌, ◌+◌, ◌-◌, ℕ, suc, ◌∙◌, arith, subst}
use Rattle.http_rules.specs.Action.Turns.{run_from}
use Rattle.http_rules.specs.Action.Outcome.{IsScratch}
use Rattle.http_rules.proofs.ActionLemmas.Turns.{turned_on, turned_off}
use Rattle.http_rules.proofs.action.replacing.replace_fields.Goals as goal

pub returns-in-Failed-clause-ran : goal.returns-in-Failed-clause-ran
returns-in-Failed-clause-ran c =
    λ env at.
    let here : c.loop-at.at ≡ c.loop-at.at - 1 + 1 = omega arith in
    turned_off c.args.setting.side (run_from c.args.fields.extent c.args.msg.now.size c.args.fields.name.now c.args.fields.by.pat.now c.args.fields.by.fmt.now 0 env) c.args.fields.extent c.args.msg.now.size c.loop-at.msg.size c.args.fields.name.now c.args.fields.by.pat.now c.args.fields.by.fmt.now
    (c.loop-at.at - 1) c.in-Failed.why c.in_ok-replace_named.field-0 c.loop-at.msg.blocks c.replace_named.new.msg.blocks c.args.setting.vars.now c.loop-at.invariant.size c.in-Failed.is (c.loop-at.invariant.turns env at)
    (λ e on. c.in_ok-replace_named.ensures.came e (c.loop-at.at - 1) on here)

pub loop-at-preserved : goal.loop-at-preserved
loop-at-preserved c =
    let here : c.loop-at.at ≡ c.loop-at.at - 1 + 1 = omega arith in
    let next : c.loop-at.at + 1 - 1 ≡ suc (c.loop-at.at - 1) = omega arith in
    record {
      turns =
          λ env at.
          turned_on c.args.setting.side (run_from c.args.fields.extent c.args.msg.now.size c.args.fields.name.now c.args.fields.by.pat.now c.args.fields.by.fmt.now 0 env) c.args.fields.extent c.args.msg.now.size c.loop-at.msg.size c.args.fields.name.now c.args.fields.by.pat.now c.args.fields.by.fmt.now
          (c.loop-at.at - 1) (c.loop-at.at + 1 - 1) c.in_ok-replace_named.field-0 c.loop-at.msg.blocks c.replace_named.new.msg.blocks c.args.setting.vars.now c.loop-at.invariant.size next c.in-Done.is
          (c.loop-at.invariant.turns env at) (λ e on. c.in_ok-replace_named.ensures.came e (c.loop-at.at - 1) on here);
      size = c.in_ok-replace_named.ensures.size ∙ c.loop-at.invariant.size;
      len = c.in_ok-replace_named.ensures.len ∙ c.loop-at.invariant.len;
      scratch = subst (λ (n : ℕ). IsScratch n c.replace_named.new.scratch) c.loop-at.invariant.size c.in_ok-replace_named.ensures.scratch;
    }
