use Rattle.std.proofs.Common.{◌≡◌, ◌++◌, ◌∷◌, [], ap, length, length-append, ◌∙◌, arith, rules}
use Rattle.acl_eval.specs.declared.condition.TestValue.TheVariants as values
use Rattle.cfg_expr.specs.Condition.Tests.{patterns_from}
use Rattle.cfg_expr.specs.Faults.{cause_of}
use Rattle.cfg_expr.proofs.ConditionLemmas.Steps.{patterns_on, patterns_out, patterns_end}
use Rattle.cfg_expr.proofs.condition.values.read_patterns.Goals as goal

pub each-preserved : goal.each-preserved
each-preserved g c =
    let h = c.each.invariant in
    let leads = rw c.in-Some.ensures at h.leads in
    let pushed : c.push.new.self ≡ c.each.values ++ values.Pattern c.in-Ok.pat ∷ [] = search rules in
    let next = patterns_on c.args.icase (patterns_from c.args.icase [] c.args.words) c.each.values c.in-Some.word.now c.next.new.self c.in-Ok.pat c.in-Ok.ensures.0 leads in
    rw pushed (record { few = simp length-append (omega (arith, ap length c.in-Some.ensures)); leads = next; same = c.in-Ok.ensures.1 ∙ h.same })

pub returns-in-Err : goal.returns-in-Err
returns-in-Err g c =
    let h = c.each.invariant in
    let leads = rw c.in-Some.ensures at h.leads in
    patterns_out c.args.icase (patterns_from c.args.icase [] c.args.words) c.each.values c.in-Some.word.now c.next.new.self _ _ _ _ (cause_of c.in-Err.fault)
    leads h.same c.in-Err.ensures

pub returns : goal.returns
returns g c =
    let h = c.each.invariant in
    let leads = rw c.in_default.ensures.0 at h.leads in
    (patterns_end c.args.icase (patterns_from c.args.icase [] c.args.words) c.each.values leads, h.same)
