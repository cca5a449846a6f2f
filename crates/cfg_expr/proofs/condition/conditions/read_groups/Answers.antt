use Rattle.std.proofs.Common.{◌≡◌, ◌<◌, ◌∙◌, length, arith}
use Rattle.acl_eval.specs.declared.condition.Term.{Term}
use Rattle.std.proofs.Common.{List}
use Rattle.cfg_expr.specs.Faults.{cause_of}
use Rattle.cfg_expr.specs.Condition.Conditions.{groups_of, with_group}
use Rattle.cfg_expr.proofs.ConditionLemmas.Steps.{plainly, groups_on, groups_out, groups_end, groups_over, no_words}
use Rattle.cfg_expr.proofs.condition.conditions.read_groups.Goals as goal

pub returns-in_default : goal.returns-in_default
returns-in_default g c =
    let h = c.each.invariant in
    let side = c.args.acls.side in
    let lines = c.args.acls.lines.now in
    let all = groups_of side lines c.args.words in
    let so_far = c.each.groups in
    plainly (λ (groups : List (List Term)). groups) all (with_group so_far.whole so_far.terms) _ _ _ _
    (groups_end side lines all h.most so_far c.each.left c.in_default.ensures.0 h.leads) h.same c.closed.ensures.groups

pub returns-in-Err : goal.returns-in-Err
returns-in-Err g c =
    let h = c.each.invariant in
    let side = c.args.acls.side in
    let lines = c.args.acls.lines.now in
    let leads = rw c.in-Some.ensures at h.leads in
    let inside : c.each._at < length c.args.words = omega (arith, c.len-count.ensures.words) in
    groups_out side lines (groups_of side lines c.args.words) h.most c.each._at (length c.args.words) c.each.groups c.in-Some.word.now c.next.new.self _ _ _ _ (cause_of c.in-Err.fault)
    h.steps inside leads h.same c.in-Err.ensures.reads

pub each-preserved : goal.each-preserved
each-preserved g c =
    let h = c.each.invariant in
    let side = c.args.acls.side in
    let lines = c.args.acls.lines.now in
    let leads = rw c.in-Some.ensures at h.leads in
    let inside : c.each._at < length c.args.words = omega (arith, c.len-count.ensures.words) in
    let next = groups_on side lines (groups_of side lines c.args.words) h.most c.each._at (length c.args.words) c.each.groups c.in-Some.word.now c.next.new.self c.in-Ok.next c.in-Ok.behind
    h.steps inside c.in-Ok.ensures.reads.0 leads in
    record { most = next.0; steps = next.1; few = omega (arith, c.in-Ok.ensures.few); leads = next.2; same = c.in-Ok.ensures.reads.1 ∙ h.same }

pub returns-then-len-gt0 : goal.returns-then-len-gt0
returns-then-len-gt0 g c =
    let h = c.each.invariant in
    let side = c.args.acls.side in
    let lines = c.args.acls.lines.now in
    let over : h.most ≡ 0 = omega (arith, c.len-count.ensures.words) in
    let some : 0 < length c.each.left = omega (arith, c.len.ensures.words) in
    (groups_over side lines (groups_of side lines c.args.words) h.most c.each.groups c.each.left over some h.leads, h.same)

pub returns : goal.returns
returns g c =
    let h = c.each.invariant in
    let side = c.args.acls.side in
    let lines = c.args.acls.lines.now in
    let all = groups_of side lines c.args.words in
    let so_far = c.each.groups in
    let none = no_words c.each.left (omega (arith, c.len.ensures.words)) in
    plainly (λ (groups : List (List Term)). groups) all (with_group so_far.whole so_far.terms) _ _ _ _
    (groups_end side lines all h.most so_far c.each.left none h.leads) h.same c.closed-2.ensures.groups
