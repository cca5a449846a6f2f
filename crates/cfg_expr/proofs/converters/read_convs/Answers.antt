use Rattle.std.proofs.Common.{◌≡◌, ◌++◌, ◌∷◌, [], ◌∙◌, arith, rules, refl}
use Rattle.cfg_expr.specs.Exprs.{convs_at}
use Rattle.cfg_expr.specs.Faults.{cause_of}
use Rattle.cfg_expr.proofs.Readings.{leads_begin}
use Rattle.cfg_expr.proofs.Steps.{convs_on, convs_out, convs_full, convs_end}
use Rattle.cfg_expr.proofs.converters.read_convs.Goals as goal

pub each-init : goal.each-init
each-init g c = rw c.new-convs.ensures (record {
  most = 16;
  count = refl;
  leads = leads_begin (convs_at c.args.text.now);
  same = refl;
})

pub returns-then-len-eq-MAX_CONVS : goal.returns-then-len-eq-MAX_CONVS
returns-then-len-eq-MAX_CONVS g c =
    let h = c.each.invariant in
    (convs_full (convs_at c.args.text.now) h.most c.each.convs c.each.rest.now h.count (omega arith) c.in-Some.ensures.0 h.leads, h.same)

pub each-preserved : goal.each-preserved
each-preserved g c =
    let h = c.each.invariant in
    let pushed : c.push.new.self ≡ c.each.convs ++ c.in-Ok.conv ∷ [] = search rules in
    let next = convs_on (convs_at c.args.text.now) h.most c.each.convs c.each.rest.now c.in-Some.behind.now c.in-Ok.conv c.in-Ok.after.now
    h.count (omega arith) c.in-Some.ensures.0 c.in-Some.ensures.1 c.in-Ok.ensures.0 h.leads in
    rw pushed (record { most = next.0; count = next.1; leads = next.2; same = c.in-Ok.ensures.1 ∙ h.same })

pub returns-in-Err : goal.returns-in-Err
returns-in-Err g c =
    let h = c.each.invariant in
    convs_out (convs_at c.args.text.now) h.most c.each.convs c.each.rest.now c.in-Some.behind.now _ _ _ _ (cause_of c.in-Err.fault)
    h.count (omega arith) c.in-Some.ensures.0 c.in-Some.ensures.1 h.leads h.same c.in-Err.ensures

pub returns : goal.returns
returns g c =
    let h = c.each.invariant in
    (convs_end (convs_at c.args.text.now) h.most c.each.convs c.each.rest.now c.in_default.ensures h.leads, h.same)
