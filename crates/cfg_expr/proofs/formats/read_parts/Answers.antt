use Rattle.std.proofs.Common.{◌≡◌, ◌≢◌, ◌++◌, ◌∷◌, [], sym, length, ◌∙◌, arith, rules, refl}
use Rattle.cfg_expr.specs.Formats.{parts_at}
use Rattle.cfg_expr.specs.Faults.{cause_of}
use Rattle.cfg_expr.proofs.Readings.{leads_begin}
use Rattle.std.proofs.lemmas.Bool.{eqb-true}
use Rattle.cfg_expr.proofs.Texts.{none_left}
use Rattle.cfg_expr.proofs.Steps.{parts_on, parts_out, parts_full, parts_end}
use Rattle.cfg_expr.proofs.formats.read_parts.Goals as goal

pub each-init : goal.each-init
each-init g c = rw c.new-parts.ensures (record {
  most = 64;
  count = refl;
  leads = leads_begin (parts_at c.args.side c.args.text.now);
  same = refl;
})

pub returns-then-len-eq-MAX_PARTS : goal.returns-then-len-eq-MAX_PARTS
returns-then-len-eq-MAX_PARTS g c =
    let h = c.each.invariant in
    let more : c.each.rest.now ≢ [] = search rules in
    (parts_full c.args.side (parts_at c.args.side c.args.text.now) h.most c.each.parts c.each.rest.now h.count (omega arith) more h.leads, h.same)

pub each-preserved : goal.each-preserved
each-preserved g c =
    let h = c.each.invariant in
    let more : c.each.rest.now ≢ [] = search rules in
    let pushed : c.push.new.self ≡ c.each.parts ++ c.in-Ok.part ∷ [] = search rules in
    let next = parts_on c.args.side (parts_at c.args.side c.args.text.now) h.most c.each.parts c.each.rest.now c.in-Ok.part c.in-Ok.behind.now
    h.count (omega arith) more c.in-Ok.ensures.0 h.leads in
    rw pushed (record { most = next.0; count = next.1; leads = next.2; same = c.in-Ok.ensures.1 ∙ h.same })

pub returns-in-Err : goal.returns-in-Err
returns-in-Err g c =
    let h = c.each.invariant in
    let more : c.each.rest.now ≢ [] = search rules in
    parts_out c.args.side (parts_at c.args.side c.args.text.now) h.most c.each.parts c.each.rest.now _ _ _ _ (cause_of c.in-Err.fault)
    h.count (omega arith) more h.leads h.same c.in-Err.ensures

pub returns : goal.returns
returns g c =
    let h = c.each.invariant in
    let none = none_left c.each.rest.now (eqb-true (length c.each.rest.now) 0 (sym c.is_empty.ensures ∙ c.each-test.false)) in
    (parts_end c.args.side (parts_at c.args.side c.args.text.now) h.most c.each.parts c.each.rest.now none h.leads, h.same)
