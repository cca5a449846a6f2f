use Rattle.std.proofs.Common.{◌≡◌, ◌+◌, ◌++◌, ◌∷◌, [], ◌∙◌, sym, ap, drop, length-append, arith, rules}
use Rattle.cfg_expr.specs.Condition.Lines.{tests_from}
use Rattle.cfg_expr.proofs.ConditionLemmas.Windows.{drop-slice_get}
use Rattle.cfg_expr.proofs.ConditionLemmas.Steps.{fails_as, tests_on, tests_past, tests_out}
use Rattle.cfg_expr.proofs.condition.names.line_tests.Goals as goal

pub each-preserved-then-not-is_named : goal.each-preserved-then-not-is_named
each-preserved-then-not-is_named c =
    let h = c.each.invariant in
    let name = c.args.name.now in
    let next = drop-slice_get c.args.lines.now c.each.at c.get-line.result.now c.get-line.ensures in
    record {
      few = omega arith;
      left = h.left ∙ ap (tests_from c.args.side name c.each.tests) next
          ∙ tests_past c.args.side name c.each.tests c.get-line.result.now (drop (c.each.at + 1) c.args.lines.now) (sym c.is_named.ensures ∙ c.if-not-is_named.true);
    }

pub returns-in-Err : goal.returns-in-Err
returns-in-Err c =
    let h = c.each.invariant in
    let name = c.args.name.now in
    let next = drop-slice_get c.args.lines.now c.each.at c.get-line.result.now c.get-line.ensures in
    fails_as c.in-Err.fault (tests_from c.args.side name c.each.tests (c.get-line.result.now ∷ drop (c.each.at + 1) c.args.lines.now)) (tests_from c.args.side name [] c.args.lines.now)
    (h.left ∙ ap (tests_from c.args.side name c.each.tests) next)
    (tests_out c.args.side name c.each.tests c.get-line.result.now (drop (c.each.at + 1) c.args.lines.now) c.in-Err.fault (sym c.is_named.ensures ∙ c.if-not-is_named.false) c.in-Err.ensures)

pub each-preserved : goal.each-preserved
each-preserved c =
    let h = c.each.invariant in
    let name = c.args.name.now in
    let next = drop-slice_get c.args.lines.now c.each.at c.get-line.result.now c.get-line.ensures in
    let pushed : c.push.new.self ≡ c.each.tests ++ c.in-Ok.test ∷ [] = search rules in
    rw pushed (record {
      few = simp length-append (omega arith);
      left = h.left ∙ ap (tests_from c.args.side name c.each.tests) next
          ∙ tests_on c.args.side name c.each.tests c.get-line.result.now (drop (c.each.at + 1) c.args.lines.now) c.in-Ok.test (sym c.is_named.ensures ∙ c.if-not-is_named.false) c.in-Ok.ensures;
    })
