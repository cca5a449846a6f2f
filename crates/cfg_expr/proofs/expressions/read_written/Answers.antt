use Rattle.std.proofs.Common.{refl, sym, ap}
use Rattle.cfg_expr.specs.Calls.{form_of, form_in}
use Rattle.cfg_expr.specs.Faults.{cause_of}
use Rattle.cfg_expr.specs.Fetches.{expected, placed_source}
use Rattle.cfg_expr.specs.Reading.{plain}
use Rattle.cfg_expr.specs.Exprs.{convs_at, written_at}
use Rattle.cfg_expr.proofs.Readings.{fails_behind, fails_first}
use Rattle.cfg_expr.proofs.expressions.read_written.Goals as goal

pub returns-in-Err : goal.returns-in-Err
unfolding written_at
returns-in-Err g c =
    let cause = cause_of c.in-Err.fault in
    fails_behind (plain (expected (form_in c.args.text.now))) _ (form_of c.in-Some.call) _ _ _ _ cause (sym (ap expected c.in-Some.ensures)) refl
    (fails_behind (plain (placed_source c.args.place (form_of c.in-Some.call))) _ (c.in_ok-source.source, c.in_ok-source.rest.now) _ _ _ _ cause c.in_ok-source.ensures refl
    (fails_first (convs_at c.in_ok-source.rest.now) _ _ _ _ cause c.in-Err.ensures))
