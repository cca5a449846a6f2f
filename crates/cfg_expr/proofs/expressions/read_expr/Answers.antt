use Rattle.cfg_expr.specs.Exprs.{expr_at, expr_of}
use Rattle.cfg_expr.specs.Faults.{cause_of}
use Rattle.cfg_expr.proofs.Readings.{fails_first}
use Rattle.cfg_expr.proofs.expressions.read_expr.Goals as goal

pub returns-in-Err : goal.returns-in-Err
unfolding expr_of
returns-in-Err g c =
    fails_first (expr_at c.args.side c.args.text.now) _ _ _ _ (cause_of c.in-Err.fault) c.in-Err.ensures
