use Rattle.cfg_expr.specs.Condition.Tests.{convs_to_end}
use Rattle.cfg_expr.specs.Exprs.{convs_at}
use Rattle.cfg_expr.specs.Faults.{cause_of}
use Rattle.cfg_expr.proofs.Readings.{fails_first}
use Rattle.cfg_expr.proofs.condition.criterion.convs_to_end.Goals as goal

pub returns-in-Err : goal.returns-in-Err
unfolding convs_to_end
returns-in-Err g c =
    fails_first (convs_at c.args.text.now) _ _ _ _ (cause_of c.in-Err.fault) c.in-Err.ensures
