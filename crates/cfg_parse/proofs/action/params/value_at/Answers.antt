use Rattle.std.proofs.Common.{Option, Ok, rules}
use Rattle.log_format.specs.declared.fmt.Fmt.{Fmt}
use Rattle.acl_eval.specs.declared.condition.Cond.{Cond}
use Rattle.cfg_expr.specs.declared.side.Side.TheVariants as sides
use Rattle.cfg_expr.specs.Condition.Conditions.{rule_end}
use Rattle.cfg_expr.specs.Reading.{plain, ◌>>=◌}
use Rattle.cfg_expr.proofs.PublicLaws.{fails_behind, fails_first}
use Rattle.cfg_parse.specs.Action.Faults.{RuleReading, of_text}
use Rattle.cfg_parse.specs.Action.Arguments.{Words}
use Rattle.cfg_parse.specs.Action.Asked.{format_at}
use Rattle.cfg_parse.specs.Action.Params.{value_at}
use Rattle.cfg_parse.proofs.action.params.value_at.Goals as goal

pub returns-in-Err : goal.returns-in-Err
unfolding value_at
returns-in-Err g c =
    let ending : Fmt × Words → RuleReading (Option Cond) = λ fmt. of_text (rule_end sides.Request c.args.lines.now fmt.1) in
    let last : Fmt × Words → Option Cond → RuleReading (Fmt × Option Cond) = λ fmt cond. plain (Ok (fmt.0, cond)) in
    fails_behind (format_at sides.Request c.args.words) (λ fmt. ending fmt >>= last fmt) (c.in_ok-fmt.fmt, c.in_ok-fmt.others) _ _ _ _ _ (search rules) (search rules)
    (fails_first (ending (c.in_ok-fmt.fmt, c.in_ok-fmt.others)) (last (c.in_ok-fmt.fmt, c.in_ok-fmt.others)) _ _ _ _ c.in-Err.ensures)
