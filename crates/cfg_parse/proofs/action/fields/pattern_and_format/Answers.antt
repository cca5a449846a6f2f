use Rattle.std.proofs.Common.{Ok, rules}
use Rattle.px_pattern.specs.Pattern.{Pattern}
use Rattle.log_format.specs.declared.fmt.Fmt.{Fmt}
use Rattle.cfg_expr.specs.Reading.{plain, ◌>>=◌}
use Rattle.cfg_expr.proofs.PublicLaws.{fails_behind, fails_first}
use Rattle.cfg_parse.specs.Action.Faults.{RuleReading}
use Rattle.cfg_parse.specs.Action.Arguments.{Words}
use Rattle.cfg_parse.specs.Action.Asked.{pattern_at, format_at}
use Rattle.cfg_parse.specs.Action.Actions.{pattern_and_format}
use Rattle.cfg_parse.proofs.action.fields.pattern_and_format.Goals as goal

pub returns-in-Err : goal.returns-in-Err
unfolding pattern_and_format
returns-in-Err g c =
    let last : Pattern × Words → Fmt × Words → RuleReading (Pattern × Fmt × Words) = λ pat fmt. plain (Ok (pat.0, fmt.0, fmt.1)) in
    fails_behind (pattern_at c.args.words) (λ pat. format_at c.args.side pat.1 >>= last pat) (c.in_ok-pat.pat, c.in_ok-pat.others) _ _ _ _ _ (search rules) (search rules)
    (fails_first (format_at c.args.side c.in_ok-pat.others) (last (c.in_ok-pat.pat, c.in_ok-pat.others)) _ _ _ _ c.in-Err.ensures)
