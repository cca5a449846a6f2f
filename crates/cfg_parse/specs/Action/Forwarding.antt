-- The rule of `option forwardfor` (Configuration Manual, section 4.2).
use Rattle.std.specs.Prelude.{None, Ok, codes}
use Rattle.http_rules.specs.declared.rule.action.Action.TheVariants as actions
use Rattle.http_rules.specs.declared.rule.rule.Rule.{Rule}
use Rattle.cfg_expr.specs.declared.side.Side.TheVariants.{Request}
use Rattle.cfg_expr.specs.Formats.{format_of}
use Rattle.cfg_expr.specs.Reading.{plain, ◌>>=◌}
use Rattle.cfg_parse.specs.Action.Faults.{RuleReading, of_text}
use Rattle.cfg_parse.specs.Action.Arguments.{Words, forwarded_name}

-- `option forwardfor` is the rule `http-request add-header NAME %[src]`
unfoldable pub forwarding_rule : Words → RuleReading Rule
forwarding_rule words = do
  name ← plain (forwarded_name words)
  fmt ← of_text (format_of Request (codes "%[src]"))
  plain (Ok (record { action = actions.AddHeader name fmt; cond = None }))
