-- Words of a rule for which patterns may be asked.
use Rattle.std.specs.Prelude.{false, Ok}
use Rattle.px_pattern.specs.Pattern.{Pattern}
use Rattle.log_format.specs.declared.fmt.Fmt.{Fmt}
use Rattle.cfg_expr.specs.declared.side.Side.{Side}
use Rattle.cfg_expr.specs.Reading.{Reading, plain, built, ◌>>=◌}
use Rattle.cfg_expr.specs.Formats.{format_of}
use Rattle.cfg_parse.specs.Action.Faults.{RuleReading, of_text, argument}
use Rattle.cfg_parse.specs.Action.Arguments.{Words}

-- the next word as a format, and those behind it
unfoldable pub format_at : Side → Words → RuleReading (Fmt × Words)
format_at side words = do
  word ← plain (argument words)
  fmt ← of_text (format_of side word.0)
  plain (Ok (fmt, word.1))

-- the next word as a pattern, and those behind it
unfoldable pub pattern_at : Words → RuleReading (Pattern × Words)
pattern_at words = do
  word ← plain (argument words)
  pat ← built (record { text = word.0; icase = false })
  plain (Ok (pat, word.1))
