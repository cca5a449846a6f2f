-- The rule of an `fcgi-param` line: a field that tells the value of a pair.
use Rattle.std.specs.Prelude.{ℕ, List, length, Bool, not, ◌&&◌, nat_le, if◌then◌else◌, Option, Ok, Err, codes}
use Rattle.std.specs.List.{list_all}
use Rattle.std.specs.Str.{bytes_eq}
use Rattle.fcgi_model.specs.Application.{param_field}
use Rattle.acl_eval.specs.declared.condition.Cond.{Cond}
use Rattle.log_format.specs.declared.fmt.Fmt.{Fmt}
use Rattle.http_rules.specs.Valid.{is_param_byte}
use Rattle.http_rules.specs.declared.rule.action.Action.TheVariants as actions
use Rattle.http_rules.specs.declared.rule.rule.Rule.{Rule}
use Rattle.cfg_expr.specs.declared.condition.written.AclLine.{AclLine}
use Rattle.cfg_expr.specs.declared.side.Side.TheVariants.{Request}
use Rattle.cfg_expr.specs.Condition.Conditions.{rule_end}
use Rattle.cfg_expr.specs.Reading.{plain, ◌>>=◌}
use Rattle.cfg_parse.specs.declared.action.fault.RuleKind.TheVariants.{Argument}
use Rattle.cfg_parse.specs.Action.Faults.{Read, RuleReading, of_text, argument}
use Rattle.cfg_parse.specs.Action.Arguments.{Words}
use Rattle.cfg_parse.specs.Action.Asked.{format_at}

-- the most bytes of a pair's name
abbrev pub most_param : ℕ
most_param = 64

-- the name of a pair that a line may tell; the pair of the field `proxy` is none (RFC 3875 section 4.1.18)
unfoldable pub is_param : List ℕ → Bool
is_param word = (nat_le 1 (length word) && nat_le (length word) most_param) && (list_all is_param_byte word && not (bytes_eq word (codes "HTTP_PROXY")))

abbrev pub param_of : List ℕ → Read (List ℕ)
param_of word = if is_param word then Ok word else Err Argument

-- FMT, and a condition or none
unfoldable pub value_at : List AclLine → Words → RuleReading (Fmt × Option Cond)
value_at lines words = do
  fmt ← format_at Request words
  cond ← of_text (rule_end Request lines fmt.1)
  plain (Ok (fmt.0, cond))

-- the rule that makes the field of a pair
abbrev pub param_set : (name : List ℕ) → Fmt → Option Cond → Rule
param_set name fmt cond = record { action = actions.SetHeader (param_field name) fmt; cond = cond }

-- The name of the pair and the rule that the words behind `fcgi-param` say, below these `acl` lines: NAME FMT, and a condition or none.
unfoldable pub param_rule : List AclLine → Words → RuleReading (List ℕ × Rule)
param_rule lines words = do
  word ← plain (argument words)
  name ← plain (param_of word.0)
  value ← value_at lines word.1
  plain (Ok (name, param_set name value.0 value.1))
