-- Lines that may ask for patterns to be built.
use Rattle.std.specs.Prelude.{◌≡◌, ℕ, Result, Ok, Err}
use Rattle.px_pattern.specs.Refusals.{Kept}
use Rattle.cfg_expr.specs.declared.fault.TextKind.{TextKind}
use Rattle.cfg_expr.specs.declared.fault.TextKind.TheVariants as texts
use Rattle.cfg_expr.specs.declared.fault.TextFault.{TextFault}
use Rattle.cfg_expr.specs.declared.fault.TextFault.TheVariants as text_faults
use Rattle.cfg_expr.specs.Reading.{Reading, in_kinds, Cause, Refused, Unbuilt, NoMemory, Reads}
use Rattle.cfg_expr.specs.Faults.{TextReading}
use Rattle.cfg_parse.specs.declared.action.fault.RuleKind.{RuleKind}
use Rattle.cfg_parse.specs.declared.action.fault.RuleKind.TheVariants as rules
use Rattle.cfg_parse.specs.declared.action.fault.RuleFault.{RuleFault}
use Rattle.cfg_parse.specs.declared.action.fault.RuleFault.TheVariants as rule_faults
use Rattle.cfg_parse.specs.Action.Faults.{RuleReading}
use Rattle.cfg_parse.specs.declared.fault.CfgKind.{CfgKind}
use Rattle.cfg_parse.specs.declared.fault.CfgKind.TheVariants as kinds
use Rattle.cfg_parse.specs.declared.fault.LineRefusal.{LineRefusal}
use Rattle.cfg_parse.specs.declared.fault.LineRefusal.TheVariants as refusals

-- what a line comes to, and the patterns that it asks for
abbrev pub LineReading : (A : Type 0) → Type 0
LineReading A = Reading CfgKind A

-- ---- what is wrong with a part of a line

abbrev pub kind_of_text : TextKind → CfgKind
kind_of_text texts.Argument = kinds.Argument
kind_of_text texts.Expr = kinds.Expr
kind_of_text texts.Acl = kinds.Acl
kind_of_text texts.Limit = kinds.Limit

abbrev pub kind_of_rule : RuleKind → CfgKind
kind_of_rule rules.Keyword = kinds.Keyword
kind_of_rule rules.Argument = kinds.Argument
kind_of_rule rules.Expr = kinds.Expr
kind_of_rule rules.Acl = kinds.Acl
kind_of_rule rules.FramingName = kinds.FramingName
kind_of_rule rules.Limit = kinds.Limit

abbrev pub refusal_of_text : TextFault → LineRefusal
refusal_of_text (text_faults.Refused kind) = refusals.Refused (kind_of_text kind)
refusal_of_text text_faults.Pattern = refusals.Pattern
refusal_of_text text_faults.OutOfMemory = refusals.OutOfMemory

abbrev pub refusal_of_rule : RuleFault → LineRefusal
refusal_of_rule (rule_faults.Refused kind) = refusals.Refused (kind_of_rule kind)
refusal_of_rule rule_faults.Pattern = refusals.Pattern
refusal_of_rule rule_faults.OutOfMemory = refusals.OutOfMemory

-- a test as a part of a line, and a rule
abbrev pub of_text : {A : Type 0} → TextReading A → LineReading A
of_text reading = in_kinds kind_of_text reading

abbrev pub of_rule : {A : Type 0} → RuleReading A → LineReading A
of_rule reading = in_kinds kind_of_rule reading

-- ---- what code gives

-- why a line was not read
abbrev pub cause_of : LineRefusal → Cause CfgKind
cause_of (refusals.Refused kind) = Refused kind
cause_of refusals.Pattern = Unbuilt
cause_of refusals.OutOfMemory = NoMemory

-- what was returned, seen by a view, is what the definition gives; a pattern is refused only by the builder, and want of
-- memory is free
abbrev pub ReadsLine : {A X : Type 0} → (X → A) → LineReading A → (before after : ℕ) → Kept → Result X LineRefusal → Type 0
ReadsLine view reading before after kept result = Reads cause_of view reading before after kept result
