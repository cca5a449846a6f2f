-- What is wrong with a rule, and what code gives beside its definition.
use Rattle.std.specs.Prelude.{◌≡◌, ℕ, List, [], ◌∷◌, Option, Some, None, Result, Ok, Err}
use Rattle.px_pattern.specs.Refusals.{Kept}
use Rattle.cfg_expr.specs.declared.fault.TextKind.{TextKind}
use Rattle.cfg_expr.specs.declared.fault.TextKind.TheVariants as texts
use Rattle.cfg_expr.specs.declared.fault.TextFault.{TextFault}
use Rattle.cfg_expr.specs.declared.fault.TextFault.TheVariants as text_faults
use Rattle.cfg_expr.specs.Reading.{Reading, in_kinds, Cause, Refused, Unbuilt, NoMemory, Reads}
use Rattle.cfg_expr.specs.Faults.{TextReading}
use Rattle.cfg_parse.specs.declared.action.fault.RuleKind.{RuleKind}
use Rattle.cfg_parse.specs.declared.action.fault.RuleKind.TheVariants as kinds
use Rattle.cfg_parse.specs.declared.action.fault.RuleFault.{RuleFault}
use Rattle.cfg_parse.specs.declared.action.fault.RuleFault.TheVariants as faults

-- what words come to, or what is wrong with them
abbrev pub Read : (A : Type 0) → Type 0
Read A = Result A RuleKind

-- the same, with the patterns that they ask for
abbrev pub RuleReading : (A : Type 0) → Type 0
RuleReading A = Reading RuleKind A

-- ---- what is wrong with a text of a rule

abbrev pub kind_of : TextKind → RuleKind
kind_of texts.Argument = kinds.Argument
kind_of texts.Expr = kinds.Expr
kind_of texts.Acl = kinds.Acl
kind_of texts.Limit = kinds.Limit

abbrev pub fault_of : TextFault → RuleFault
fault_of (text_faults.Refused kind) = faults.Refused (kind_of kind)
fault_of text_faults.Pattern = faults.Pattern
fault_of text_faults.OutOfMemory = faults.OutOfMemory

-- a text as a part of a rule
abbrev pub of_text : {A : Type 0} → TextReading A → RuleReading A
of_text reading = in_kinds kind_of reading

-- ---- words from left to right

-- the next word and those behind it; a missing one is refused
abbrev pub argument : List (List ℕ) → Read (List ℕ × List (List ℕ))
argument [] = Err kinds.Argument
argument (word ∷ others) = Ok (word, others)

-- what follows from a value that there is, or what stands in its place
abbrev pub unless_none : {A B : Type 0} → Option A → B → (A → B) → B
unless_none None other f = other
unless_none (Some x) other f = f x

-- ---- what code gives

-- why a rule was not read
abbrev pub cause_of : RuleFault → Cause RuleKind
cause_of (faults.Refused kind) = Refused kind
cause_of faults.Pattern = Unbuilt
cause_of faults.OutOfMemory = NoMemory

-- a refusal without patterns is the one that the definition gives; want of memory is free
abbrev pub FailsPlainly : {A : Type 0} → RuleFault → Read A → Type 0
FailsPlainly (faults.Refused kind) meaning = meaning ≡ Err kind
FailsPlainly faults.Pattern meaning = ⊥
FailsPlainly faults.OutOfMemory meaning = Unit {0}

-- what was returned, seen by a view, is what the definition gives, unless memory ran out
abbrev pub Gives : {A X : Type 0} → (X → A) → Result X RuleFault → Read A → Type 0
Gives view (Ok x) meaning = meaning ≡ Ok (view x)
Gives view (Err fault) meaning = FailsPlainly fault meaning

-- the same, where patterns are asked for
abbrev pub ReadsRule : {A X : Type 0} → (X → A) → RuleReading A → (before after : ℕ) → Kept → Result X RuleFault → Type 0
ReadsRule view reading before after kept result = Reads cause_of view reading before after kept result
