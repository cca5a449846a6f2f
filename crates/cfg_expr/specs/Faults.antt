-- What code of texts gives, beside its definition.
use Rattle.std.specs.Prelude.{◌≡◌, ℕ, Result, Ok, Err}
use Rattle.px_pattern.specs.Refusals.{Kept}
use Rattle.cfg_expr.specs.declared.fault.TextKind.{TextKind}
use Rattle.cfg_expr.specs.declared.fault.TextFault.{TextFault}
use Rattle.cfg_expr.specs.declared.fault.TextFault.TheVariants as faults
use Rattle.cfg_expr.specs.Reading.{Reading, Cause, Refused, Unbuilt, NoMemory, Reads}

-- what a text comes to, or what is wrong with it
abbrev pub Told : (A : Type 0) → Type 0
Told A = Result A TextKind

-- the same, with the patterns that it asks for
abbrev pub TextReading : (A : Type 0) → Type 0
TextReading A = Reading TextKind A

-- why a text was not read
abbrev pub cause_of : TextFault → Cause TextKind
cause_of (faults.Refused kind) = Refused kind
cause_of faults.Pattern = Unbuilt
cause_of faults.OutOfMemory = NoMemory

-- a refusal without patterns is the one that the definition gives; want of memory is free
abbrev pub FailsPlainly : {A : Type 0} → TextFault → Told A → Type 0
FailsPlainly (faults.Refused kind) meaning = meaning ≡ Err kind
FailsPlainly faults.Pattern meaning = ⊥
FailsPlainly faults.OutOfMemory meaning = Unit {0}

-- what was returned, seen by a view, is what the definition gives, unless memory ran out
abbrev pub Gives : {A X : Type 0} → (X → A) → Result X TextFault → Told A → Type 0
Gives view (Ok x) meaning = meaning ≡ Ok (view x)
Gives view (Err fault) meaning = FailsPlainly fault meaning

-- the same, where patterns are asked for
abbrev pub ReadsText : {A X : Type 0} → (X → A) → TextReading A → (before after : ℕ) → Kept → Result X TextFault → Type 0
ReadsText view reading before after kept result = Reads cause_of view reading before after kept result
