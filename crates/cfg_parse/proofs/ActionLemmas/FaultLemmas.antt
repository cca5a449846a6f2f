-- A text's fault as a rule's.
use Rattle.std.proofs.Common.{◌≡◌, ℕ, Result, Ok, Err, ap, ◌∙◌}
use Rattle.px_pattern.specs.Refusals.{Kept}
use Rattle.cfg_expr.specs.Reading.{Fails, kind_as}
use Rattle.cfg_expr.specs.Faults as text_faults
use Rattle.cfg_expr.specs.Faults.{TextReading}
use Rattle.cfg_expr.specs.declared.fault.TextFault.{TextFault}
use Rattle.cfg_expr.specs.declared.fault.TextFault.TheVariants.{Refused, Pattern, OutOfMemory}
use Rattle.cfg_parse.specs.Action.Faults.{of_text, kind_of, fault_of, cause_of}

-- as a text fails, the rule does
pub fails_so : {A : Type 0} (r : TextReading A) (before after : ℕ) (kept : Kept) (fault : TextFault) →
    Fails r before after kept (text_faults.cause_of fault) → Fails (of_text r) before after kept (cause_of (fault_of fault))
fails_so r before after kept (Refused kind) h = (ap (λ gives. kind_as kind_of gives) h.0, h.1)
fails_so r before after kept Pattern h = record { rose = h.rose; number = h.number; pattern = h.pattern; asked = h.asked; is_last = h.is_last }
fails_so r before after kept OutOfMemory h = h

pub ruleset texts = (fails_so)
