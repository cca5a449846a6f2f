-- Calls of a canonical text, and what is read of them.
use Rattle.std.specs.Prelude.{◌≡◌, ℕ, true, List, ◌++◌, Some}
use Rattle.cfg_expr.specs.Calls.{Form, form_in}
use Rattle.cfg_print.specs.Exprs.{Call, call_text}
use Rattle.cfg_laws.specs.Spelled.{is_spellable_call, ends_call}

-- a call with what is behind it
abbrev pub form : Call → List ℕ → Form
form call rest = record { name = call.name; args = call.arguments; rest = rest }

-- a call is read back, and what is behind it is left
abbrev pub CallsReadBack : Type 0
CallsReadBack = (call : Call) (rest : List ℕ) → is_spellable_call call ≡ true → ends_call call.arguments rest ≡ true → form_in (call_text call ++ rest) ≡ Some (form call rest)
