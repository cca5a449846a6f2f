-- What a step makes of an environment, or why it fails: for its text before it fails for room.
use Rattle.std.specs.Prelude.{ℕ, List, length, Bool, not, ◌&&◌, ◌||◌, ◌==◌, nat_le, if◌then◌else◌, Result, Ok, Err}
use Rattle.std.specs.List.{list_all}
use Rattle.http_model.specs.declared.Why.{Why}
use Rattle.http_model.specs.declared.Why.TheVariants.{Room, Bytes}
use Rattle.http_model.specs.Blocks.{load}
use Rattle.http_model.specs.Head.{Head, front_blocks}
use Rattle.session_model.specs.Env.{env_with_head}
use Rattle.px_bytes.specs.Blanks.{trimmed}
use Rattle.http_rules.specs.Action.Given.{Env}

-- a byte that a made field value, location or reason may hold: no control byte but a tab (RFC 9110 section 5.5)
abbrev pub is_value_byte : ℕ → Bool
is_value_byte b = (nat_le 32 b || b == 9) && not (b == 127)

-- Each byte may stand in a field value. Blanks may, so it is one whether a text is trimmed before.
abbrev pub are_value_bytes : List ℕ → Bool
are_value_bytes text = list_all is_value_byte text

-- the head, with the body bytes that stand behind it in the array, is within the buffer
abbrev pub fits_with : (size : ℕ) → (body : List ℕ) → Head → Bool
fits_with size body head = nat_le (load (front_blocks head body)) size

-- what a step makes of an environment
abbrev pub Step : Type 0
Step = Env → Result Env Why

-- an edit of the head, where it fits
abbrev pub edited : (size : ℕ) → Env → Head → Result Env Why
edited size env head = if fits_with size env.body head then Ok (env_with_head env head) else Err Room

-- what is made by the text of a format, which is within the buffer before anything is made of it
abbrev pub by_text : {A : Type 0} → (size : ℕ) → (text : List ℕ) → (List ℕ → Result A Why) → Result A Why
by_text size text make = if nat_le (length text) size then make text else Err Bytes

-- an edit by a text that becomes a field's value, without the blanks at both ends
abbrev pub by_value : (size : ℕ) → Env → (text : List ℕ) → (List ℕ → Head) → Result Env Why
by_value size env text edit = if are_value_bytes text then edited size env (edit (trimmed text)) else Err Bytes
