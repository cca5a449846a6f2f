-- Blanks around a value: OWS, RFC 9110, section 5.6.3.
use Rattle.std.specs.Prelude.{ℕ, ◌-◌, Bool, ◌||◌, ◌==◌, List, length, take, drop}
use Rattle.std.specs.List.{prefix_len, suffix_len}

-- a space or a tab
abbrev pub is_blank : ℕ → Bool
is_blank b = b == 32 || b == 9

-- the bytes without the blanks at their end
abbrev pub trimmed_behind : List ℕ → List ℕ
trimmed_behind bytes = take (length bytes - suffix_len is_blank bytes) bytes

-- the bytes without the blanks at both ends
abbrev pub trimmed : List ℕ → List ℕ
trimmed bytes = trimmed_behind (drop (prefix_len is_blank bytes) bytes)
