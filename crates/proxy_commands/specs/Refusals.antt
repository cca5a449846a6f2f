-- Every refused line of a configuration, as it is told: the file, the line, its kind and its text, and a sentence on the kind behind it.
use Rattle.std.specs.Prelude.{ℕ, ◌+◌, ◌-◌, ◌/◌, ◌%◌, List, [], ◌∷◌, ◌++◌, take, length, ◌||◌, nat_lt, nat_eq, if◌then◌else◌, codes, decimal}
use Rattle.std.specs.List.{flat_map}
use Rattle.cfg_parse.specs.Limits.{most_kept}
use Rattle.cfg_parse.specs.Meanings.{meaning_of}
use Rattle.cfg_parse.specs.declared.refused.RefusedLine.{RefusedLine}
use Rattle.proxy_commands.specs.Lines.{kind_name}

-- the most bytes of a line that are shown
abbrev pub most_shown : ℕ
most_shown = 200

-- a hexadecimal digit
abbrev pub hex_digit : ℕ → ℕ
hex_digit n = if nat_lt n 10 then 48 + n else 87 + n

-- a control byte as `\xNN`, any other as it is
abbrev pub shown_byte : ℕ → List ℕ
shown_byte b = if nat_lt b 32 || nat_eq b 127 then 92 ∷ 120 ∷ hex_digit (b / 16) ∷ hex_digit (b % 16) ∷ [] else b ∷ []

-- what is shown of a line: its first bytes, and two dots where there are more
unfoldable pub shown : List ℕ → List ℕ
shown text = flat_map shown_byte (take most_shown text) ++ (if nat_lt most_shown (length text) then codes " .." else [])

-- behind the kind; the text as a whole has no bytes
abbrev pub shown_behind : List ℕ → List ℕ
shown_behind [] = []
shown_behind (b ∷ bytes) = codes ": " ++ shown (b ∷ bytes)

-- a refused line of the file of this name
unfoldable pub refused_entry : (name : List ℕ) → RefusedLine → List ℕ
refused_entry name refused =
    name ++ codes ":" ++ decimal refused.line ++ codes ": " ++ kind_name refused.kind ++ shown_behind refused.text ++ codes "\n  " ++ meaning_of refused.kind ++ codes "\n"

-- how many more there are
unfoldable pub more_line : (name : List ℕ) → ℕ → List ℕ
more_line name count = if nat_lt most_kept count then name ++ codes ": " ++ decimal (count - most_kept) ++ codes " more refused\n" else []

-- all refused lines of the file of this name: the first of them, and how many more there are
unfoldable pub refused_text : (name : List ℕ) → List RefusedLine → List ℕ
refused_text name all = flat_map (refused_entry name) (take most_kept all) ++ more_line name (length all)
