-- A template with the groups of a match put in (Configuration Manual, section 4.2, "http-request replace-header").
use Rattle.std.specs.Prelude.{ℕ, ◌-◌, ◌==◌, ◌&&◌, List, [], ◌∷◌, ◌++◌, take, drop, Option, Some, None, if◌then◌else◌}
use Rattle.std.specs.Char.{is_ascii_digit}
use Rattle.px_pattern.specs.Groups.{group_at}
use Rattle.px_pattern.specs.declared.span.Span.{Span}

-- the bytes of a group; none where it took no part or does not exist
abbrev pub bytes_of : List ℕ → Option Span → List ℕ
bytes_of text None = []
bytes_of text (Some s) = take s.len (drop s.from text)

-- a backslash and a digit are that group, two backslashes are one, and any other backslash stays
abbrev pub expanded : List (Option Span) → List ℕ → List ℕ → List ℕ
expanded groups text [] = []
expanded groups text (b ∷ []) = b ∷ []
expanded groups text (b ∷ c ∷ template) =
    if b == 92 && is_ascii_digit c then bytes_of text (group_at groups (c - 48)) ++ expanded groups text template
    else if b == 92 && c == 92 then 92 ∷ expanded groups text template
    else b ∷ expanded groups text (c ∷ template)
