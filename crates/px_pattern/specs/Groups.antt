-- The groups of a match.
use Rattle.std.specs.Prelude.{◌≡◌, ℕ, ◌+◌, ◌-◌, ◌≤◌, ◌==◌, List, Option, Some, None, option_map, IfSome, slice_index_or, if◌then◌else◌}
use Rattle.regex.specs.Patterns.{Match, span}
use Rattle.regex.specs.Writes.{group_of}
use Rattle.px_pattern.specs.declared.span.Span.{Span}

-- the span from a position to another
abbrev pub span_between : ℕ × ℕ → Span
span_between ends = record { from = ends.0; len = ends.1 - ends.0 }

-- what a group of a match spans: group 0 is the match
abbrev pub group_of_match : Match → ℕ → Option (ℕ × ℕ)
group_of_match m n = if n == 0 then Some (span m) else group_of m n

-- the span of a group; none where there is no such group, or where it took no part
abbrev pub group_at : List (Option Span) → ℕ → Option Span
group_at groups n = slice_index_or groups n None

-- each group spans what it spans in the match, also those that the pattern does not have
abbrev pub AreGroupsOf : Match → List (Option Span) → Type 0
AreGroupsOf m groups = (n : ℕ) → group_at groups n ≡ option_map span_between (group_of_match m n)

-- the span lies in so many bytes
abbrev pub LiesIn : ℕ → Span → Type 0
LiesIn len s = s.from + s.len ≤ len

-- so does each group
abbrev pub LieIn : ℕ → List (Option Span) → Type 0
LieIn len groups = (n : ℕ) → IfSome (group_at groups n) (LiesIn len)
