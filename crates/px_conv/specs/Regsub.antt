-- The converter `regsub`: matches of a pattern replaced by a template (Configuration Manual, section 7.3.1).
use Rattle.std.specs.Prelude.{ℕ, zero, suc, ◌+◌, ◌==◌, Bool, true, false, List, [], ◌∷◌, ◌++◌, map, length, take, drop, Option, Some, None, option_map}
use Rattle.std.specs.List.{range_with_len}
use Rattle.regex.specs.Patterns.{Re, Match, find}
use Rattle.px_pattern.specs.Groups.{span_between, group_of_match}
use Rattle.px_pattern.specs.declared.span.Span.{Span}
use Rattle.px_conv.specs.Template.{expanded}
use Rattle.px_conv.specs.declared.conv.Matches.{Matches}
use Rattle.px_conv.specs.declared.conv.Matches.TheVariants.{First, All}

-- the groups of a match that a template can name
abbrev pub groups_of : Match → List (Option Span)
groups_of m = map (λ n. option_map span_between (group_of_match m n)) (range_with_len 0 10)

-- What becomes of the bytes behind a match, which was empty or not, where `on` is what becomes of a text that is
-- searched. Behind an empty match one byte is kept, and where there is none the search ends.
abbrev pub behind : (List ℕ → List ℕ) → Matches → (was_empty : Bool) → List ℕ → List ℕ
behind on First was_empty rest = rest
behind on All false rest = on rest
behind on All true [] = []
behind on All true (b ∷ rest) = b ∷ on rest

-- the template stands in the match's place, and what is in front of the match stays
abbrev pub replaced : (List ℕ → List ℕ) → List ℕ → Matches → List ℕ → Option Match → List ℕ
replaced on template which text None = text
replaced on template which text (Some m) =
    take m.start text ++ expanded (groups_of m) text template ++ behind on which (m.trace.end == m.start) (drop m.trace.end text)

-- the same of the first match in the text
abbrev pub one_step : (List ℕ → List ℕ) → Re → List ℕ → Matches → List ℕ → List ℕ
one_step on re template which text = replaced on template which text (find re text 0)

-- at most so many steps
unfoldable pub steps : ℕ → Re → List ℕ → Matches → List ℕ → List ℕ
steps zero re template which text = text
steps (suc n) re template which text = one_step (steps n re template which) re template which text

-- The first match of the text is replaced, or each match. Behind it fewer bytes are searched than before, so
-- that there are never as many steps as this: `regsub_law` says that it is one step with itself for what follows.
unfoldable pub regsub : Re → List ℕ → Matches → List ℕ → List ℕ
regsub re template which text = steps (length text + 1) re template which text
