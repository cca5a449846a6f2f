-- What a pattern looks for, in the words of `regex`: what its grammar reads in the text.
use Rattle.std.specs.Prelude.{◌≡◌, ℕ, Bool, false, List, Option, None, Some, IsSome, MatchOption}
use Rattle.std.specs.Str.{chars}
use Rattle.regex_syntax.specs.Brackets.{Nested}
use Rattle.regex_syntax.specs.Grammar.{Names, read}
use Rattle.regex.specs.Patterns.{Re, empty, Match, Config, default_config, find}
use Rattle.px_pattern.specs.Pattern.{Pattern}
use Rattle.px_pattern.specs.Groups.{AreGroupsOf}
use Rattle.px_pattern.specs.declared.span.Span.{Span}

-- the options of `regex` for bytes, with case ignored or not
abbrev pub options : Bool → Config
options icase = record default_config { utf8 = false; flags = record default_config.flags { case_insensitive = icase } }

-- the tree of a reading; of a text that is no pattern, which no value of the program has, the empty one
abbrev pub tree_of : Option (Nested Re × Names) → Re
tree_of None = empty
tree_of (Some found) = found.0.value

-- what a pattern looks for: the tree that the grammar reads in its text
unfoldable pub pattern_of : Pattern → Re
pattern_of p = tree_of (read (options p.icase) (chars p.text))

-- the grammar reads the text of the pattern
unfoldable pub IsPattern : Pattern → Type 0
IsPattern p = IsSome (read (options p.icase) (chars p.text))

-- the leftmost match in the text, the first alternative first, with its groups; none where there is none
abbrev pub IsFoundBy : Re → List ℕ → Option (List (Option Span)) → Type 0
IsFoundBy re text found =
    MatchOption found (find re text 0 ≡ None) (λ groups. (m : Match) × (find re text 0 ≡ Some m) × AreGroupsOf m groups)
