-- How a searcher is kept.
use Rattle.regex.specs.Patterns.{SameCaptures}
use Rattle.regex.specs.Bytes.{regex_source, matcher_pattern}
use Rattle.px_pattern.specs.Pattern.{Pattern}
use Rattle.px_pattern.specs.Meaning.{pattern_of}
use Rattle.px_pattern.specs.declared.pat.Searcher.TheInside.{Inside}

-- the pattern that it looks for
abbrev pub sought_in : Inside → Pattern
sought_in s = record { text = regex_source s.regex.now; icase = s.icase }

-- its matcher finds what the pattern's own tree finds
abbrev pub Seeks : Inside → Type 0
Seeks s = SameCaptures (matcher_pattern s.matcher) (pattern_of (sought_in s))
