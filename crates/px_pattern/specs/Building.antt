-- How a pattern is kept.
use Rattle.std.specs.Prelude.{◌≡◌}
use Rattle.regex.specs.Bytes.{regex_source, regex_config, IsReadFromSource}
use Rattle.px_pattern.specs.Pattern.{Pattern}
use Rattle.px_pattern.specs.Meaning.{options}
use Rattle.px_pattern.specs.declared.pat.Pat.TheInside as pat

-- the text of the regex, and whether it ignores case
abbrev pub pattern_in : pat.Inside → Pattern
pattern_in p = record { text = regex_source p.regex.now; icase = p.icase }

-- the regex is what the grammar reads in its text under the options
pub record IsBuilt (p : pat.Inside) : Type 0 where
  pub config : regex_config p.regex.now ≡ options p.icase
  pub read : IsReadFromSource p.regex.now
