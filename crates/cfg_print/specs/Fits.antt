-- Whether a canonical text is as long as a configuration's text may be: in all, in each line, and in its `acl` lines.
use Rattle.std.specs.Prelude.{ℕ, List, [], length, Bool, ◌&&◌, nat_le, is_ok}
use Rattle.std.specs.List.{list_all}
use Rattle.std.specs.Str.Lines.{lines}
use Rattle.http_rules.specs.declared.config.Config.{Config}
use Rattle.cfg_lex.specs.Words.{words_of}
use Rattle.cfg_parse.specs.Limits.{most_text}
use Rattle.cfg_expr.specs.Condition.Lines.{most_lines}
use Rattle.cfg_print.specs.Table.{count_lines}
use Rattle.cfg_print.specs.Printed.{all_terms, config_text}

-- a line has words: it is not too long, and has not too many
abbrev pub has_words : List ℕ → Bool
has_words line = is_ok (words_of line)

-- a text that is not too long in all, and in no line
unfoldable pub is_readable : List ℕ → Bool
is_readable text = nat_le (length text) most_text && list_all has_words (lines text)

-- the canonical text of a configuration is, and has no more `acl` lines than there may be
abbrev pub fits : Config → Bool
fits config = nat_le (count_lines [] (all_terms config)) most_lines && is_readable (config_text config)
