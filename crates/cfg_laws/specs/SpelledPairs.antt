-- Which rules of pairs a text can say, and which rules may stand in front of them. What is read from a text is so; a value that was made otherwise need not be.
use Rattle.std.specs.Prelude.{ℕ, Bool, not, ◌&&◌, ◌||◌, ◌==◌, nat_lt, List, length}
use Rattle.std.specs.List.{list_any}
use Rattle.http_rules.specs.declared.config.Config.{Config}
use Rattle.cfg_parse.specs.Whole.{ends_rules}
use Rattle.cfg_print.specs.Pairs.{pair_names, plain_count}
use Rattle.cfg_print.specs.Printed.{plain_rules}

-- the names of an application's pairs
abbrev pub names_of : Config → List (List ℕ)
names_of config = pair_names config.application

-- there is no pair, or their rules stand behind the others
abbrev pub has_pairs_behind : Config → Bool
has_pairs_behind config = length (names_of config) == 0 || nat_lt (plain_count (names_of config) config.request) (length config.request)

-- there is no pair, or no rule in front of theirs ends the rules
abbrev pub reaches_pairs : Config → Bool
reaches_pairs config = not (nat_lt 0 (length (names_of config)) && list_any ends_rules (plain_rules config))

-- the rules of pairs can be said
unfoldable pub are_spelled_pairs : Config → Bool
are_spelled_pairs config = has_pairs_behind config && reaches_pairs config
