-- The rules that `fcgi-param` lines make: they stand behind all others of requests. For each name one takes away what a client sends as the field of the
-- pair; then come those that tell the values.
use Rattle.std.specs.Prelude.{ℕ, ◌+◌, List, [], ◌∷◌, ◌++◌, length, drop, Bool, false, ◌&&◌, nat_lt, if◌then◌else◌, Option, Some, None, is_none, codes}
use Rattle.std.specs.List.{list_any, list_all, flat_map}
use Rattle.std.specs.Str.{bytes_eq}
use Rattle.fcgi_model.specs.Application.{Application, param_field}
use Rattle.http_rules.specs.declared.rule.action.DelBy.{DelBy}
use Rattle.http_rules.specs.declared.rule.action.DelBy.TheVariants as dels
use Rattle.http_rules.specs.declared.rule.action.Action.{Action}
use Rattle.http_rules.specs.declared.rule.action.Action.TheVariants as actions
use Rattle.http_rules.specs.declared.rule.rule.Rule.{Rule}
use Rattle.cfg_print.specs.Words.{line_text}
use Rattle.cfg_print.specs.Formats.{format_text}
use Rattle.cfg_print.specs.Rules.{end_words}

-- ---- which rules they are

-- the names of the pairs that a server is told
abbrev pub pair_names : Option Application → List (List ℕ)
pair_names None = []
pair_names (Some app) = app.params

-- the field is that of the pair
abbrev pub is_field_of : (field name : List ℕ) → Bool
is_field_of field name = bytes_eq field (param_field name)

abbrev pub removes_field : (name : List ℕ) → DelBy → Bool
removes_field name (dels.Str field) = is_field_of field name
removes_field name _ = false

abbrev pub removes : (name : List ℕ) → Action → Bool
removes name (actions.DelHeader by) = removes_field name by
removes name _ = false

-- the rule takes away the field of the pair
unfoldable pub is_removal : (name : List ℕ) → Rule → Bool
is_removal name rule = is_none rule.cond && removes name rule.action

-- the action sets the field of one of the pairs
unfoldable pub sets_one : (names : List (List ℕ)) → Action → Bool
sets_one names (actions.SetHeader field fmt) = list_any (is_field_of field) names
sets_one names _ = false

abbrev pub is_set : (names : List (List ℕ)) → Rule → Bool
is_set names rule = sets_one names rule.action

-- the rules take away the field of each of these, and then set fields of all of them
unfoldable pub are_pairs_of : (all names : List (List ℕ)) → List Rule → Bool
are_pairs_of all [] rules = list_all (is_set all) rules
are_pairs_of all (name ∷ names) [] = false
are_pairs_of all (name ∷ names) (rule ∷ rules) = is_removal name rule && are_pairs_of all names rules

-- these are the rules of pairs, of which there are some
abbrev pub are_pairs : (names : List (List ℕ)) → List Rule → Bool
are_pairs names rules = nat_lt 0 (length names) && are_pairs_of names names rules

-- how many rules stand in front of those of pairs
unfoldable pub plain_count : (names : List (List ℕ)) → List Rule → ℕ
plain_count names [] = 0
plain_count names (rule ∷ rules) = if are_pairs names (rule ∷ rules) then 0 else 1 + plain_count names rules

-- those that tell the values
abbrev pub value_rules : (names : List (List ℕ)) → List Rule → List Rule
value_rules names rules = drop (length names) (drop (plain_count names rules) rules)

-- ---- their lines

-- the first of the names whose field this is
abbrev pub name_in : (names : List (List ℕ)) → (field : List ℕ) → List ℕ
name_in [] field = []
name_in (name ∷ names) field = if is_field_of field name then name else name_in names field

-- `NAME FMT`; no other action is one of a pair
unfoldable pub value_words : (names : List (List ℕ)) → Action → List (List ℕ)
value_words names (actions.SetHeader field fmt) = name_in names field ∷ format_text fmt ∷ []
value_words names _ = []

unfoldable pub pair_line : (keys names : List (List ℕ)) → Rule → List ℕ
pair_line keys names rule = line_text (codes "fcgi-param" ∷ value_words names rule.action ++ end_words keys rule.cond)

abbrev pub pairs_text : (keys names : List (List ℕ)) → List Rule → List ℕ
pairs_text keys names rules = flat_map (pair_line keys names) rules
