-- The words of a rule: its action, and its condition by the names of the table (Configuration Manual, sections 4.2 and 7.2).
use Rattle.std.specs.Prelude.{ℕ, List, [], ◌∷◌, ◌++◌, map, Bool, true, false, Option, Some, None, codes}
use Rattle.std.specs.List.{flat_map}
use Rattle.acl_eval.specs.declared.condition.Term.{Term}
use Rattle.acl_eval.specs.declared.condition.Cond.{Cond}
use Rattle.http_rules.specs.declared.rule.rule.Rule.{Rule}
use Rattle.cfg_print.specs.Words.{line_text}
use Rattle.cfg_print.specs.Table.{key_of, name_for}
use Rattle.cfg_print.specs.Actions.{action_words}

-- ---- conditions

abbrev pub mark : Bool → List ℕ
mark true = codes "!"
mark false = []

-- the name of a term's tests, behind `!` where they are negated
abbrev pub term_word : (keys : List (List ℕ)) → Term → List ℕ
term_word keys term = mark term.not ++ name_for keys (key_of term)

abbrev pub group_words : (keys : List (List ℕ)) → List Term → List (List ℕ)
group_words keys terms = map (term_word keys) terms

-- groups behind the first, each behind `||`
abbrev pub joined_words : (keys : List (List ℕ)) → List Term → List (List ℕ)
joined_words keys terms = codes "||" ∷ group_words keys terms

unfoldable pub groups_words : (keys : List (List ℕ)) → List (List Term) → List (List ℕ)
groups_words keys [] = []
groups_words keys (group ∷ others) = group_words keys group ++ flat_map (joined_words keys) others

abbrev pub sense : (unless : Bool) → List ℕ
sense true = codes "unless"
sense false = codes "if"

-- what ends a rule
unfoldable pub end_words : (keys : List (List ℕ)) → Option Cond → List (List ℕ)
end_words keys None = []
end_words keys (Some cond) = sense cond.unless ∷ groups_words keys cond.groups

-- ---- rules

-- the words behind `http-request` and its like
abbrev pub rule_words : (keys : List (List ℕ)) → Rule → List (List ℕ)
rule_words keys rule = action_words rule.action ++ end_words keys rule.cond

-- the line of a rule of this list
unfoldable pub rule_line : (keys : List (List ℕ)) → (list : List ℕ) → Rule → List ℕ
rule_line keys list rule = line_text (list ∷ rule_words keys rule)

-- the lines of rules
abbrev pub rules_text : (keys : List (List ℕ)) → (list : List ℕ) → List Rule → List ℕ
rules_text keys list rules = flat_map (rule_line keys list) rules
