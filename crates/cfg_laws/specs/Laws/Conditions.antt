-- Conditions of a canonical text, and what is read of them.
use Rattle.std.specs.Prelude.{◌≡◌, ℕ, true, Bool, ◌&&◌, nat_lt, List, [], ◌∷◌, length, Some, Ok}
use Rattle.std.specs.List.{list_all}
use Rattle.acl_eval.specs.declared.condition.Term.{Term}
use Rattle.acl_eval.specs.declared.condition.Cond.{Cond}
use Rattle.cfg_expr.specs.declared.side.Side.{Side}
use Rattle.cfg_expr.specs.declared.condition.written.AclLine.{AclLine}
use Rattle.cfg_expr.specs.Condition.Lines.{named_tests}
use Rattle.cfg_expr.specs.Condition.Conditions.{rule_end}
use Rattle.cfg_print.specs.Table.{key_of, name_for}
use Rattle.cfg_print.specs.Rules.{end_words}

-- the name of each term says its tests, among these lines
abbrev pub AreNamed : Side → List AclLine → (keys : List (List ℕ)) → List Term → Type 0
AreNamed side lines keys [] = Unit {0}
AreNamed side lines keys (term ∷ terms) = (named_tests side lines (name_for keys (key_of term)) ≡ Ok term.tests) × AreNamed side lines keys terms

-- the same of groups
abbrev pub AreAllNamed : Side → List AclLine → (keys : List (List ℕ)) → List (List Term) → Type 0
AreAllNamed side lines keys [] = Unit {0}
AreAllNamed side lines keys (group ∷ groups) = AreNamed side lines keys group × AreAllNamed side lines keys groups

abbrev pub has_term : List Term → Bool
has_term group = nat_lt 0 (length group)

-- there is a group, and none without a term
abbrev pub are_groups : List (List Term) → Bool
are_groups groups = nat_lt 0 (length groups) && list_all has_term groups

-- a condition by names is read back, where each of its names says the tests that it stands for
abbrev pub ConditionsReadBack : Type 0
ConditionsReadBack = (side : Side) (lines : List AclLine) (keys : List (List ℕ)) (cond : Cond) → are_groups cond.groups ≡ true → AreAllNamed side lines keys cond.groups
    → rule_end side lines (end_words keys (Some cond)) ≡ record { asks = []; gives = Ok (Some cond) }
