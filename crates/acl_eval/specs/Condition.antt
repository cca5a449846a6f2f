-- Whether a condition holds, over the samples of fetches (Configuration Manual, section 7.2).
use Rattle.std.specs.Prelude.{ℕ, Bool, true, false, not, ◌||◌, List, Option}
use Rattle.std.specs.List.{list_any, list_all}
use Rattle.px_sample.specs.Sample.{Value}
use Rattle.px_sample.specs.declared.fetch.Fetch.{Fetch}
use Rattle.px_expr.specs.Expr as exprs
use Rattle.acl_eval.specs.Matches.{sample_matches, is_pattern}
use Rattle.acl_eval.specs.declared.condition.Test.{Test}
use Rattle.acl_eval.specs.declared.condition.Term.{Term}
use Rattle.acl_eval.specs.declared.condition.Cond.{Cond}

-- some sample of the test's expression matches some value
abbrev pub test_holds : (cap : ℕ) → (given : Fetch → List (Option Value)) → Test → Bool
test_holds cap given test = list_any (sample_matches cap test) (exprs.samples cap given test.expr)

-- a truth that is turned where it is negated
abbrev pub turned : (negated : Bool) → Bool → Bool
turned false truth = truth
turned true truth = not truth

-- some test of the term holds, or none where `!` stands in front
abbrev pub term_holds : (cap : ℕ) → (given : Fetch → List (Option Value)) → Term → Bool
term_holds cap given term = turned term.not (list_any (test_holds cap given) term.tests)

-- each term of the group holds
abbrev pub group_holds : (cap : ℕ) → (given : Fetch → List (Option Value)) → List Term → Bool
group_holds cap given terms = list_all (term_holds cap given) terms

-- some group has only terms that hold; `unless` negates the whole
abbrev pub holds : (cap : ℕ) → (given : Fetch → List (Option Value)) → Cond → Bool
holds cap given cond = turned cond.unless (list_any (group_holds cap given) cond.groups)

-- the test's expression holds a pattern, or one of its values is one
abbrev pub test_holds_pattern : Test → Bool
test_holds_pattern test = exprs.holds_pattern test.expr || list_any is_pattern test.values

-- a test of the term does
abbrev pub term_holds_pattern : Term → Bool
term_holds_pattern term = list_any test_holds_pattern term.tests

-- a term of the group does
abbrev pub group_holds_pattern : List Term → Bool
group_holds_pattern terms = list_any term_holds_pattern terms

-- a group of the condition does
abbrev pub holds_pattern : Cond → Bool
holds_pattern cond = list_any group_holds_pattern cond.groups
