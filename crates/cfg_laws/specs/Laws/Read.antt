-- What is read from any text can be said again: it meets the premises of the laws on what is read back.
use Rattle.std.specs.Prelude.{◌≡◌, ℕ, ℤ, Bool, true, ◌&&◌, List, [], ◌∷◌, Option, Some, Ok}
use Rattle.std.specs.List.{list_all}
use Rattle.px_sample.specs.Cast.{number_of_text}
use Rattle.px_sample.specs.declared.scope.Scope.{Scope}
use Rattle.px_sample.specs.declared.fetch.Fetch.{Fetch}
use Rattle.px_conv.specs.declared.conv.Conv.{Conv}
use Rattle.px_expr.specs.declared.expr.Expr.{Expr}
use Rattle.log_format.specs.declared.fmt.Fmt.{Fmt}
use Rattle.acl_eval.specs.declared.condition.Test.{Test}
use Rattle.acl_eval.specs.declared.condition.Term.{Term}
use Rattle.acl_eval.specs.declared.condition.Cond.{Cond}
use Rattle.cfg_expr.specs.declared.condition.written.WrittenTest.{WrittenTest}
use Rattle.cfg_expr.specs.declared.condition.written.AclLine.{AclLine}
use Rattle.cfg_expr.specs.declared.source.Source.{Source}
use Rattle.cfg_expr.specs.declared.side.Side.{Side}
use Rattle.cfg_expr.specs.Sides.{is_on, on_side}
use Rattle.cfg_expr.specs.Calls.{Form, form_in}
use Rattle.cfg_expr.specs.Fetches.{count, occurrence, field_name, variable_of, source_of}
use Rattle.cfg_expr.specs.Exprs.{conv_of, expr_at, expr_of}
use Rattle.cfg_expr.specs.Formats.{format_of}
use Rattle.cfg_expr.specs.Condition.Tests.{test_of}
use Rattle.cfg_expr.specs.Condition.Lines.{test_on, named_tests}
use Rattle.cfg_expr.specs.Condition.Conditions.{acl_line, rule_end}
use Rattle.cfg_laws.specs.Laws.Conditions.{are_groups}
use Rattle.cfg_laws.specs.Spelled.{is_spellable, is_spellable_call, is_within, is_count, is_occurrence, is_field, is_variable, is_spelled_fetch, is_spelled_conv, is_spelled, is_spelled_format, is_spelled_test}

-- ---- arguments

-- a whole name with at most three arguments, each of which can be said
abbrev pub CallsAreSpelled : Type 0
CallsAreSpelled = (text : List ℕ) (form : Form) → form_in text ≡ Some form → is_spellable_call (record { name = form.name; arguments = form.args }) ≡ true

-- a number within 64 bits
abbrev pub NumbersAreSpelled : Type 0
NumbersAreSpelled = (text : List ℕ) (n : ℤ) → number_of_text text ≡ Some n → is_within n ≡ true

abbrev pub CountsAreSpelled : Type 0
CountsAreSpelled = (text : List ℕ) (n : ℤ) → count text ≡ Ok n → is_count n ≡ true

abbrev pub OccurrencesAreSpelled : Type 0
OccurrencesAreSpelled = (text : List ℕ) (n : ℤ) → occurrence text ≡ Ok n → is_occurrence n ≡ true

-- the name of a field, in an argument
abbrev pub FieldsAreSpelled : Type 0
FieldsAreSpelled = (text name : List ℕ) → is_spellable text ≡ true → field_name text ≡ Ok name → is_field name ≡ true

abbrev pub VariablesAreSpelled : Type 0
VariablesAreSpelled = (text : List ℕ) (scope : Scope) (name : List ℕ) → variable_of text ≡ Some (scope, name) → is_variable scope name ≡ true

-- ---- fetches and converters

-- a fetch of a direction
abbrev pub FetchesAreSpelled : Type 0
FetchesAreSpelled = (side : Side) (name : List ℕ) (args : List (List ℕ)) (source : Source) (fetch : Fetch)
    → list_all is_spellable args ≡ true → source_of name args ≡ Ok source → on_side side source ≡ Some fetch → (is_spelled_fetch fetch && is_on side fetch) ≡ true

-- a converter
abbrev pub ConvsAreSpelled : Type 0
ConvsAreSpelled = (name : List ℕ) (args : List (List ℕ)) (conv : Conv) → list_all is_spellable args ≡ true → (conv_of name args).gives ≡ Ok conv → is_spelled_conv conv ≡ true

-- ---- expressions

-- an expression, whatever is behind it
abbrev pub ExprsAreSpelled : Type 0
ExprsAreSpelled = (side : Side) (text : List ℕ) (expr : Expr) (rest : List ℕ) → (expr_at side text).gives ≡ Ok (expr, rest) → is_spelled side expr ≡ true

-- a text that is an expression
abbrev pub WholeExprsAreSpelled : Type 0
WholeExprsAreSpelled = (side : Side) (text : List ℕ) (expr : Expr) → (expr_of side text).gives ≡ Ok expr → is_spelled side expr ≡ true

-- ---- formats

-- a text that is a format
abbrev pub FormatsAreSpelled : Type 0
FormatsAreSpelled = (side : Side) (text : List ℕ) (fmt : Fmt) → (format_of side text).gives ≡ Ok fmt → is_spelled_format side fmt ≡ true

-- ---- tests

-- a test that lines of this direction can say
abbrev pub is_spelled_on : Side → Test → Bool
is_spelled_on side test = is_spelled_test test && is_on side test.expr.fetch

-- a test, in a direction that has its fetch
abbrev pub TestsAreSpelled : Type 0
TestsAreSpelled = (place : Option Side) (word : List ℕ) (others : List (List ℕ)) (written : WrittenTest) (side : Side) (test : Test)
    → (test_of place word others).gives ≡ Ok written → test_on side written ≡ Ok test → is_spelled_on side test ≡ true

-- lines whose tests can be said, as those that were read
abbrev pub AreSpelledLines : Side → List AclLine → Type 0
AreSpelledLines side [] = Unit {0}
AreSpelledLines side (line ∷ lines) = ((test : Test) → test_on side line.test ≡ Ok test → is_spelled_on side test ≡ true) × AreSpelledLines side lines

-- the tests that a name stands for
abbrev pub NamesAreSpelled : Type 0
NamesAreSpelled = (side : Side) (lines : List AclLine) (name : List ℕ) (tests : List Test) → AreSpelledLines side lines → named_tests side lines name ≡ Ok tests → list_all (is_spelled_on side) tests ≡ true

-- the lines with one more that was read
abbrev pub LinesAreSpelled : Type 0
LinesAreSpelled = (side : Side) (lines more : List AclLine) (words : List (List ℕ)) → AreSpelledLines side lines → (acl_line lines words).gives ≡ Ok more → AreSpelledLines side more

-- ---- conditions

-- a term whose tests can be said
abbrev pub is_spelled_term : Side → Term → Bool
is_spelled_term side term = list_all (is_spelled_on side) term.tests

-- a condition whose terms can be said
abbrev pub is_spelled_cond : Side → Cond → Bool
is_spelled_cond side cond = are_groups cond.groups && list_all (list_all (is_spelled_term side)) cond.groups

-- a condition that ends a rule
abbrev pub CondsAreSpelled : Type 0
CondsAreSpelled = (side : Side) (lines : List AclLine) (words : List (List ℕ)) (cond : Cond) → AreSpelledLines side lines → (rule_end side lines words).gives ≡ Ok (Some cond) → is_spelled_cond side cond ≡ true
