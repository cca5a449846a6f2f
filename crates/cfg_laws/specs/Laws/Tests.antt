-- Tests of a canonical text, and what is read of them.
use Rattle.std.specs.Prelude.{◌≡◌, ℕ, true, List, [], ◌∷◌, ◌++◌, Ok}
use Rattle.std.specs.List.{flat_map}
use Rattle.px_pattern.specs.Pattern.{Pattern}
use Rattle.acl_eval.specs.declared.condition.TestValue.{TestValue}
use Rattle.acl_eval.specs.declared.condition.TestValue.TheVariants as values
use Rattle.acl_eval.specs.declared.condition.Test.{Test}
use Rattle.cfg_expr.specs.declared.side.Side.{Side}
use Rattle.cfg_expr.specs.declared.source.Source.TheVariants.{Of}
use Rattle.cfg_expr.specs.declared.condition.written.WrittenTest.{WrittenTest}
use Rattle.cfg_expr.specs.Sides.{is_on}
use Rattle.cfg_expr.specs.Condition.Lines.{declared_name, test_on}
use Rattle.cfg_expr.specs.Condition.Conditions.{line_read}
use Rattle.cfg_print.specs.Conditions.{test_words}
use Rattle.cfg_laws.specs.Spelled.{is_spelled_test}
use Rattle.cfg_laws.specs.Laws.Exprs.{expr_patterns}

-- ---- patterns

-- the pattern of a value
abbrev pub value_patterns : TestValue → List Pattern
value_patterns (values.Range low high) = []
value_patterns (values.Literal text) = []
value_patterns (values.Pattern pat) = pat ∷ []

-- the patterns of a test, in its order
abbrev pub test_patterns : Test → List Pattern
test_patterns test = expr_patterns test.expr ++ flat_map value_patterns test.values

-- ---- laws

-- a test before a direction is chosen
abbrev pub written_test : Test → WrittenTest
written_test test = record {
  written = record { source = Of test.expr.fetch; convs = test.expr.convs };
  how = test.how;
  icase = test.icase;
  values = test.values;
}

-- an `acl` line is read back, with the patterns that its test has
abbrev pub AclLinesReadBack : Type 0
AclLinesReadBack = (name : List ℕ) (test : Test) → declared_name name ≡ Ok name → is_spelled_test test ≡ true
    → line_read (name ∷ test_words test) ≡ record { asks = test_patterns test; gives = Ok (record { name = name; test = written_test test }) }

-- the test is the same again in a direction that has its fetch
abbrev pub TestsReadBack : Type 0
TestsReadBack = (side : Side) (test : Test) → is_on side test.expr.fetch ≡ true → test_on side (written_test test) ≡ Ok test
