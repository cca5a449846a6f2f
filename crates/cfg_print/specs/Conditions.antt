-- The words of a test: CRITERION FLAGS VALUES, with each flag written (Configuration Manual, section 7.1).
use Rattle.std.specs.Prelude.{ℕ, ℤ, List, [], ◌∷◌, ◌++◌, map, Bool, true, false, ◌==◌, Option, Some, None, if◌then◌else◌, codes}
use Rattle.std.specs.Fmt.{signed_decimal}
use Rattle.std.specs.Ordering.{int_eq}
use Rattle.acl_eval.specs.declared.condition.Match.{Match}
use Rattle.acl_eval.specs.declared.condition.Match.TheVariants as matches
use Rattle.acl_eval.specs.declared.condition.TestValue.{TestValue}
use Rattle.acl_eval.specs.declared.condition.TestValue.TheVariants as values
use Rattle.acl_eval.specs.declared.condition.Test.{Test}
use Rattle.cfg_print.specs.Exprs.{expr_text}

-- the name of a match
abbrev pub match_text : Match → List ℕ
match_text matches.Found = codes "found"
match_text matches.Bool = codes "bool"
match_text matches.Int = codes "int"
match_text matches.Len = codes "len"
match_text matches.Str = codes "str"
match_text matches.Beg = codes "beg"
match_text matches.End = codes "end"
match_text matches.Sub = codes "sub"
match_text matches.Reg = codes "reg"

-- a bound, or nothing
abbrev pub bound_text : Option ℤ → List ℕ
bound_text None = []
bound_text (Some n) = signed_decimal n

-- the same number below and above
abbrev pub is_one_number : Option ℤ → Option ℤ → Bool
is_one_number (Some low) (Some high) = int_eq low high
is_one_number _ _ = false

-- LOW:HIGH, or the number alone where both are the same
unfoldable pub range_text : Option ℤ → Option ℤ → List ℕ
range_text low high = if is_one_number low high then bound_text low else bound_text low ++ 58 ∷ bound_text high

-- the word of a value
unfoldable pub value_word : TestValue → List ℕ
value_word (values.Range low high) = range_text low high
value_word (values.Literal text) = text
value_word (values.Pattern pat) = pat.text

abbrev pub value_words : List TestValue → List (List ℕ)
value_words values = map value_word values

-- it begins with `-`, as a flag does
abbrev pub is_dashed : List ℕ → Bool
is_dashed [] = false
is_dashed (b ∷ rest) = b == 45

-- values, behind `--` where the first of them looks like a flag
abbrev pub behind_flags : List (List ℕ) → List (List ℕ)
behind_flags [] = []
behind_flags (word ∷ others) = if is_dashed word then codes "--" ∷ word ∷ others else word ∷ others

abbrev pub icase_words : Bool → List (List ℕ)
icase_words true = codes "-i" ∷ []
icase_words false = []

-- the words of a test
unfoldable pub test_words : Test → List (List ℕ)
test_words test =
    expr_text test.expr ∷ codes "-m" ∷ match_text test.how ∷ icase_words test.icase ++ behind_flags (value_words test.values)
