-- Tests as they are spelled, and read.
use Rattle.std.proofs.Common.{◌≡◌, ℕ, ◌≤◌, Bool, true, false, cond, List, [], ◌∷◌, ◌++◌, length, refl, sym, ap, ◌∙◌, append_assoc, arith}
use Rattle.std.proofs.lemmas.Bool.{false≢true, leb-true, not-true, eqb-true}
use Rattle.std.proofs.lemmas.List.{append-nil}
use Rattle.std.specs.Prelude.{◌==◌, ◌&&◌, nat_le, nat_lt, Some, None, Ok, codes}
use Rattle.std.specs.List.{list_all, flat_map}
use Rattle.std.specs.Str.{bytes_eq}
use Rattle.px_peer.specs.Names.{src_name, src_port_name}
use Rattle.px_pattern.specs.Pattern.{Pattern}
use Rattle.px_sample.specs.declared.scope.Scope.{Scope}
use Rattle.px_sample.specs.declared.fetch.Fetch.{Fetch}
use Rattle.px_sample.specs.declared.fetch.Fetch.TheVariants as fetches
use Rattle.px_conv.specs.declared.conv.Conv.{Conv}
use Rattle.acl_eval.specs.declared.condition.Match.{Match}
use Rattle.acl_eval.specs.declared.condition.Match.TheVariants as matches
use Rattle.acl_eval.specs.declared.condition.TestValue.{TestValue}
use Rattle.acl_eval.specs.declared.condition.TestValue.TheVariants as values
use Rattle.acl_eval.specs.declared.condition.Test.{Test}
use Rattle.cfg_expr.specs.declared.side.Side.{Side}
use Rattle.cfg_expr.specs.declared.source.Source.TheVariants.{Of}
use Rattle.cfg_expr.specs.declared.condition.written.WrittenTest.{WrittenTest}
use Rattle.cfg_expr.specs.declared.condition.written.AclLine.{AclLine}
use Rattle.cfg_expr.specs.Reading.{plain, built, ◌>>=◌}
use Rattle.cfg_expr.specs.Faults.{Told, TextReading}
use Rattle.cfg_expr.specs.Sides.{is_on}
use Rattle.cfg_expr.specs.Fetches.{source_of, placed_source}
use Rattle.cfg_expr.specs.Exprs.{convs_at, ended, most_convs}
use Rattle.cfg_expr.specs.Condition.Values.{no_ranges, ranges_from, literals}
use Rattle.cfg_expr.specs.Condition.Flags.{match_of, flag_of, no_flags, flags_from}
use Rattle.cfg_expr.specs.Condition.Tests.{takes_suffix, match_in, fetch_form, convs_to_end, criterion_of, patterns_from, values_of, flagged_test, test_behind, test_of}
use Rattle.cfg_expr.specs.Condition.Lines.{with_fetch, declared_name, test_on}
use Rattle.cfg_expr.specs.Condition.Conditions.{line_read}
use Rattle.cfg_print.specs.Exprs.{Call, variable_call, fetch_call, conv_text, expr_text, bare, call, variable_text}
use Rattle.cfg_print.specs.Conditions.{match_text, value_word, value_words, is_dashed, behind_flags, icase_words, test_words}
use Rattle.cfg_laws.specs.Spelled.{is_range, is_text, is_same, is_pattern, are_values, is_spelled_fetch, is_spelled_conv, is_spelled_expr, is_spelled_test, is_end}
use Rattle.cfg_laws.specs.Laws.Calls.{form}
use Rattle.cfg_laws.specs.Laws.Exprs.{conv_patterns, expr_patterns}
use Rattle.cfg_laws.specs.Laws.Tests.{value_patterns, test_patterns, written_test}
use Rattle.cfg_laws.proofs.LawLemmas.Words.{both_left, both_right}
use Rattle.cfg_laws.proofs.LawLemmas.Calls.{call_back, ends_any}
use Rattle.cfg_laws.proofs.LawLemmas.Fetches.{fetch_back}
use Rattle.cfg_laws.proofs.LawLemmas.Convs.{found, convs_back}
use Rattle.cfg_laws.proofs.LawLemmas.Exprs.{on_side_is}
use Rattle.cfg_laws.proofs.LawLemmas.Ranges.{ranges_back}

-- ---- flags

match_flag : (how : Match) (others : List (List ℕ)) → flags_from false no_flags (codes "-m" ∷ match_text how ∷ others) ≡ flags_from false (record no_flags { how = Some how }) others
unfolding flag_of match_of
match_flag matches.Found others = refl
match_flag matches.Bool others = refl
match_flag matches.Int others = refl
match_flag matches.Len others = refl
match_flag matches.Str others = refl
match_flag matches.Beg others = refl
match_flag matches.End others = refl
match_flag matches.Sub others = refl
match_flag matches.Reg others = refl

case_flag : (how : Match) (icase : Bool) (others : List (List ℕ)) → flags_from false (record no_flags { how = Some how }) (icase_words icase ++ others) ≡ flags_from false (record no_flags { how = Some how; icase = icase }) others
unfolding flag_of
case_flag how true others = refl
case_flag how false others = refl

value_flag : (how : Match) (icase : Bool) (word : List ℕ) (others : List (List ℕ)) → is_dashed word ≡ false
    → flags_from false (record no_flags { how = Some how; icase = icase }) (word ∷ others) ≡ Ok (record no_flags { how = Some how; icase = icase }, word ∷ others)
unfolding flag_of
value_flag how icase [] others h = refl
value_flag how icase (b ∷ word) others h = rw h refl

by_dash : (how : Match) (icase : Bool) (word : List ℕ) (others : List (List ℕ)) (t : Bool) → is_dashed word ≡ t
    → flags_from false (record no_flags { how = Some how; icase = icase }) (cond t (codes "--" ∷ word ∷ others) (word ∷ others)) ≡ Ok (record no_flags { how = Some how; icase = icase }, word ∷ others)
unfolding flag_of
by_dash how icase word others true h = refl
by_dash how icase word others false h = value_flag how icase word others h

end_flags : (how : Match) (icase : Bool) (words : List (List ℕ))
    → flags_from false (record no_flags { how = Some how; icase = icase }) (behind_flags words) ≡ Ok (record no_flags { how = Some how; icase = icase }, words)
end_flags how icase [] = refl
end_flags how icase (word ∷ others) = by_dash how icase word others (is_dashed word) refl

flags_back : (how : Match) (icase : Bool) (words : List (List ℕ))
    → flags_from false no_flags (codes "-m" ∷ match_text how ∷ (icase_words icase ++ behind_flags words)) ≡ Ok (record no_flags { how = Some how; icase = icase }, words)
flags_back how icase words = match_flag how (icase_words icase ++ behind_flags words) ∙ case_flag how icase (behind_flags words) ∙ end_flags how icase words

-- ---- values

texts_back : (tried : List TestValue) → list_all is_text tried ≡ true → literals (value_words tried) ≡ tried
unfolding value_word
texts_back [] h = refl
texts_back (values.Range low high ∷ tried) h = absurd (false≢true h)
texts_back (values.Literal text ∷ tried) h = ap (λ l. values.Literal text ∷ l) (texts_back tried h)
texts_back (values.Pattern pat ∷ tried) h = absurd (false≢true h)

-- texts and ranges ask for nothing
no_text_patterns : (tried : List TestValue) → list_all is_text tried ≡ true → flat_map value_patterns tried ≡ []
no_text_patterns [] h = refl
no_text_patterns (values.Range low high ∷ tried) h = absurd (false≢true h)
no_text_patterns (values.Literal text ∷ tried) h = no_text_patterns tried h
no_text_patterns (values.Pattern pat ∷ tried) h = absurd (false≢true h)

no_range_patterns : (tried : List TestValue) → list_all is_range tried ≡ true → flat_map value_patterns tried ≡ []
no_range_patterns [] h = refl
no_range_patterns (values.Range low high ∷ tried) h = no_range_patterns tried (both_right (is_range (values.Range low high)) (list_all is_range tried) h)
no_range_patterns (values.Literal text ∷ tried) h = absurd (false≢true h)
no_range_patterns (values.Pattern pat ∷ tried) h = absurd (false≢true h)

same_case : (a b : Bool) → is_same a b ≡ true → a ≡ b
same_case true b h = sym h
same_case false b h = sym (not-true b h)

patterns_back : (icase : Bool) (so_far tried : List TestValue) → list_all (is_pattern icase) tried ≡ true
    → patterns_from icase so_far (value_words tried) ≡ found (flat_map value_patterns tried) (so_far ++ tried)
unfolding patterns_from value_word
patterns_back icase so_far [] h = ap (λ all. found [] all) (sym (append-nil so_far))
patterns_back icase so_far (values.Range low high ∷ tried) h = absurd (false≢true h)
patterns_back icase so_far (values.Literal text ∷ tried) h = absurd (false≢true h)
patterns_back icase so_far (values.Pattern pat ∷ tried) h =
    let same = same_case icase pat.icase (both_left (is_same icase pat.icase) (list_all (is_pattern icase) tried) h) in
    let next : Bool → TextReading (List TestValue) = λ case. built (record { text = pat.text; icase = case }) >>= λ p. patterns_from icase (so_far ++ values.Pattern p ∷ []) (value_words tried) in
    ap next same
    ∙ ap (λ (r : TextReading (List TestValue)). record { asks = pat ∷ r.asks; gives = r.gives })
    (patterns_back icase (so_far ++ values.Pattern pat ∷ []) tried (both_right (is_same icase pat.icase) (list_all (is_pattern icase) tried) h))
    ∙ ap (λ all. found (flat_map value_patterns (values.Pattern pat ∷ tried)) all) (append_assoc so_far (values.Pattern pat ∷ []) tried)

-- what values of a match come to
abbrev AreRead : Match → Bool → List TestValue → Type 0
AreRead how icase tried = values_of how icase (value_words tried) ≡ found (flat_map value_patterns tried) tried

some_ranges : (tried : List TestValue) → list_all is_range tried ≡ true → plain (ranges_from no_ranges (value_words tried)) ≡ found {A = List TestValue} (flat_map value_patterns tried) tried
some_ranges tried h = ap plain (ranges_back [] tried h) ∙ ap (λ asks. found asks tried) (sym (no_range_patterns tried h))

some_texts : (tried : List TestValue) → list_all is_text tried ≡ true → found {A = List TestValue} [] (literals (value_words tried)) ≡ found (flat_map value_patterns tried) tried
some_texts tried h = ap (λ all. found [] all) (texts_back tried h) ∙ ap (λ asks. found asks tried) (sym (no_text_patterns tried h))

some_length : (value : TestValue) (tried : List TestValue) → (length (value ∷ tried) == 0) ≡ true → ⊥
some_length value tried h = let none = eqb-true (length (value ∷ tried)) 0 h in omega (arith, none)

values_back : (how : Match) (icase : Bool) (tried : List TestValue) → are_values how icase tried ≡ true → AreRead how icase tried
unfolding values_of
values_back matches.Found icase [] h = refl
values_back matches.Found icase (value ∷ tried) h = absurd (some_length value tried h)
values_back matches.Bool icase [] h = refl
values_back matches.Bool icase (value ∷ tried) h = absurd (some_length value tried h)
values_back matches.Int icase [] h = absurd (false≢true h)
values_back matches.Int icase (value ∷ tried) h = some_ranges (value ∷ tried) (both_right (nat_lt 0 (length (value ∷ tried))) (list_all is_range (value ∷ tried)) h)
values_back matches.Len icase [] h = absurd (false≢true h)
values_back matches.Len icase (value ∷ tried) h = some_ranges (value ∷ tried) (both_right (nat_lt 0 (length (value ∷ tried))) (list_all is_range (value ∷ tried)) h)
values_back matches.Str icase [] h = absurd (false≢true h)
values_back matches.Str icase (value ∷ tried) h = some_texts (value ∷ tried) (both_right (nat_lt 0 (length (value ∷ tried))) (list_all is_text (value ∷ tried)) h)
values_back matches.Beg icase [] h = absurd (false≢true h)
values_back matches.Beg icase (value ∷ tried) h = some_texts (value ∷ tried) (both_right (nat_lt 0 (length (value ∷ tried))) (list_all is_text (value ∷ tried)) h)
values_back matches.End icase [] h = absurd (false≢true h)
values_back matches.End icase (value ∷ tried) h = some_texts (value ∷ tried) (both_right (nat_lt 0 (length (value ∷ tried))) (list_all is_text (value ∷ tried)) h)
values_back matches.Sub icase [] h = absurd (false≢true h)
values_back matches.Sub icase (value ∷ tried) h = some_texts (value ∷ tried) (both_right (nat_lt 0 (length (value ∷ tried))) (list_all is_text (value ∷ tried)) h)
values_back matches.Reg icase [] h = absurd (false≢true h)
values_back matches.Reg icase (value ∷ tried) h = patterns_back icase [] (value ∷ tried) (both_right (nat_lt 0 (length (value ∷ tried))) (list_all (is_pattern icase) (value ∷ tried)) h)

-- ---- the criterion

-- no match stands behind the name
var_plain : (scope : Scope) (name : List ℕ) (t u : Bool) → match_in (cond t (bare (codes "src")) (cond u (bare (codes "src_port")) (call (codes "var") (variable_text scope name ∷ [])))).name ≡ None
unfolding match_in takes_suffix
var_plain scope name true u = refl
var_plain scope name false true = refl
var_plain scope name false false = refl

name_plain : (fetch : Fetch) → match_in (fetch_call fetch).name ≡ None
unfolding fetch_call variable_call match_in takes_suffix
name_plain (fetches.ReqHdr name occ) = refl
name_plain (fetches.ResHdr name occ) = refl
name_plain (fetches.ReqFhdr name occ) = refl
name_plain (fetches.ResFhdr name occ) = refl
name_plain (fetches.ReqHdrCnt name) = refl
name_plain (fetches.ResHdrCnt name) = refl
name_plain fetches.Path = refl
name_plain fetches.Query = refl
name_plain fetches.Pathq = refl
name_plain fetches.Url = refl
name_plain fetches.Base = refl
name_plain (fetches.UrlParam name) = refl
name_plain fetches.Method = refl
name_plain fetches.ReqVer = refl
name_plain fetches.ResVer = refl
name_plain fetches.Status = refl
name_plain (fetches.Var scope name) = var_plain scope name (bytes_eq name src_name) (bytes_eq name src_port_name)
name_plain (fetches.Str text) = refl
name_plain (fetches.Int n) = refl
name_plain (fetches.Bool b) = refl
name_plain fetches.AlwaysTrue = refl
name_plain fetches.AlwaysFalse = refl

convs_whole : (list : List Conv) → list_all is_spelled_conv list ≡ true → length list ≤ 16 → convs_to_end (flat_map conv_text list) ≡ found (flat_map conv_patterns list) list
unfolding convs_to_end
convs_whole list h few =
    let read = λ (r : TextReading (List Conv × List ℕ)). r >>= λ convs. plain (ended convs.1) >>= λ end. plain (Ok convs.0) in
    ap (λ text. read (convs_at text)) (sym (append-nil (flat_map conv_text list))) ∙ ap read (convs_back 16 [] list [] few h refl)
    ∙ ap (λ asks. found asks list) (append-nil (flat_map conv_patterns list))

convs_ends : (list : List Conv) → is_end (flat_map conv_text list) ≡ true
convs_ends [] = refl
convs_ends (conv ∷ list) = refl

-- a form whose name has no match behind it
placed : (fetch : Fetch) (call : Call) (rest : List ℕ) → source_of call.name call.arguments ≡ Ok (Of fetch) → match_in call.name ≡ None
    → placed_source None (fetch_form (form call rest)) ≡ Ok (Of fetch, rest)
placed fetch call rest is none = rw none (rw is refl)

-- what is asked for by steps, without those that ask for nothing
asked : (front behind : List Pattern) → (front ++ []) ++ (behind ++ []) ≡ front ++ behind
asked front behind = ap (λ l. l ++ (behind ++ [])) (append-nil front) ∙ ap (λ l. front ++ l) (append-nil behind)

test_back : (test : Test) → is_spelled_test test ≡ true
    → test_of None (expr_text test.expr) (codes "-m" ∷ match_text test.how ∷ (icase_words test.icase ++ behind_flags (value_words test.values))) ≡ found (test_patterns test) (written_test test)
unfolding test_of criterion_of test_behind flagged_test expr_text
test_back test h =
    let expr = both_left (is_spelled_expr test.expr) (are_values test.how test.icase test.values) h in
    let fetch = test.expr.fetch in
    let list = test.expr.convs in
    let one = fetch_back fetch (both_left (is_spelled_fetch fetch) (list_all is_spelled_conv list && nat_le (length list) most_convs) expr) in
    let others = both_right (is_spelled_fetch fetch) (list_all is_spelled_conv list && nat_le (length list) most_convs) expr in
    let convs = convs_whole list (both_left (list_all is_spelled_conv list) (nat_le (length list) most_convs) others) (leb-true (length list) 16 (both_right (list_all is_spelled_conv list) (nat_le (length list) most_convs) others)) in
    let behind = flat_map conv_text list in
    let call = fetch_call fetch in
    let whole = call_back call behind one.1 (ends_any call.arguments behind (convs_ends list)) in
    let source = placed fetch call behind one.0 (name_plain fetch) in
    let none = name_plain fetch in
    let flags = flags_back test.how test.icase (value_words test.values) in
    let tried = values_back test.how test.icase test.values (both_right (is_spelled_expr test.expr) (are_values test.how test.icase test.values) h) in
    rw whole (rw source (rw convs (rw none (rw flags (rw tried (ap (λ asks. found asks (written_test test)) (asked (expr_patterns test.expr) (flat_map value_patterns test.values))))))))

abbrev line_of : List ℕ → WrittenTest → AclLine
line_of name test = record { name = name; test = test }

-- a line is read back
pub acl_line_back : (name : List ℕ) (test : Test) → declared_name name ≡ Ok name → is_spelled_test test ≡ true
    → line_read (name ∷ test_words test) ≡ found (test_patterns test) (record { name = name; test = written_test test })
unfolding line_read test_words
acl_line_back name test own h =
    let words = codes "-m" ∷ match_text test.how ∷ (icase_words test.icase ++ behind_flags (value_words test.values)) in
    ap (λ (told : Told (List ℕ)). plain told >>= λ n. test_of None (expr_text test.expr) words >>= λ t. plain (Ok (line_of n t))) own
    ∙ ap (λ (r : TextReading WrittenTest). r >>= λ t. plain (Ok (line_of name t))) (test_back test h)
    ∙ ap (λ asks. found asks (line_of name (written_test test))) (append-nil (test_patterns test))

-- and its test, in a direction
pub test_in_direction : (side : Side) (test : Test) → is_on side test.expr.fetch ≡ true → test_on side (written_test test) ≡ Ok test
test_in_direction side test on = ap (with_fetch (written_test test)) (on_side_is side test.expr.fetch on)
