-- Actions on fields as they are spelled, and read.
use Rattle.std.proofs.Common.{◌≡◌, ℕ, Bool, true, false, cond, List, [], ◌∷◌, ◌++◌, refl, sym, ap, ◌∙◌}
use Rattle.std.proofs.lemmas.Bool.{not-true}
use Rattle.std.proofs.lemmas.List.{append-nil}
use Rattle.std.specs.Prelude.{◌&&◌, Option, Some}
use Rattle.px_pattern.specs.Pattern.{Pattern}
use Rattle.log_format.specs.declared.fmt.Fmt.{Fmt}
use Rattle.http_rules.specs.declared.rule.action.ActionName.{ActionName}
use Rattle.http_rules.specs.declared.rule.action.DelBy.{DelBy}
use Rattle.http_rules.specs.declared.rule.action.DelBy.TheVariants as dels
use Rattle.http_rules.specs.declared.rule.action.Action.{Action}
use Rattle.http_rules.specs.declared.rule.action.Action.TheVariants as actions
use Rattle.http_rules.specs.Rule.Actions.{takes_pattern, by_text, by_pattern}
use Rattle.http_rules.specs.Rule.Valid.{IsName, IsMadeName, IsGoodDel}
use Rattle.cfg_expr.specs.declared.side.Side.{Side}
use Rattle.cfg_expr.specs.Reading.{plain, ◌>>=◌}
use Rattle.cfg_parse.specs.Action.Faults.{Read, RuleReading}
use Rattle.cfg_parse.specs.Action.Arguments.{Words}
use Rattle.cfg_parse.specs.Action.Plain.{Behind}
use Rattle.cfg_parse.specs.Action.Asked.{format_at}
use Rattle.cfg_parse.specs.Action.Actions.{name_and_format, pattern_and_format, named_by, matched_by, is_match_flag, deleted, deleted_matching, deleted_behind, field_deleted, made_by, replaced_by, known, set_at, changed_at, line_at}
use Rattle.cfg_print.specs.Formats.{format_text}
use Rattle.cfg_print.specs.Actions.{del_words}
use Rattle.cfg_laws.specs.Spelled.{is_spelled_format}
use Rattle.cfg_laws.specs.SpelledActions.{keeps_case, is_spelled_del, ends_action}
use Rattle.cfg_laws.specs.Laws.Formats.{format_patterns}
use Rattle.cfg_laws.specs.Laws.Rules.{del_patterns}
use Rattle.cfg_laws.proofs.LawLemmas.Words.{both_left, both_right}
use Rattle.cfg_laws.proofs.LawLemmas.ActionWords.{gives, behind, left, told, name_back, made_name_back, cased, pattern_back, format_read, by_sense}

-- ---- a name, a pattern and a format

-- a name and a format, with what is behind them
abbrev named : List ℕ → Fmt → Words → List ℕ × Fmt × Words
named name fmt rest = (name, fmt, rest)

abbrev changing : Pattern → Fmt → Words → Pattern × Fmt × Words
changing pat fmt rest = (pat, fmt, rest)

name_and_format_back : (side : Side) (name : List ℕ) (fmt : Fmt) (rest : Words) → IsMadeName name → is_spelled_format side fmt ≡ true
    → name_and_format side (name ∷ format_text fmt ∷ rest) ≡ gives (format_patterns fmt) (named name fmt rest)
unfolding name_and_format
name_and_format_back side name fmt rest is h =
    ap (λ (r : Read (List ℕ × Words)). plain r >>= λ n. format_at side n.1 >>= λ f. plain (told (named n.0 f.0 f.1))) (made_name_back name (format_text fmt ∷ rest) is)
    ∙ ap (λ (r : RuleReading (Fmt × Words)). r >>= λ f. plain (told (named name f.0 f.1))) (format_read side fmt rest h)
    ∙ ap (λ asks. gives asks (named name fmt rest)) (append-nil (format_patterns fmt))

pattern_and_format_back : (side : Side) (pat : Pattern) (fmt : Fmt) (rest : Words) → keeps_case pat ≡ true → is_spelled_format side fmt ≡ true
    → pattern_and_format side (pat.text ∷ format_text fmt ∷ rest) ≡ gives (pat ∷ format_patterns fmt) (changing pat fmt rest)
unfolding pattern_and_format
pattern_and_format_back side pat fmt rest is h =
    ap (λ (r : RuleReading (Pattern × Words)). r >>= λ p. format_at side p.1 >>= λ f. plain (told (changing p.0 f.0 f.1))) (pattern_back pat (format_text fmt ∷ rest) is)
    ∙ ap (λ (r : RuleReading (Fmt × Words)). behind (pat ∷ []) (r >>= λ f. plain (told (changing pat f.0 f.1)))) (format_read side fmt rest h)
    ∙ ap (λ asks. gives (pat ∷ asks) (changing pat fmt rest)) (append-nil (format_patterns fmt))

-- ---- actions

-- a field that a rule makes
pub made_back : (made : List ℕ → Fmt → Action) (side : Side) (name : List ℕ) (fmt : Fmt) (rest : Words) → IsMadeName name → is_spelled_format side fmt ≡ true
    → made_by made side (name ∷ format_text fmt ∷ rest) ≡ gives (format_patterns fmt) (left (made name fmt) rest)
made_back made side name fmt rest is h =
    ap (λ (r : RuleReading (List ℕ × Fmt × Words)). r >>= λ found. plain (told (left (made found.0 found.1) found.2))) (name_and_format_back side name fmt rest is h)
    ∙ ap (λ asks. gives asks (left (made name fmt) rest)) (append-nil (format_patterns fmt))

pub replaced_back : (made : List ℕ → Pattern → Fmt → Action) (side : Side) (name : List ℕ) (pat : Pattern) (fmt : Fmt) (rest : Words) → IsMadeName name → (keeps_case pat && is_spelled_format side fmt) ≡ true
    → replaced_by made side (name ∷ pat.text ∷ format_text fmt ∷ rest) ≡ gives (pat ∷ format_patterns fmt) (left (made name pat fmt) rest)
replaced_back made side name pat fmt rest is h =
    ap (λ (r : Read (List ℕ × Words)). plain r >>= λ n. pattern_and_format side n.1 >>= λ found. plain (told (left (made n.0 found.0 found.1) found.2))) (made_name_back name (pat.text ∷ format_text fmt ∷ rest) is)
    ∙ ap (λ (r : RuleReading (Pattern × Fmt × Words)). r >>= λ found. plain (told (left (made name found.0 found.1) found.2)))
    (pattern_and_format_back side pat fmt rest (both_left (keeps_case pat) (is_spelled_format side fmt) h) (both_right (keeps_case pat) (is_spelled_format side fmt) h))
    ∙ ap (λ asks. gives (pat ∷ asks) (left (made name pat fmt) rest)) (append-nil (format_patterns fmt))

-- a part of a request line that becomes a text
pub set_back : (side : Side) (name : ActionName) (fmt : Fmt) (action : Action) (rest : Words) → takes_pattern name ≡ false → by_text name fmt ≡ Some action → is_spelled_format side fmt ≡ true
    → line_at side name (format_text fmt ∷ rest) ≡ gives (format_patterns fmt) (left action rest)
unfolding line_at set_at
set_back side name fmt action rest none is h =
    ap (λ t. cond t (changed_at side name (format_text fmt ∷ rest)) (set_at side name (format_text fmt ∷ rest))) none
    ∙ ap (λ (r : RuleReading (Fmt × Words)). r >>= λ f. known (by_text name f.0) f.1) (format_read side fmt rest h)
    ∙ ap (λ (a : Option Action). behind (format_patterns fmt) (known a rest)) is
    ∙ ap (λ asks. gives asks (left action rest)) (append-nil (format_patterns fmt))

-- a part in which a pattern is replaced
pub changed_back : (side : Side) (name : ActionName) (pat : Pattern) (fmt : Fmt) (action : Action) (rest : Words) → takes_pattern name ≡ true → by_pattern name pat fmt ≡ Some action → (keeps_case pat && is_spelled_format side fmt) ≡ true
    → line_at side name (pat.text ∷ format_text fmt ∷ rest) ≡ gives (pat ∷ format_patterns fmt) (left action rest)
unfolding line_at changed_at
changed_back side name pat fmt action rest some is h =
    let words = pat.text ∷ format_text fmt ∷ rest in
    ap (λ t. cond t (changed_at side name words) (set_at side name words)) some
    ∙ ap (λ (r : RuleReading (Pattern × Fmt × Words)). r >>= λ found. known (by_pattern name found.0 found.1) found.2)
    (pattern_and_format_back side pat fmt rest (both_left (keeps_case pat) (is_spelled_format side fmt) h) (both_right (keeps_case pat) (is_spelled_format side fmt) h))
    ∙ ap (λ (a : Option Action). behind (pat ∷ format_patterns fmt) (known a rest)) is
    ∙ ap (λ asks. gives (pat ∷ asks) (left action rest)) (append-nil (format_patterns fmt))

-- ---- names that go

abbrev deletes : DelBy → Words → Behind
deletes by rest = left (actions.DelHeader by) rest

named_back : (made : List ℕ → DelBy) (name : List ℕ) → IsName name → named_by made name ≡ gives [] (made name)
named_back made name is = ap (λ (r : Read (List ℕ)). plain r >>= λ n. plain (told (made n))) (name_back name is)

-- no match stands behind the name
no_flag : (word : List ℕ) (others : Words) → ends_action (word ∷ others) ≡ true → is_match_flag word ≡ false
unfolding is_match_flag
no_flag word others h = by_sense (λ w. is_match_flag w ≡ false) word h refl refl

alone : (name : List ℕ) (rest : Words) → IsName name → ends_action rest ≡ true → deleted_behind name rest ≡ gives [] (deletes (dels.Str name) rest)
alone name [] is ends = ap (λ (r : RuleReading DelBy). r >>= deleted []) (named_back dels.Str name is)
alone name (word ∷ others) is ends =
    ap (λ t. cond t (deleted_matching name others) (named_by dels.Str name >>= deleted (word ∷ others))) (no_flag word others ends)
    ∙ ap (λ (r : RuleReading DelBy). r >>= deleted (word ∷ others)) (named_back dels.Str name is)

-- fields that go by their names
pub deleted_back : (by : DelBy) (rest : Words) → IsGoodDel by → is_spelled_del by ≡ true → ends_action rest ≡ true → field_deleted (del_words by ++ rest) ≡ gives (del_patterns by) (deletes by rest)
unfolding field_deleted deleted_matching matched_by is_match_flag
deleted_back (dels.Str name) rest good h ends = ap (behind []) (alone name rest good ends)
deleted_back (dels.Beg text) rest good h ends = ap (λ (r : RuleReading DelBy). r >>= deleted rest) (named_back dels.Beg text good)
deleted_back (dels.End text) rest good h ends = ap (λ (r : RuleReading DelBy). r >>= deleted rest) (named_back dels.End text good)
deleted_back (dels.Sub text) rest good h ends = ap (λ (r : RuleReading DelBy). r >>= deleted rest) (named_back dels.Sub text good)
deleted_back (dels.Reg pat) rest good h ends = ap (λ (c : Bool). gives (cased pat c ∷ []) (deletes (dels.Reg (cased pat c)) rest)) (sym (not-true pat.icase h))
