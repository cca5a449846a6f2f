-- Words of an action: names, codes, patterns and formats, as they are read.
use Rattle.std.proofs.Common.{◌≡◌, ℕ, ◌≤◌, Bool, true, cond, List, [], ◌∷◌, ◌++◌, length, inl, inr, sym, ap, subst, ◌∙◌, arith}
use Rattle.std.proofs.lemmas.Bool.{le-leb, and_from, not-true, or_cases}
use Rattle.std.proofs.lemmas.List.{append-nil}
use Rattle.std.proofs.lemmas.Slice.Eq.{bytes_eq-Decides}
use Rattle.std.proofs.lemmas.Fmt.{digits_decimal, digits_value-decimal, decimal_nonempty, length-decimal-le}
use Rattle.std.specs.Prelude.{◌&&◌, nat_le, Some, None, Ok, Err, codes}
use Rattle.std.specs.List.{list_all}
use Rattle.std.specs.Char.{is_ascii_digit}
use Rattle.std.specs.Fmt.{decimal}
use Rattle.std.specs.Str.{bytes_eq, str_to_ascii_lowercase}
use Rattle.std.specs.Str.Parse.{digits_value}
use Rattle.px_bytes.specs.Tokens.{is_token}
use Rattle.px_bytes.specs.Numbers.{decimal_of}
use Rattle.px_pattern.specs.Pattern.{Pattern}
use Rattle.log_format.specs.declared.fmt.Fmt.{Fmt}
use Rattle.http_rules.specs.Rule.Valid.{IsName, IsMadeName, IsCode}
use Rattle.cfg_expr.specs.declared.side.Side.{Side}
use Rattle.cfg_expr.specs.Steps as steps
use Rattle.cfg_expr.specs.Reading.{plain, ◌>>=◌}
use Rattle.cfg_expr.specs.Faults.{TextReading}
use Rattle.cfg_parse.specs.declared.action.fault.RuleKind.TheVariants.{Argument, FramingName}
use Rattle.cfg_parse.specs.Action.Faults.{Read, RuleReading, of_text}
use Rattle.cfg_parse.specs.Action.Arguments.{Words, name_of, free_name, is_framing, made_name, made_name_at, within, code_of}
use Rattle.cfg_parse.specs.Action.Asked.{format_at, pattern_at}
use Rattle.cfg_print.specs.Formats.{format_text}
use Rattle.cfg_laws.specs.Spelled.{is_spelled_format}
use Rattle.cfg_laws.specs.SpelledActions.{keeps_case, is_sense}
use Rattle.cfg_laws.specs.Laws.Formats.{format_patterns}
use Rattle.cfg_laws.proofs.LawLemmas.Numbers.{own}
use Rattle.cfg_laws.proofs.LawLemmas.Formats.{format_back}

-- what words come to without a fault, with the patterns that are asked for
abbrev pub gives : {A : Type 0} → List Pattern → A → RuleReading A
gives asks x = record { asks = asks; gives = Ok x }

-- what is read behind patterns that were asked for
abbrev pub behind : {A : Type 0} → List Pattern → RuleReading A → RuleReading A
behind asks r = record { asks = asks ++ r.asks; gives = r.gives }

-- a value, with the words behind it
abbrev pub left : {A : Type 0} → A → Words → A × Words
left x rest = (x, rest)

abbrev pub told : {A : Type 0} → A → Read A
told x = Ok x

-- ---- names

-- a name is read back
pub name_back : (name : List ℕ) → IsName name → name_of name ≡ told name
name_back name is =
    ap (λ t. cond t (told (str_to_ascii_lowercase name)) (Err Argument)) (and_from (is_token name) (nat_le (length name) 255) is.token (le-leb (length name) 255 is.short))
    ∙ ap (λ n. told n) is.lower

pub made_name_back : (name : List ℕ) (rest : Words) → IsMadeName name → made_name_at (name ∷ rest) ≡ told (left name rest)
unfolding made_name_at made_name is_framing
made_name_back name rest is =
    ap (λ (r : Read (List ℕ)). steps.◌>>=◌ (steps.◌>>=◌ r free_name) (λ n. told (left n rest))) (name_back name is.named)
    ∙ ap (λ t. steps.◌>>=◌ (cond t (Err FramingName) (told name)) (λ n. told (left n rest))) is.free

-- ---- codes

number_if : (a b c : Bool) (n m : ℕ) → a ≡ true → b ≡ true → c ≡ true → n ≡ m → cond ((a && b) && c) (Some n) None ≡ Some m
number_if a b c n m x y z e = cc

pub decimal_back : (n : ℕ) → n ≤ 999 → decimal_of 18 (decimal n) ≡ Some n
decimal_back n small =
    let ds = decimal n in
    number_if (nat_le 1 (length ds)) (nat_le (length ds) 18) (list_all is_ascii_digit ds) (digits_value 10 ds) n
    (le-leb 1 (length ds) (decimal_nonempty n (omega arith))) (le-leb (length ds) 18 (length-decimal-le 18 n (omega arith) (omega arith) (omega arith)))
    (digits_decimal own n (omega arith)) (digits_value-decimal own n (omega arith))

-- a code within bounds is read back
pub code_back : (least most n : ℕ) → IsCode least most n → most ≤ 999 → code_of least most (decimal n) ≡ told n
code_back least most n is small =
    let upper = is.to in
    ap (within least most) (decimal_back n (omega arith))
    ∙ ap (λ t. cond t (told n) (Err Argument)) (and_from (nat_le least n) (nat_le n most) (le-leb least n is.from) (le-leb n most is.to))

-- ---- patterns and formats

-- a pattern with its case
abbrev pub cased : Pattern → Bool → Pattern
cased pat c = record { text = pat.text; icase = c }

pub pattern_back : (pat : Pattern) (rest : Words) → keeps_case pat ≡ true → pattern_at (pat.text ∷ rest) ≡ gives (pat ∷ []) (left pat rest)
unfolding pattern_at
pattern_back pat rest h = ap (λ (c : Bool). gives (cased pat c ∷ []) (left (cased pat c) rest)) (sym (not-true pat.icase h))

pub format_read : (side : Side) (fmt : Fmt) (rest : Words) → is_spelled_format side fmt ≡ true → format_at side (format_text fmt ∷ rest) ≡ gives (format_patterns fmt) (left fmt rest)
unfolding format_at
format_read side fmt rest h =
    ap (λ (r : TextReading Fmt). of_text r >>= λ f. plain (told (left f rest))) (format_back side fmt h)
    ∙ ap (λ asks. gives asks (left fmt rest)) (append-nil (format_patterns fmt))

-- ---- what stands behind an action

-- what holds of `if` and of `unless` holds of the word there
pub by_sense : (P : List ℕ → Type 0) (word : List ℕ) → is_sense word ≡ true → P (codes "if") → P (codes "unless") → P word
by_sense P word h x y = elim (or_cases (bytes_eq word (codes "if")) (bytes_eq word (codes "unless")) h) [
  | inl e ↦ subst P (sym ((bytes_eq-Decides word (codes "if")).0 e)) x
  | inr e ↦ subst P (sym ((bytes_eq-Decides word (codes "unless")).0 e)) y
]
