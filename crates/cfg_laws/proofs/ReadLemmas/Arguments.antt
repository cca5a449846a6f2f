-- What the words of an action come to, in front of those behind them, can be said again.
use Rattle.std.proofs.Common.{ℕ, Bool, false, List, Result, Ok, Err, refl}
use Rattle.std.proofs.lemmas.Bool.{and_from}
use Rattle.std.specs.Prelude.{◌&&◌}
use Rattle.px_pattern.specs.Pattern.{Pattern}
use Rattle.log_format.specs.declared.fmt.Fmt.{Fmt}
use Rattle.cfg_expr.specs.declared.fault.TextKind.{TextKind}
use Rattle.cfg_expr.specs.declared.side.Side.{Side}
use Rattle.cfg_expr.specs.Reading.{Reading, plain, built, kind_as, given_by, ◌>>=◌}
use Rattle.cfg_expr.specs.Formats.{format_of}
use Rattle.cfg_parse.specs.Action.Faults.{RuleReading, kind_of, of_text, argument}
use Rattle.cfg_parse.specs.Action.Arguments.{Words, made_name_at}
use Rattle.cfg_parse.specs.Action.Asked.{format_at, pattern_at}
use Rattle.cfg_parse.specs.Action.Actions.{name_and_format, pattern_and_format}
use Rattle.cfg_laws.specs.Spelled.{is_spelled_format}
use Rattle.cfg_laws.specs.SpelledActions.{keeps_case}
use Rattle.cfg_laws.proofs.ReadLemmas.Steps.{Gives, gives_behind}
use Rattle.cfg_laws.proofs.ReadLemmas.Formats.{format_gives}

-- what follows any value
pub any_behind : {K A B : Type 0} (next : B → Bool) (told : Result A K) (f : A → Reading K B) → ((x : A) → Gives next (f x).gives) → Gives next (given_by told f)
any_behind next (Ok x) f more = more x
any_behind next (Err kind) f more = tt

-- a text as a part of a rule
pub text_gives : {A : Type 0} (test : A → Bool) (told : Result A TextKind) → Gives test told → Gives test (kind_as kind_of told)
text_gives test (Ok x) h = h
text_gives test (Err kind) h = tt

-- ---- a format

abbrev pub fmt_said : Side → Fmt × Words → Bool
fmt_said side found = is_spelled_format side found.0

abbrev of_word : Side → List ℕ × Words → RuleReading (Fmt × Words)
of_word side word = of_text (format_of side word.0) >>= λ fmt. plain (Ok (fmt, word.1))

pub format_said : (side : Side) (words : Words) → Gives (fmt_said side) (format_at side words).gives
unfolding format_at
format_said side words = any_behind (fmt_said side) (argument words) (of_word side)
    (λ word. gives_behind (is_spelled_format side) (fmt_said side) (of_text (format_of side word.0)).gives (λ fmt. plain (Ok (fmt, word.1)))
    (text_gives (is_spelled_format side) (format_of side word.0).gives (format_gives side word.0)) (λ fmt is. is))

-- ---- a pattern

abbrev pat_said : Pattern × Words → Bool
pat_said found = keeps_case found.0

abbrev as_pattern : List ℕ × Words → RuleReading (Pattern × Words)
as_pattern word = built (record { text = word.0; icase = false }) >>= λ pat. plain (Ok (pat, word.1))

pattern_said : (words : Words) → Gives pat_said (pattern_at words).gives
unfolding pattern_at
pattern_said words = any_behind pat_said (argument words) as_pattern (λ word. refl)

-- ---- both

-- a format behind a name
abbrev pub named_said : Side → List ℕ × Fmt × Words → Bool
named_said side found = is_spelled_format side found.1

abbrev behind_name : Side → List ℕ × Words → RuleReading (List ℕ × Fmt × Words)
behind_name side name = format_at side name.1 >>= λ fmt. plain (Ok (name.0, fmt.0, fmt.1))

pub name_and_format_said : (side : Side) (words : Words) → Gives (named_said side) (name_and_format side words).gives
unfolding name_and_format
name_and_format_said side words = any_behind (named_said side) (made_name_at words) (behind_name side)
    (λ name. gives_behind (fmt_said side) (named_said side) (format_at side name.1).gives (λ fmt. plain (Ok (name.0, fmt.0, fmt.1))) (format_said side name.1) (λ fmt is. is))

-- a format behind a pattern
abbrev pub both_said : Side → Pattern × Fmt × Words → Bool
both_said side found = keeps_case found.0 && is_spelled_format side found.1

abbrev behind_pattern : Side → Pattern × Words → RuleReading (Pattern × Fmt × Words)
behind_pattern side pat = format_at side pat.1 >>= λ fmt. plain (Ok (pat.0, fmt.0, fmt.1))

pub pattern_and_format_said : (side : Side) (words : Words) → Gives (both_said side) (pattern_and_format side words).gives
unfolding pattern_and_format
pattern_and_format_said side words = gives_behind pat_said (both_said side) (pattern_at words).gives (behind_pattern side) (pattern_said words)
    (λ pat keeps. gives_behind (fmt_said side) (both_said side) (format_at side pat.1).gives (λ fmt. plain (Ok (pat.0, fmt.0, fmt.1))) (format_said side pat.1)
    (λ fmt is. and_from (keeps_case pat.0) (is_spelled_format side fmt.0) keeps is))
