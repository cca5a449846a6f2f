-- The words of `redirect` as they are spelled, and read option by option.
use Rattle.std.proofs.Common.{◌≡◌, ℕ, zero, suc, ◌≤◌, Bool, true, false, cond, List, [], ◌∷◌, ◌++◌, length, refl, sym, ap, ◌∙◌, append_assoc, arith}
use Rattle.std.proofs.lemmas.Bool.{true≢false}
use Rattle.std.proofs.lemmas.Bool.Decides.{nat_tests}
use Rattle.std.proofs.lemmas.List.{append-nil}
use Rattle.std.specs.Prelude.{◌&&◌, not, Option, Some, None, Err, codes}
use Rattle.std.specs.Fmt.{decimal}
use Rattle.log_format.specs.declared.fmt.Fmt.{Fmt}
use Rattle.http_rules.specs.declared.rule.reply.RedirectTo.{RedirectTo}
use Rattle.http_rules.specs.declared.rule.reply.RedirectTo.TheVariants.{Location, Prefix, Scheme}
use Rattle.http_rules.specs.Rule.Valid.{IsGoodRedirect, is_redirect_code, may_drop_query, may_append_slash}
use Rattle.cfg_expr.specs.declared.side.Side.{Side}
use Rattle.cfg_expr.specs.Steps as steps
use Rattle.cfg_expr.specs.Reading.{plain, ◌>>=◌}
use Rattle.cfg_parse.specs.declared.action.redirect.RedirectOptions.{RedirectOptions}
use Rattle.cfg_parse.specs.declared.action.fault.RuleKind.TheVariants.{Argument}
use Rattle.cfg_parse.specs.declared.action.parts.ActionParts.TheVariants as parts
use Rattle.cfg_parse.specs.Action.Faults.{Read, RuleReading, unless_none}
use Rattle.cfg_parse.specs.Action.Arguments.{Words}
use Rattle.cfg_parse.specs.Action.Redirects.{no_options, redirect_word, as_redirect_code, written_code, code_at}
use Rattle.cfg_parse.specs.Action.RedirectOptions.{redirect_option, redirect_options}
use Rattle.cfg_parse.specs.Action.Actions.{redirect_parts}
use Rattle.cfg_print.specs.Actions.{target_words, where_so, redirect_words}
use Rattle.cfg_laws.specs.SpelledActions.{is_spelled_target, ends_action}
use Rattle.cfg_laws.specs.Laws.Formats.{format_patterns}
use Rattle.cfg_laws.specs.Laws.Rules.{target_patterns}
use Rattle.cfg_laws.proofs.LawLemmas.ActionWords.{gives, behind, left, told, decimal_back, format_read, by_sense}

-- the options of a redirect
abbrev pub options_of : RedirectTo → Option ℕ → (drop_query append_slash : Bool) → RedirectOptions
options_of to code drop_query append_slash = record { to = Some to; code = code; drop_query = drop_query; append_slash = append_slash }

-- ---- the end

no_word : (word : List ℕ) (others : Words) → ends_action (word ∷ others) ≡ true → redirect_word word ≡ None
unfolding redirect_word
no_word word others h = by_sense (λ w. redirect_word w ≡ None) word h refl refl

stops : (side : Side) (most : ℕ) (options : RedirectOptions) (rest : Words) → ends_action rest ≡ true → redirect_options side most options rest ≡ gives [] (left options rest)
unfolding redirect_options
stops side most options [] ends = refl
stops side zero options (word ∷ others) ends = refl
stops side (suc most) options (word ∷ others) ends =
    ap (λ w. unless_none w (gives [] (left options (word ∷ others))) (λ which. redirect_option side options which others >>= λ next. redirect_options side most next.0 next.1))
    (no_word word others ends)

-- ---- the location

target_step : (side : Side) (to : RedirectTo) (most : ℕ) (more : Words) → is_spelled_target side to ≡ true
    → redirect_options side (suc most) no_options (target_words to ++ more) ≡ behind (target_patterns to) (redirect_options side most (options_of to None false false) more)
unfolding redirect_options redirect_word redirect_option
target_step side (Location fmt) most more h =
    ap (λ (r : RuleReading (Fmt × Words)). (r >>= λ f. plain (told (left (options_of (Location f.0) None false false) f.1))) >>= λ next. redirect_options side most next.0 next.1) (format_read side fmt more h)
    ∙ ap (λ asks. behind asks (redirect_options side most (options_of (Location fmt) None false false) more)) (append-nil (format_patterns fmt))
target_step side (Prefix fmt) most more h =
    ap (λ (r : RuleReading (Fmt × Words)). (r >>= λ f. plain (told (left (options_of (Prefix f.0) None false false) f.1))) >>= λ next. redirect_options side most next.0 next.1) (format_read side fmt more h)
    ∙ ap (λ asks. behind asks (redirect_options side most (options_of (Prefix fmt) None false false) more)) (append-nil (format_patterns fmt))
target_step side (Scheme fmt) most more h =
    ap (λ (r : RuleReading (Fmt × Words)). (r >>= λ f. plain (told (left (options_of (Scheme f.0) None false false) f.1))) >>= λ next. redirect_options side most next.0 next.1) (format_read side fmt more h)
    ∙ ap (λ asks. behind asks (redirect_options side most (options_of (Scheme fmt) None false false) more)) (append-nil (format_patterns fmt))

-- ---- the code

small_code : (code : ℕ) → is_redirect_code code ≡ true → code ≤ 999
small_code code h = grind (arith, nat_tests)

written_back : (code : ℕ) (more : Words) → is_redirect_code code ≡ true → written_code (decimal code ∷ more) ≡ told (left code more)
unfolding written_code
written_back code more h =
    ap (λ (n : Option ℕ). steps.◌>>=◌ (as_redirect_code n) (λ c. told (left c more))) (decimal_back code (small_code code h))
    ∙ ap (λ t. steps.◌>>=◌ (cond t (told code) (Err Argument)) (λ c. told (left c more))) h

code_step : (side : Side) (to : RedirectTo) (code most : ℕ) (more : Words) → is_redirect_code code ≡ true
    → redirect_options side (suc most) (options_of to None false false) (codes "code" ∷ decimal code ∷ more) ≡ behind [] (redirect_options side most (options_of to (Some code) false false) more)
unfolding redirect_options redirect_word redirect_option code_at
code_step side to code most more h =
    ap (λ (r : Read (ℕ × Words)). plain (steps.◌>>=◌ r (λ c. told (left (options_of to (Some c.0) false false) c.1))) >>= λ next. redirect_options side most next.0 next.1) (written_back code more h)

-- ---- what stands alone

-- the words of both, with what is behind them
abbrev flags : (drop_query append_slash : Bool) → Words → Words
flags drop_query append_slash rest = where_so drop_query (codes "drop-query") ++ (where_so append_slash (codes "append-slash") ++ rest)

-- the location has the option
goes : (b may : Bool) → b ≡ true → (b && not may) ≡ false → may ≡ true
goes true true is h = refl
goes true false is h = absurd (true≢false h)
goes false may is h = absurd (true≢false (sym is))

flags_step : (side : Side) (to : RedirectTo) (code most : ℕ) (drop_query append_slash : Bool) (rest : Words)
    → (drop_query && not (may_drop_query to)) ≡ false → (append_slash && not (may_append_slash to)) ≡ false → ends_action rest ≡ true
    → redirect_options side (suc (suc most)) (options_of to (Some code) false false) (flags drop_query append_slash rest) ≡ gives [] (left (options_of to (Some code) drop_query append_slash) rest)
unfolding redirect_options redirect_word redirect_option
flags_step side to code most false false rest h i ends = stops side (suc (suc most)) (options_of to (Some code) false false) rest ends
flags_step side (Location fmt) code most true append_slash rest h i ends = absurd (true≢false h)
flags_step side (Location fmt) code most false true rest h i ends = absurd (true≢false i)
flags_step side (Scheme fmt) code most true true rest h i ends = absurd (true≢false i)
flags_step side (Scheme fmt) code most false true rest h i ends = absurd (true≢false i)
flags_step side (Scheme fmt) code most true false rest h i ends = ap (behind []) (stops side (suc most) (options_of (Scheme fmt) (Some code) true false) rest ends)
flags_step side (Prefix fmt) code most true false rest h i ends = ap (behind []) (stops side (suc most) (options_of (Prefix fmt) (Some code) true false) rest ends)
flags_step side (Prefix fmt) code most false true rest h i ends = ap (behind []) (stops side (suc most) (options_of (Prefix fmt) (Some code) false true) rest ends)
flags_step side (Prefix fmt) code most true true rest h i ends = ap (behind []) (ap (behind []) (stops side most (options_of (Prefix fmt) (Some code) true true) rest ends))

-- ---- all

two_words : (to : RedirectTo) (more : Words) → length (target_words to ++ more) ≡ suc (suc (length more))
two_words (Location fmt) more = refl
two_words (Prefix fmt) more = refl
two_words (Scheme fmt) more = refl

-- the words of a redirect are read back
pub redirect_back : (side : Side) (to : RedirectTo) (code : ℕ) (drop_query append_slash : Bool) (rest : Words) → IsGoodRedirect to code drop_query append_slash → is_spelled_target side to ≡ true → ends_action rest ≡ true
    → redirect_parts side (redirect_words to code drop_query append_slash ++ rest) ≡ gives (target_patterns to) (left (parts.Redirect (options_of to (Some code) drop_query append_slash)) rest)
unfolding redirect_parts
redirect_back side to code drop_query append_slash rest good h ends =
    let tail = flags drop_query append_slash rest in
    let first : Words = codes "code" ∷ decimal code ∷ where_so drop_query (codes "drop-query") in
    let second : Words = where_so append_slash (codes "append-slash") in
    let more = codes "code" ∷ decimal code ∷ tail in
    let made = options_of to (Some code) drop_query append_slash in
    let last = λ (r : RuleReading (RedirectOptions × Words)). r >>= λ found. plain (told (left (parts.Redirect found.0) found.1)) in
    ap (λ (words : Words). last (redirect_options side (length words) no_options words)) (append_assoc (target_words to ++ first) second rest ∙ append_assoc (target_words to) first (second ++ rest))
    ∙ ap (λ (most : ℕ). last (redirect_options side most no_options (target_words to ++ more))) (two_words to more)
    ∙ ap last (target_step side to (suc (length more)) more h)
    ∙ ap (λ (r : RuleReading (RedirectOptions × Words)). last (behind (target_patterns to) r)) (code_step side to code (length more) tail good.code_is)
    ∙ ap (λ (r : RuleReading (RedirectOptions × Words)). last (behind (target_patterns to) (behind [] r))) (flags_step side to code (length tail) drop_query append_slash rest good.drops good.appends ends)
    ∙ ap (λ asks. gives (asks ++ []) (left (parts.Redirect made) rest)) (append-nil (target_patterns to))
    ∙ ap (λ asks. gives asks (left (parts.Redirect made) rest)) (append-nil (target_patterns to))
