-- What is made of a text in which a pattern matches.
use Rattle.std.proofs.Common.{◌≡◌, ℕ, List, Bool, true, cond, refl, sym, ap, ◌∙◌, subst, length}
use Rattle.std.specs.Prelude.{is_some, Option, Some, Result, Ok, Err}
use Rattle.std.proofs.lemmas.Bool.{le-leb, lt-leb}
use Rattle.http_model.specs.declared.Why.{Why}
use Rattle.http_model.specs.declared.Why.TheVariants.{Room, Bytes}
use Rattle.regex.specs.Patterns.{Match, find}
use Rattle.px_pattern.specs.Pattern.{Pattern}
use Rattle.px_pattern.specs.Meaning.{pattern_of}
use Rattle.px_pattern.specs.Groups.{AreGroupsOf}
use Rattle.px_pattern.specs.declared.span.Span.{Span}
use Rattle.px_conv.specs.Template.{expanded}
use Rattle.log_format.specs.declared.fmt.Fmt.{Fmt}
use Rattle.http_rules.specs.declared.action.filled.Filled.{Filled}
use Rattle.http_rules.specs.declared.action.filled.Filled.TheVariants.{Unmatched, Made, Failed}
use Rattle.http_rules.specs.Action.Given.{Env, text_on}
use Rattle.http_rules.specs.Action.Edits.{by_text}
use Rattle.http_rules.specs.Action.Replacing.{filled, filled_by, by_match}
use Rattle.http_rules.specs.Action.Filling.{edited_by, IsHeld}
use Rattle.http_rules.specs.Action.Outcome.{IsMade}
use Rattle.http_rules.proofs.ActionLemmas.Groups.{by_groups}

-- a text that is not longer than the buffer
pub short_is : (size : ℕ) (text held : List ℕ) (make : List ℕ → Result Env Why) → IsMade size text true held → by_text size text make ≡ make held
short_is size text held make made =
    ap (λ (t : Bool). cond t (make text) (Err Bytes)) made.within ∙ ap make (sym (made.holds refl))

-- what is made by a text that is held, or is not
pub held_is : (size : ℕ) (env : Env) (wanted held : List ℕ) (f : Filled) (make : List ℕ → Result Env Why) → IsHeld size wanted f held → by_text size wanted make ≡ edited_by f held env make
held_is size env wanted held Unmatched make h = absurd h
held_is size env wanted held Made make h = ap (λ (t : Bool). cond t (make wanted) (Err Bytes)) (le-leb (length wanted) size h.0) ∙ ap make (sym h.1)
held_is size env wanted held (Failed Bytes) make h = ap (λ (t : Bool). cond t (make wanted) (Err Bytes)) (lt-leb (length wanted) size h)
held_is size env wanted held (Failed Room) make h = absurd h

-- where there is one, what the template with the groups makes
pub matched : (size : ℕ) (env : Env) (pat : Pattern) (fmt : Fmt) (text : List ℕ) (make : List ℕ → Result Env Why) (m : Match) → find (pattern_of pat) text 0 ≡ Some m
    → by_match size env pat fmt text make ≡ by_text size (text_on size env fmt) (λ template. by_text size (filled text template m) make)
matched size env pat fmt text make m found =
    ap (λ (o : Option Match). cond (is_some o) (by_text size (text_on size env fmt) (λ template. by_text size (filled_by text template o) make)) (Ok env)) found

-- the text of the format is not longer than the buffer, and the groups were put in
pub filled_up : (size cap : ℕ) (env : Env) (pat : Pattern) (fmt : Fmt) (text held template done : List ℕ) (make : List ℕ → Result Env Why) (m : Match) (groups : List (Option Span)) (fits : Bool) (f : Filled)
    → find (pattern_of pat) text 0 ≡ Some m → AreGroupsOf m groups → IsMade size (text_on size env fmt) fits held → fits ≡ true → template ≡ held → cap ≡ size
    → IsHeld cap (expanded groups text template) f done → by_match size env pat fmt text make ≡ edited_by f done env make
filled_up size cap env pat fmt text held template done make m groups fits f found are made good lent caps h =
    matched size env pat fmt text make m found
    ∙ short_is size (text_on size env fmt) held (λ t. by_text size (filled text t m) make) (subst (λ (t : Bool). IsMade size (text_on size env fmt) t held) good made)
    ∙ ap (λ (t : List ℕ). by_text size (filled text t m) make) (sym lent)
    ∙ held_is size env (filled text template m) done f make
    (subst (λ (w : List ℕ). IsHeld size w f done) (by_groups m groups text template are) (subst (λ (n : ℕ). IsHeld n (expanded groups text template) f done) caps h))
