-- Options one after the other.
use Rattle.std.proofs.Common.{◌≡◌, ℕ, suc, List, ◌∷◌, Option, Some, Ok, ap, ◌∙◌}
use Rattle.cfg_expr.specs.declared.side.Side.{Side}
use Rattle.cfg_expr.specs.Reading.{plain, ◌>>=◌}
use Rattle.cfg_parse.specs.declared.action.redirect.RedirectOptions.{RedirectOptions}
use Rattle.cfg_parse.specs.declared.action.redirect.RedirectWord.{RedirectWord}
use Rattle.cfg_parse.specs.declared.action.returns.ReturnOptions.{ReturnOptions}
use Rattle.cfg_parse.specs.declared.action.returns.ReturnWord.{ReturnWord}
use Rattle.cfg_parse.specs.Action.Faults.{RuleReading, unless_none}
use Rattle.cfg_parse.specs.Action.Arguments.{Words}
use Rattle.cfg_parse.specs.Action.Redirects.{redirect_word}
use Rattle.cfg_parse.specs.Action.RedirectOptions.{redirect_option, redirect_options}
use Rattle.cfg_parse.specs.Action.Returns.{return_word}
use Rattle.cfg_parse.specs.Action.ReturnOptions.{return_option, return_options}

abbrev redirects_so_far : RedirectOptions → Words → RuleReading (RedirectOptions × Words)
redirects_so_far options words = plain (Ok (options, words))

pub redirects_on : (side : Side) (most left : ℕ) (options : RedirectOptions) (words : Words) (word : List ℕ) (others : Words) (which : RedirectWord) → most ≡ suc left → words ≡ word ∷ others → redirect_word word ≡ Some which
    → redirect_options side most options words ≡ (redirect_option side options which others >>= λ next. redirect_options side left next.0 next.1)
unfolding redirect_options
redirects_on side most left options words word others which count cut is =
    ap (λ (m : ℕ). redirect_options side m options words) count
    ∙ ap (redirect_options side (suc left) options) cut
    ∙ ap (λ (w : Option RedirectWord). unless_none w (redirects_so_far options (word ∷ others)) (λ which. redirect_option side options which others >>= λ next. redirect_options side left next.0 next.1)) is

abbrev returns_so_far : ReturnOptions → Words → RuleReading (ReturnOptions × Words)
returns_so_far options words = plain (Ok (options, words))

pub returns_on : (side : Side) (most left : ℕ) (options : ReturnOptions) (words : Words) (word : List ℕ) (others : Words) (which : ReturnWord) → most ≡ suc left → words ≡ word ∷ others → return_word word ≡ Some which
    → return_options side most options words ≡ (return_option side options which others >>= λ next. return_options side left next.0 next.1)
unfolding return_options
returns_on side most left options words word others which count cut is =
    ap (λ (m : ℕ). return_options side m options words) count
    ∙ ap (return_options side (suc left) options) cut
    ∙ ap (λ (w : Option ReturnWord). unless_none w (returns_so_far options (word ∷ others)) (λ which. return_option side options which others >>= λ next. return_options side left next.0 next.1)) is
