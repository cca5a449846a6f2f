-- The options of `redirect`, in any order, up to a word that is none.
use Rattle.std.specs.Prelude.{ℕ, zero, suc, List, [], ◌∷◌, Bool, false, ◌||◌, Option, Some, None, Ok, Err}
use Rattle.log_format.specs.declared.fmt.Fmt.{Fmt}
use Rattle.http_rules.specs.declared.rule.reply.RedirectTo.{RedirectTo}
use Rattle.http_rules.specs.declared.rule.reply.RedirectTo.TheVariants.{Location, Prefix, Scheme}
use Rattle.cfg_expr.specs.declared.side.Side.{Side}
use Rattle.cfg_expr.specs.Reading.{Reading, plain, ◌>>=◌}
use Rattle.cfg_parse.specs.declared.action.redirect.RedirectOptions.{RedirectOptions}
use Rattle.cfg_parse.specs.declared.action.redirect.RedirectWord.{RedirectWord}
use Rattle.cfg_parse.specs.declared.action.redirect.RedirectWord.TheVariants as words
use Rattle.cfg_parse.specs.Action.Faults.{Read, RuleReading, unless_none}
use Rattle.cfg_parse.specs.Action.Arguments.{Words}
use Rattle.cfg_parse.specs.Action.Asked.{format_at}
use Rattle.cfg_parse.specs.Action.Redirects.{redirect_word, may_come, code_at, with_drop_query, with_append_slash}

-- a location, where none stands there yet
abbrev pub with_location : Side → (Fmt → RedirectTo) → (clashes : Bool) → RedirectOptions → Words → RuleReading (RedirectOptions × Words)
with_location side made clashes options others = do
  free ← plain (may_come clashes options)
  fmt ← format_at side others
  plain (Ok (record options { to = Some (made fmt.0) }, fmt.1))

-- an option that takes no word of its own
abbrev pub alone : Words → Read RedirectOptions → RuleReading (RedirectOptions × Words)
alone others next = plain next >>= λ options. plain (Ok (options, others))

-- an option and the words behind it
unfoldable pub redirect_option : Side → RedirectOptions → RedirectWord → Words → RuleReading (RedirectOptions × Words)
redirect_option side options words.Location others =
    with_location side Location (options.drop_query || options.append_slash) options others
redirect_option side options words.Prefix others = with_location side Prefix false options others
redirect_option side options words.Scheme others = with_location side Scheme options.append_slash options others
redirect_option side options words.Code others = plain (code_at options others)
redirect_option side options words.DropQuery others = alone others (with_drop_query options)
redirect_option side options words.AppendSlash others = alone others (with_append_slash options)

-- ---- all options

-- options up to a word that is none, of which so many more may come
unfoldable pub redirect_options : Side → (most : ℕ) → RedirectOptions → Words → RuleReading (RedirectOptions × Words)
redirect_options side most options [] = plain (Ok (options, []))
redirect_options side zero options (word ∷ others) = plain (Ok (options, word ∷ others))
redirect_options side (suc most) options (word ∷ others) =
    unless_none (redirect_word word) (plain (Ok (options, word ∷ others)))
    (λ which. redirect_option side options which others >>= λ next. redirect_options side most next.0 next.1)
