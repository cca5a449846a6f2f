-- The options of `redirect`, but for its location (Configuration Manual, section 4.2).
use Rattle.std.specs.Prelude.{ℕ, List, Bool, true, false, ◌||◌, if◌then◌else◌, Option, Some, None, is_some, unwrap_or, Ok, Err, codes}
use Rattle.std.specs.Str.{bytes_eq}
use Rattle.http_rules.specs.declared.rule.reply.RedirectTo.{RedirectTo}
use Rattle.http_rules.specs.declared.rule.action.Action.{Action}
use Rattle.http_rules.specs.declared.rule.action.Action.TheVariants.{Redirect}
use Rattle.http_rules.specs.Rule.Valid.{is_redirect_code, may_drop_query, may_append_slash}
use Rattle.px_bytes.specs.Numbers.{decimal_of}
use Rattle.cfg_expr.specs.Steps.{◌>>=◌}
use Rattle.cfg_parse.specs.declared.action.fault.RuleKind.TheVariants.{Argument}
use Rattle.cfg_parse.specs.declared.action.redirect.RedirectOptions.{RedirectOptions}
use Rattle.cfg_parse.specs.declared.action.redirect.RedirectWord.{RedirectWord}
use Rattle.cfg_parse.specs.declared.action.redirect.RedirectWord.TheVariants as words
use Rattle.cfg_parse.specs.Action.Faults.{Read, argument}
use Rattle.cfg_parse.specs.Action.Arguments.{Words, most_digits}

abbrev pub no_options : RedirectOptions
no_options = record { to = None; code = None; drop_query = false; append_slash = false }

-- the option of a word
unfoldable pub redirect_word : List ℕ → Option RedirectWord
redirect_word word =
    if bytes_eq word (codes "location") then Some words.Location
    else (if bytes_eq word (codes "prefix") then Some words.Prefix
    else (if bytes_eq word (codes "scheme") then Some words.Scheme
    else (if bytes_eq word (codes "code") then Some words.Code
    else (if bytes_eq word (codes "drop-query") then Some words.DropQuery
    else (if bytes_eq word (codes "append-slash") then Some words.AppendSlash
    else None)))))

-- ---- what may stand behind what

-- the location may still come: there is none, and what stands there goes with it
abbrev pub may_come : (clashes : Bool) → RedirectOptions → Read (Unit {0})
may_come clashes options = if is_some options.to || clashes then Err Argument else Ok tt

-- an option goes with the location, where that stands there
abbrev pub goes_with : (RedirectTo → Bool) → Option RedirectTo → Bool
goes_with may None = true
goes_with may (Some to) = may to

-- an option that stands alone: it comes once, and goes with the location
abbrev pub may_stand : (stands goes : Bool) → Read (Unit {0})
may_stand stands goes = if stands then Err Argument else (if goes then Ok tt else Err Argument)

-- ---- one option

-- one of the codes of redirects
abbrev pub as_redirect_code : Option ℕ → Read ℕ
as_redirect_code None = Err Argument
as_redirect_code (Some code) = if is_redirect_code code then Ok code else Err Argument

-- the number behind `code`, and the words behind it
unfoldable pub written_code : Words → Read (ℕ × Words)
written_code others = do
  word ← argument others
  code ← as_redirect_code (decimal_of most_digits word.0)
  Ok (code, word.1)

-- `code` and its number
unfoldable pub code_at : RedirectOptions → Words → Read (RedirectOptions × Words)
code_at options others = do
  free ← may_stand (is_some options.code) true
  code ← written_code others
  Ok (record options { code = Some code.0 }, code.1)

abbrev pub with_drop_query : RedirectOptions → Read RedirectOptions
with_drop_query options =
    may_stand options.drop_query (goes_with may_drop_query options.to) >>= λ free. Ok (record options { drop_query = true })

abbrev pub with_append_slash : RedirectOptions → Read RedirectOptions
with_append_slash options =
    may_stand options.append_slash (goes_with may_append_slash options.to) >>= λ free. Ok (record options { append_slash = true })

-- the redirect, which needs a location
abbrev pub redirect_made : RedirectOptions → Option RedirectTo → Read Action
redirect_made options None = Err Argument
redirect_made options (Some to) = Ok (Redirect to (unwrap_or options.code 302) options.drop_query options.append_slash)

abbrev pub redirect_of : RedirectOptions → Read Action
redirect_of options = redirect_made options options.to
