-- Options that go with each other.
use Rattle.std.proofs.Common.{◌≡◌, ℕ, ◌+◌, ◌≤◌, List, [], ◌∷◌, ◌++◌, Bool, true, false, Option, Some, None, refl, ap, arith}
use Rattle.std.specs.Prelude.{◌&&◌, ◌||◌, IfSome, is_some, unwrap_or}
use Rattle.std.specs.List.{AllByRecursion}
use Rattle.log_format.specs.declared.fmt.Fmt.{Fmt}
use Rattle.http_rules.specs.declared.rule.reply.Hdr.{Hdr}
use Rattle.http_rules.specs.declared.rule.reply.RedirectTo.TheVariants.{Location, Prefix, Scheme}
use Rattle.http_rules.specs.Rule.Valid.{IsMadeName, IsCode, is_bodiless, is_redirect_code}
use Rattle.cfg_parse.specs.declared.action.redirect.RedirectOptions.{RedirectOptions}
use Rattle.cfg_parse.specs.declared.action.returns.ReturnOptions.{ReturnOptions}
use Rattle.cfg_parse.specs.Action.Returns.{has_no_body}
use Rattle.cfg_parse.specs.Action.Good.{AreRedirectOptions, AreReturnOptions}

and_false : (b : Bool) → (b && false) ≡ false
and_false true = refl
and_false false = refl

or_parts : (a b : Bool) → (a || b) ≡ false → (a ≡ false) × (b ≡ false)
or_parts true b e = absurd cc
or_parts false b e = (refl, e)

none_first : (a b : Bool) → a ≡ false → (a && b) ≡ false
none_first a b e = ap (λ t. t && b) e

-- ---- redirects

pub goes_to : (options : RedirectOptions) (fmt : Fmt) → AreRedirectOptions options → (options.drop_query || options.append_slash) ≡ false
    → AreRedirectOptions (record options { to = Some (Location fmt) })
goes_to options fmt good free =
    let both = or_parts options.drop_query options.append_slash free in
    record { code = good.code; drops = none_first options.drop_query true both.0; appends = none_first options.append_slash true both.1 }

pub goes_below : (options : RedirectOptions) (fmt : Fmt) → AreRedirectOptions options → AreRedirectOptions (record options { to = Some (Prefix fmt) })
goes_below options fmt good = record { code = good.code; drops = and_false options.drop_query; appends = and_false options.append_slash }

pub goes_over : (options : RedirectOptions) (fmt : Fmt) → AreRedirectOptions options → options.append_slash ≡ false → AreRedirectOptions (record options { to = Some (Scheme fmt) })
goes_over options fmt good free = record { code = good.code; drops = and_false options.drop_query; appends = none_first options.append_slash true free }

pub some_code : (code : Option ℕ) → IfSome code (λ c. is_redirect_code c ≡ true) → is_redirect_code (unwrap_or code 302) ≡ true
some_code None good = refl
some_code (Some code) good = good

pub ruleset redirects = (goes_to, goes_below, goes_over, some_code)

-- ---- replies

pub fields_more : (hdrs : List Hdr) (hdr : Hdr) → AllByRecursion (λ (h : Hdr). IsMadeName h.name) hdrs → IsMadeName hdr.name → AllByRecursion (λ (h : Hdr). IsMadeName h.name) (hdrs ++ hdr ∷ [])
fields_more [] hdr all good = (good, tt)
fields_more (h ∷ hdrs) hdr all good = (all.0, fields_more hdrs hdr all.1 good)

pub some_status : (status : Option ℕ) → IfSome status (IsCode 200 599) → IsCode 200 599 (unwrap_or status 200)
some_status None good = record { from = omega arith; to = omega arith }
some_status (Some status) good = good

-- a payload that goes with the status, where none is written too
pub is_sent : (payload : Bool) (status : Option ℕ) → (payload && has_no_body status) ≡ false → (payload && is_bodiless (unwrap_or status 200)) ≡ false
is_sent payload None e = and_false payload
is_sent payload (Some status) e = e

pub ruleset replies = (fields_more, some_status, is_sent)
