-- Expressions: a fetch, and converters behind commas (Configuration Manual, section 7.1).
use Rattle.std.specs.Prelude.{ℕ, zero, suc, Bool, false, ◌==◌, List, [], ◌∷◌, ◌++◌, drop, Option, Some, None, Ok, Err, if◌then◌else◌, codes}
use Rattle.std.specs.Str.{bytes_eq}
use Rattle.px_conv.specs.declared.conv.Conv.{Conv}
use Rattle.px_conv.specs.declared.conv.Conv.TheVariants.{Regsub}
use Rattle.px_expr.specs.declared.expr.Expr.{Expr}
use Rattle.cfg_expr.specs.declared.fault.TextKind.TheVariants as kinds
use Rattle.cfg_expr.specs.declared.side.Side.{Side}
use Rattle.cfg_expr.specs.declared.source.Written.{Written}
use Rattle.cfg_expr.specs.Reading.{plain, built, ◌>>=◌}
use Rattle.cfg_expr.specs.Faults.{Told, TextReading}
use Rattle.cfg_expr.specs.Calls.{Form, form_in}
use Rattle.cfg_expr.specs.Fetches.{expected, placed_source, with_fetch}
use Rattle.cfg_expr.specs.Convs.{Replacing, replacing_of, plain_conv}

-- ---- converters

-- the pattern is built last
abbrev pub replaced : Replacing → TextReading Conv
replaced parts = built parts.pattern >>= λ pat. plain (Ok (Regsub pat parts.template parts.which))

-- the converter of a name and its arguments
unfoldable pub conv_of : List ℕ → List (List ℕ) → TextReading Conv
conv_of name args =
    if bytes_eq name (codes "regsub") then plain (replacing_of args) >>= replaced
    else plain (plain_conv name args)

-- a converter at the front of a text, and what is behind it
abbrev pub conv_of_form : Option Form → TextReading (Conv × List ℕ)
conv_of_form None = plain (Err kinds.Expr)
conv_of_form (Some form) = conv_of form.name form.args >>= λ conv. plain (Ok (conv, form.rest))

unfoldable pub conv_at : List ℕ → TextReading (Conv × List ℕ)
conv_at text = conv_of_form (form_in text)

-- the text goes on with this byte
abbrev pub goes_on : ℕ → List ℕ → Bool
goes_on byte [] = false
goes_on byte (b ∷ rest) = b == byte

-- the most converters of an expression
abbrev pub most_convs : ℕ
most_convs = 16

-- converters from here on, each behind a comma, of which so many more may come; and what is behind the last
unfoldable pub convs_from : (most : ℕ) → List Conv → List ℕ → TextReading (List Conv × List ℕ)
convs_from zero so_far text = if goes_on 44 text then plain (Err kinds.Limit) else plain (Ok (so_far, text))
convs_from (suc most) so_far text =
    if goes_on 44 text then (conv_at (drop 1 text) >>= λ found. convs_from most (so_far ++ found.0 ∷ []) found.1)
    else plain (Ok (so_far, text))

-- all converters of an expression
abbrev pub convs_at : List ℕ → TextReading (List Conv × List ℕ)
convs_at text = convs_from most_convs [] text

-- ---- expressions

-- an expression at the front of a text, and what is behind it
unfoldable pub written_at : Option Side → List ℕ → TextReading (Written × List ℕ)
written_at place text = do
  form ← plain (expected (form_in text))
  source ← plain (placed_source place form)
  convs ← convs_at source.1
  plain (Ok (record { source = source.0; convs = convs.0 }, convs.1))

-- an expression of a direction, and what is behind it
unfoldable pub expr_at : Side → List ℕ → TextReading (Expr × List ℕ)
expr_at side text = do
  written ← written_at (Some side) text
  expr ← plain (with_fetch side written.0)
  plain (Ok (expr, written.1))

-- nothing is behind an expression
abbrev pub ended : List ℕ → Told (Unit {0})
ended [] = Ok tt
ended (b ∷ rest) = Err kinds.Expr

-- a whole text as an expression of a direction
unfoldable pub expr_of : Side → List ℕ → TextReading Expr
expr_of side text = do
  found ← expr_at side text
  end ← plain (ended found.1)
  plain (Ok found.0)
