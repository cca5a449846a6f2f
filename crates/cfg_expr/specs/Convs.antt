-- Converters by their names and arguments (Configuration Manual, section 7.3.1).
use Rattle.std.specs.Prelude.{ℕ, pos, Bool, false, ◌||◌, ◌==◌, List, [], ◌∷◌, Option, Some, None, Ok, Err, if◌then◌else◌, codes}
use Rattle.std.specs.List.{list_any, list_all}
use Rattle.std.specs.Str.{bytes_eq}
use Rattle.px_pattern.specs.Pattern.{Pattern}
use Rattle.px_conv.specs.declared.conv.Conv.{Conv}
use Rattle.px_conv.specs.declared.conv.Conv.TheVariants as convs
use Rattle.px_conv.specs.declared.conv.Matches.{Matches}
use Rattle.px_conv.specs.declared.conv.Matches.TheVariants.{First, All}
use Rattle.cfg_expr.specs.declared.fault.TextKind.TheVariants.{Expr}
use Rattle.cfg_expr.specs.Steps.{◌>>=◌}
use Rattle.cfg_expr.specs.Faults.{Told}
use Rattle.cfg_expr.specs.Fetches.{expected, number, count}

-- without brackets
unfoldable pub bare_conv : List ℕ → Option Conv
bare_conv name =
    if bytes_eq name (codes "lower") then Some convs.Lower
    else (if bytes_eq name (codes "upper") then Some convs.Upper
    else (if bytes_eq name (codes "length") then Some convs.Length
    else (if bytes_eq name (codes "neg") then Some convs.Neg
    else (if bytes_eq name (codes "not") then Some convs.Not
    else (if bytes_eq name (codes "bool") then Some convs.Bool
    else (if bytes_eq name (codes "base64") then Some convs.Base64
    else (if bytes_eq name (codes "hex") then Some convs.Hex
    else (if bytes_eq name (codes "url_dec") then Some convs.UrlDec
    else None))))))))

-- one argument
unfoldable pub conv_with_one : (name arg : List ℕ) → Told Conv
conv_with_one name arg =
    if bytes_eq name (codes "bytes") then (count arg >>= λ n. Ok (convs.Bytes n None))
    else (if bytes_eq name (codes "add") then (number arg >>= λ n. Ok (convs.Add n))
    else (if bytes_eq name (codes "sub") then (number arg >>= λ n. Ok (convs.Sub n))
    else (if bytes_eq name (codes "mul") then (number arg >>= λ n. Ok (convs.Mul n))
    else (if bytes_eq name (codes "div") then (number arg >>= λ n. Ok (convs.Div n))
    else (if bytes_eq name (codes "mod") then (number arg >>= λ n. Ok (convs.Mod n))
    else Err Expr)))))

-- two arguments; one field or word is taken where no count stands
unfoldable pub conv_with_two : (name first second : List ℕ) → Told Conv
conv_with_two name first second =
    if bytes_eq name (codes "bytes") then (count first >>= λ offset. count second >>= λ len. Ok (convs.Bytes offset (Some len)))
    else (if bytes_eq name (codes "field") then (number first >>= λ index. Ok (convs.Field index second (pos 1)))
    else (if bytes_eq name (codes "word") then (number first >>= λ index. Ok (convs.Word index second (pos 1)))
    else (if bytes_eq name (codes "iif") then Ok (convs.Iif first second)
    else Err Expr)))

-- three arguments
unfoldable pub conv_with_three : (name first second third : List ℕ) → Told Conv
conv_with_three name first second third =
    if bytes_eq name (codes "field") then (number first >>= λ index. count third >>= λ n. Ok (convs.Field index second n))
    else (if bytes_eq name (codes "word") then (number first >>= λ index. count third >>= λ n. Ok (convs.Word index second n))
    else Err Expr)

-- the converter of a name and its arguments, but for `regsub`
unfoldable pub plain_conv : List ℕ → List (List ℕ) → Told Conv
plain_conv name [] = expected (bare_conv name)
plain_conv name (arg ∷ []) = conv_with_one name arg
plain_conv name (first ∷ second ∷ []) = conv_with_two name first second
plain_conv name (first ∷ second ∷ third ∷ []) = conv_with_three name first second third
plain_conv name (first ∷ second ∷ third ∷ fourth ∷ others) = Err Expr

-- ---- regsub

-- whether case is ignored, and which matches are replaced
pub record Flags : Type 0 where
  pub icase : Bool
  pub which : Matches

abbrev pub is_flag : ℕ → Bool
is_flag b = b == 103 || b == 105

-- the letters `g` and `i`
abbrev pub flags_of : List ℕ → Told Flags
flags_of text =
    if list_all is_flag text then Ok (record { icase = list_any (λ b. b == 105) text; which = if list_any (λ b. b == 103) text then All else First }) else Err Expr

abbrev pub no_flags : Flags
no_flags = record { icase = false; which = First }

-- the pattern, the template and the flags
pub record Replacing : Type 0 where
  pub pattern : Pattern
  pub template : List ℕ
  pub which : Matches

abbrev pub replacing : (text template : List ℕ) → Flags → Replacing
replacing text template flags = record { pattern = record { text = text; icase = flags.icase }; template = template; which = flags.which }

-- the arguments of `regsub`: how many there are, then the flags
unfoldable pub replacing_of : List (List ℕ) → Told Replacing
replacing_of (text ∷ template ∷ []) = Ok (replacing text template no_flags)
replacing_of (text ∷ template ∷ letters ∷ []) = flags_of letters >>= λ flags. Ok (replacing text template flags)
replacing_of _ = Err Expr
