-- Expressions of a canonical text, and what is read of them.
use Rattle.std.specs.Prelude.{◌≡◌, ℕ, Bool, true, ◌==◌, List, [], ◌∷◌, ◌++◌, Ok}
use Rattle.std.specs.List.{flat_map}
use Rattle.px_pattern.specs.Pattern.{Pattern}
use Rattle.px_conv.specs.declared.conv.Conv.{Conv}
use Rattle.px_conv.specs.declared.conv.Conv.TheVariants.{Regsub}
use Rattle.px_expr.specs.declared.expr.Expr.{Expr}
use Rattle.cfg_expr.specs.declared.side.Side.{Side}
use Rattle.cfg_expr.specs.Exprs.{expr_at, expr_of}
use Rattle.cfg_print.specs.Exprs.{expr_text}
use Rattle.cfg_laws.specs.Spelled.{is_spelled}

-- ---- patterns

-- the pattern that a converter has
abbrev pub conv_patterns : Conv → List Pattern
conv_patterns (Regsub pat template which) = pat ∷ []
conv_patterns _ = []

-- the patterns of an expression, in its order
abbrev pub expr_patterns : Expr → List Pattern
expr_patterns expr = flat_map conv_patterns expr.convs

-- ---- laws

-- `]` stands there, or nothing
abbrev pub is_closed : List ℕ → Bool
is_closed [] = true
is_closed (b ∷ rest) = b == 93

-- an expression is read back, with the patterns that it has, and what is behind it is left
abbrev pub ExprsReadBack : Type 0
ExprsReadBack = (side : Side) (expr : Expr) (rest : List ℕ) → is_spelled side expr ≡ true → is_closed rest ≡ true
    → expr_at side (expr_text expr ++ rest) ≡ record { asks = expr_patterns expr; gives = Ok (expr, rest) }

-- a text that is an expression is read back
abbrev pub WholeExprsReadBack : Type 0
WholeExprsReadBack = (side : Side) (expr : Expr) → is_spelled side expr ≡ true → expr_of side (expr_text expr) ≡ record { asks = expr_patterns expr; gives = Ok expr }
