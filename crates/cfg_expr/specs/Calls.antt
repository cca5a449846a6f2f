-- The form of a fetch or a converter in a text: a name, and arguments in brackets (Configuration Manual, section 7.3).
use Rattle.std.specs.Prelude.{ℕ, zero, suc, ◌+◌, Bool, ◌||◌, ◌==◌, List, [], ◌∷◌, length, take, drop, position, Option, Some, None, option_map, unwrap_or, if◌then◌else◌}
use Rattle.std.specs.List.{list_any}
use Rattle.cfg_expr.specs.declared.call.Args.{Args}
use Rattle.cfg_expr.specs.declared.call.Args.TheVariants as counts
use Rattle.cfg_expr.specs.declared.call.Stop.{Stop}
use Rattle.cfg_expr.specs.declared.call.Stop.TheVariants.{Comma, End}
use Rattle.cfg_expr.specs.declared.call.Call as written

-- ---- bytes

abbrev pub is_blank : ℕ → Bool
is_blank b = b == 32 || b == 9

abbrev pub is_quote : ℕ → Bool
is_quote b = b == 39

-- a comma or `)`
abbrev pub ends_argument : ℕ → Bool
ends_argument b = b == 44 || b == 41

-- `(`, a comma or `]`
abbrev pub ends_name : ℕ → Bool
ends_name b = b == 40 || b == 44 || b == 93

-- ---- arguments

-- in single quotes: up to the next one, whatever stands between
abbrev pub quoted_at : List ℕ → Option ℕ → Option (List ℕ × List ℕ)
quoted_at text None = None
quoted_at text (Some at) = Some (take at text, drop (at + 1) text)

-- without: up to a comma or `)`, and no blank
abbrev pub bare_at : List ℕ → Option ℕ → Option (List ℕ × List ℕ)
bare_at text None = None
bare_at text (Some at) = if list_any is_blank (take at text) then None else Some (take at text, drop at text)

-- an argument at the front of a text, and what follows it; none where it is malformed
unfoldable pub argument : List ℕ → Option (List ℕ × List ℕ)
argument [] = None
argument (b ∷ rest) =
    if is_quote b then quoted_at rest (position is_quote rest) else bare_at (b ∷ rest) (position ends_argument (b ∷ rest))

-- what stands behind an argument: a comma or `)`
unfoldable pub stop_in : List ℕ → Option (Stop × List ℕ)
stop_in [] = None
stop_in (b ∷ rest) = if b == 44 then Some (Comma, rest) else (if b == 41 then Some (End, rest) else None)

-- with an argument in front of others
abbrev pub put : List ℕ → List (List ℕ) × List ℕ → List (List ℕ) × List ℕ
put arg others = (arg ∷ others.0, others.1)

-- what follows an argument: the end, or a comma and the arguments behind it
abbrev pub by_stop : (List ℕ → Option (List (List ℕ) × List ℕ)) → List ℕ → Option (Stop × List ℕ) → Option (List (List ℕ) × List ℕ)
by_stop more arg None = None
by_stop more arg (Some (End, rest)) = Some (arg ∷ [], rest)
by_stop more arg (Some (Comma, rest)) = option_map (put arg) (more rest)

abbrev pub behind_argument : (List ℕ → Option (List (List ℕ) × List ℕ)) → Option (List ℕ × List ℕ) → Option (List (List ℕ) × List ℕ)
behind_argument more None = None
behind_argument more (Some (arg, rest)) = by_stop more arg (stop_in rest)

-- the arguments up to `)`, of which there may be so many, and what is behind it
abbrev pub arguments : (most : ℕ) → List ℕ → Option (List (List ℕ) × List ℕ)
arguments zero text = None
arguments (suc most) text = behind_argument (arguments most) (argument text)

-- ---- the whole form

-- a name, its arguments, of which there are none without brackets, and what is behind them
pub record Form : Type 0 where
  pub name : List ℕ
  pub args : List (List ℕ)
  pub rest : List ℕ

-- how many bytes the name at the front of a text has
abbrev pub name_len : List ℕ → ℕ
name_len text = unwrap_or (position ends_name text) (length text)

-- with the arguments of the name
abbrev pub with_arguments : List ℕ → List ℕ → Option Form
with_arguments name [] = Some (record { name = name; args = []; rest = [] })
with_arguments name (b ∷ rest) =
    if b == 40 then option_map (λ found. record { name = name; args = found.0; rest = found.1 }) (arguments 3 rest)
    else Some (record { name = name; args = []; rest = b ∷ rest })

-- what stands at the front of a text; none where its arguments are malformed. No fetch or converter has more than three.
unfoldable pub form_in : List ℕ → Option Form
form_in text = with_arguments (take (name_len text) text) (drop (name_len text) text)

-- ---- how code has them

abbrev pub args_of : Args → List (List ℕ)
args_of counts.Bare = []
args_of (counts.One first) = first.now ∷ []
args_of (counts.Two first second) = first.now ∷ second.now ∷ []
args_of (counts.Three first second third) = first.now ∷ second.now ∷ third.now ∷ []

abbrev pub form_of : written.Call → Form
form_of call = record { name = call.name.now; args = args_of call.args; rest = call.rest.now }
