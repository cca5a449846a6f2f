-- Formats of a canonical text, and what is read of them.
use Rattle.std.specs.Prelude.{◌≡◌, true, List, [], Ok}
use Rattle.std.specs.List.{flat_map}
use Rattle.px_pattern.specs.Pattern.{Pattern}
use Rattle.log_format.specs.declared.fmt.Part.{Part}
use Rattle.log_format.specs.declared.fmt.Part.TheVariants.{Literal, Sample}
use Rattle.log_format.specs.declared.fmt.Fmt.{Fmt}
use Rattle.cfg_expr.specs.declared.side.Side.{Side}
use Rattle.cfg_expr.specs.Formats.{format_of}
use Rattle.cfg_print.specs.Formats.{format_text}
use Rattle.cfg_laws.specs.Spelled.{is_spelled_format}
use Rattle.cfg_laws.specs.Laws.Exprs.{expr_patterns}

-- the patterns of a part
abbrev pub part_patterns : Part → List Pattern
part_patterns (Literal text) = []
part_patterns (Sample expr) = expr_patterns expr

-- the patterns of a format, in its order
abbrev pub format_patterns : Fmt → List Pattern
format_patterns fmt = flat_map part_patterns fmt.parts

-- a format is read back, with the patterns that it has
abbrev pub FormatsReadBack : Type 0
FormatsReadBack = (side : Side) (fmt : Fmt) → is_spelled_format side fmt ≡ true → format_of side (format_text fmt) ≡ record { asks = format_patterns fmt; gives = Ok fmt }
