-- The text of a format: texts, in which `%` is doubled, and `%[expression]` (Configuration Manual, section 8.2.6).
use Rattle.std.specs.Prelude.{ℕ, List, [], ◌∷◌, ◌++◌, ◌==◌, if◌then◌else◌}
use Rattle.std.specs.List.{flat_map}
use Rattle.log_format.specs.declared.fmt.Part.{Part}
use Rattle.log_format.specs.declared.fmt.Part.TheVariants.{Literal, Sample}
use Rattle.log_format.specs.declared.fmt.Fmt.{Fmt}
use Rattle.cfg_print.specs.Exprs.{expr_text}

-- a byte of a text
abbrev pub doubled : ℕ → List ℕ
doubled b = if b == 37 then 37 ∷ 37 ∷ [] else b ∷ []

unfoldable pub part_text : Part → List ℕ
part_text (Literal text) = flat_map doubled text
part_text (Sample expr) = 37 ∷ 91 ∷ expr_text expr ++ 93 ∷ []

unfoldable pub format_text : Fmt → List ℕ
format_text fmt = flat_map part_text fmt.parts
