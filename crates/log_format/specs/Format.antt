-- The text of a format (Configuration Manual, section 8.2.6), over the samples of fetches.
use Rattle.std.specs.Prelude.{ℕ, Bool, false, List, [], length, nat_le, Option, Some, None, if◌then◌else◌}
use Rattle.std.specs.List.{list_any, flat_map}
use Rattle.px_sample.specs.Sample.{Value}
use Rattle.px_sample.specs.Cast.{text_of}
use Rattle.px_sample.specs.declared.fetch.Fetch.{Fetch}
use Rattle.px_expr.specs.Expr as exprs
use Rattle.log_format.specs.declared.fmt.Part.{Part}
use Rattle.log_format.specs.declared.fmt.Part.TheVariants.{Literal, Sample}
use Rattle.log_format.specs.declared.fmt.Fmt.{Fmt}

-- what a sample adds: its bytes, and nothing where it is absent or where they are more than a buffer holds
abbrev pub bytes_of : (cap : ℕ) → Option Value → List ℕ
bytes_of cap None = []
bytes_of cap (Some v) = if nat_le (length (text_of v)) cap then text_of v else []

-- the text of a part
abbrev pub part_text : (cap : ℕ) → (given : Fetch → List (Option Value)) → Part → List ℕ
part_text cap given (Literal bytes) = bytes
part_text cap given (Sample expr) = bytes_of cap (exprs.sample cap given expr)

-- the text of a format: those of its parts, joined
abbrev pub text : (cap : ℕ) → (given : Fetch → List (Option Value)) → Fmt → List ℕ
text cap given fmt = flat_map (part_text cap given) fmt.parts

-- a part with an expression that holds a pattern
abbrev pub part_holds_pattern : Part → Bool
part_holds_pattern (Literal bytes) = false
part_holds_pattern (Sample expr) = exprs.holds_pattern expr

-- one of the parts does
abbrev pub holds_pattern : Fmt → Bool
holds_pattern fmt = list_any part_holds_pattern fmt.parts
