-- The samples of an expression, over those of its fetch (Configuration Manual, section 7.1).
use Rattle.std.specs.Prelude.{ℕ, Bool, List, map, fold, Option}
use Rattle.std.specs.List.{list_any}
use Rattle.px_sample.specs.Sample.{Value, within}
use Rattle.px_sample.specs.Fetched.{all_within, last_of}
use Rattle.px_sample.specs.declared.fetch.Fetch.{Fetch}
use Rattle.px_conv.specs.Conv.{converted, has_pattern}
use Rattle.px_conv.specs.declared.conv.Conv.{Conv}
use Rattle.px_expr.specs.declared.expr.Expr.{Expr}

-- a sample put through converters, in their order, where a buffer holds so many bytes
abbrev pub put_through : ℕ → List Conv → Option Value → Option Value
put_through cap convs v = fold (λ made conv. converted cap conv made) v convs

-- the sample of an expression: the last of its fetch, put through the converters
abbrev pub sample : ℕ → (given : Fetch → List (Option Value)) → Expr → Option Value
sample cap given expr = put_through cap expr.convs (within cap (last_of (given expr.fetch)))

-- the samples that a condition tries: each of the fetch, put through the converters
abbrev pub samples : ℕ → (given : Fetch → List (Option Value)) → Expr → List (Option Value)
samples cap given expr = map (put_through cap expr.convs) (all_within cap (given expr.fetch))

-- one of the converters holds a pattern
abbrev pub holds_pattern : Expr → Bool
holds_pattern expr = list_any has_pattern expr.convs
