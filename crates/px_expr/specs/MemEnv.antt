-- What an environment in memory gives.
use Rattle.std.specs.Prelude.{true, false, List, [], ◌∷◌, map, Option, Some, None}
use Rattle.px_sample.specs.Sample.{Value, Truth, Number, Bytes}
use Rattle.px_sample.specs.declared.fetch.Fetch.{Fetch}
use Rattle.px_sample.specs.declared.fetch.Fetch.TheVariants as fetches
use Rattle.px_expr.specs.declared.mem_env.Given.{Given}
use Rattle.px_expr.specs.declared.mem_env.Given.TheVariants as givens

-- the sample that is handed in
abbrev pub value_of : Given → Option Value
value_of givens.Absent = None
value_of (givens.Truth b) = Some (Truth b)
value_of (givens.Number n) = Some (Number n)
value_of (givens.Bytes bytes) = Some (Bytes bytes.now)

-- the samples of a fetch: those that are handed in, but for a fetch that says its own
abbrev pub samples_in : List Given → Fetch → List (Option Value)
samples_in given (fetches.Str text) = Some (Bytes text) ∷ []
samples_in given (fetches.Int n) = Some (Number n) ∷ []
samples_in given (fetches.Bool b) = Some (Truth b) ∷ []
samples_in given fetches.AlwaysTrue = Some (Truth true) ∷ []
samples_in given fetches.AlwaysFalse = Some (Truth false) ∷ []
samples_in given _ = map value_of given
