-- What a fetch has found, before it is copied.
use Rattle.std.specs.Prelude.{ℕ, List, ◌++◌, Option, Some, None}
use Rattle.htx_model.specs.Block.{Block}
use Rattle.header_ops.specs.Lists.{values_named, fulls_named}
use Rattle.px_sample.specs.Sample.{Value, Truth, Number, Bytes}
use Rattle.px_sample.specs.Variables.{variable}
use Rattle.http_fetch.specs.declared.found.Found.{Found}
use Rattle.http_fetch.specs.declared.found.Found.TheVariants as found
use Rattle.http_fetch.specs.declared.headers.Reading.{Reading}
use Rattle.http_fetch.specs.declared.headers.Reading.TheVariants as readings

-- the value that is found
abbrev pub value_of : Found → Option Value
value_of found.Absent = None
value_of (found.Truth b) = Some (Truth b)
value_of (found.Number n) = Some (Number n)
value_of (found.Bytes bytes) = Some (Bytes bytes.now)
value_of (found.Joined a b c) = Some (Bytes (a.now ++ (b.now ++ c.now)))
value_of (found.Variable vars scope name) = variable vars.now scope name.now

-- the values of the headers of a name, or their whole values
abbrev pub read_named : Reading → List ℕ → List Block → List (List ℕ)
read_named readings.Values name blocks = values_named name blocks
read_named readings.Wholes name blocks = fulls_named name blocks
