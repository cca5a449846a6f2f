-- What is left of the samples of a fetch at a place.
use Rattle.std.specs.Prelude.{ℕ, ℤ, ◌==◌, List, [], drop, Option, Some, None, if◌then◌else◌}
use Rattle.htx_model.specs.Block.{Block}
use Rattle.header_ops.specs.Lists.{fulls_named}
use Rattle.header_ops.specs.Walk.{values_onwards}
use Rattle.px_sample.specs.Sample.{Value}
use Rattle.px_sample.specs.declared.fetch.Fetch.{Fetch}
use Rattle.px_sample.specs.declared.fetch.Fetch.TheVariants as fetches
use Rattle.px_sample.specs.declared.place.Place.{Place}
use Rattle.http_fetch.specs.Fetches.{RequestAt, ResponseAt, one, header_samples, request_samples, response_samples}
use Rattle.http_fetch.specs.Found.{value_of, read_named}
use Rattle.http_fetch.specs.declared.headers.Reading.{Reading}
use Rattle.http_fetch.specs.declared.headers.Reading.TheVariants as readings
use Rattle.http_fetch.specs.declared.given.Given.{Given}
use Rattle.http_fetch.specs.declared.given.Given.TheVariants as givens

-- the values of a field, or its whole values, that are left at a place
abbrev pub read_left : Reading → List ℕ → List Block → Place → List (List ℕ)
read_left readings.Values name blocks place = values_onwards name place.within (drop place.at blocks)
read_left readings.Wholes name blocks place = fulls_named name (drop place.at blocks)

-- a field of which each value is a sample
abbrev pub field_of : Reading → List ℕ → Option ℤ → Option (Reading × List ℕ)
field_of reading name None = Some (reading, name)
field_of reading name (Some occurrence) = None

-- the samples that are left: values of a field, or the only sample where the walk has not begun
abbrev pub left_of : Option (Reading × List ℕ) → List Block → List (Option Value) → Place → List (Option Value)
left_of (Some field) blocks samples place = header_samples (read_left field.0 field.1 blocks place) None
left_of None blocks samples place = if place.at == 0 then samples else []

-- the field of a fetch in a request, where each of its values is a sample
abbrev pub request_field : Fetch → Option (Reading × List ℕ)
request_field (fetches.ReqHdr name occurrence) = field_of readings.Values name occurrence
request_field (fetches.ReqFhdr name occurrence) = field_of readings.Wholes name occurrence
request_field _ = None

-- the same in a response
abbrev pub response_field : Fetch → Option (Reading × List ℕ)
response_field (fetches.ResHdr name occurrence) = field_of readings.Values name occurrence
response_field (fetches.ResFhdr name occurrence) = field_of readings.Wholes name occurrence
response_field _ = None

-- the samples of a fetch that are left in a request
abbrev pub request_left : RequestAt → Fetch → Place → List (Option Value)
request_left at fetch place = left_of (request_field fetch) at.blocks (request_samples at fetch) place

-- the same in a response
abbrev pub response_left : ResponseAt → Fetch → Place → List (Option Value)
response_left at fetch place = left_of (response_field fetch) at.blocks (response_samples at fetch) place

-- the samples that are made of a field or of one thing that was found
abbrev pub given_samples : List Block → Given → List (Option Value)
given_samples blocks (givens.Field reading name) = header_samples (read_named reading name.now blocks) None
given_samples blocks (givens.One found) = one (value_of found)

-- the field that they are made of
abbrev pub given_field : Given → Option (Reading × List ℕ)
given_field (givens.Field reading name) = Some (reading, name.now)
given_field (givens.One found) = None

-- those that are left at a place
abbrev pub given_left : List Block → Given → Place → List (Option Value)
given_left blocks given place = left_of (given_field given) blocks (given_samples blocks given) place
