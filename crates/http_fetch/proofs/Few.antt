-- A fetch has fewer samples than a message has bytes.
use Rattle.std.proofs.Common.{ℕ, ◌<◌, ◌^◌, ℤ, List, length, Option, Some, None, arith}
use Rattle.std.proofs.lemmas.List.{length-map}
use Rattle.htx_model.specs.Block.{Block}
use Rattle.http_model.specs.Blocks.{load}
use Rattle.header_ops.specs.Lists.{values_named, fulls_named}
use Rattle.header_ops.proofs.PublicLaws.{few_values, few_fulls}
use Rattle.px_sample.specs.Sample.{Bytes}
use Rattle.px_sample.specs.declared.fetch.Fetch.{Fetch}
use Rattle.px_sample.specs.declared.fetch.Fetch.TheVariants as fetches
use Rattle.http_fetch.specs.Found.{read_named}
use Rattle.http_fetch.specs.declared.headers.Reading.{Reading}
use Rattle.http_fetch.specs.declared.headers.Reading.TheVariants as readings
use Rattle.http_fetch.specs.Fetches.{RequestAt, ResponseAt, header_samples, request_samples, response_samples}

-- the values of a field
pub few_read : (reading : Reading) (name : List ℕ) (blocks : List Block) → length blocks < 2 ^ 32 → load blocks < 2 ^ 32 → length (read_named reading name blocks) < 2 ^ 32
few_read readings.Values name blocks count weight = omega (arith, few_values name blocks, weight)
few_read readings.Wholes name blocks count weight = omega (arith, few_fulls name blocks, count)

few_headers : (values : List (List ℕ)) (at : Option ℤ) → length values < 2 ^ 32 → length (header_samples values at) < 2 ^ 32
few_headers values None h = omega (arith, length-map values (λ value. Some (Bytes value)), h)
few_headers values (Some at) h = omega arith

pub few_request : (env : RequestAt) (fetch : Fetch) → length env.blocks < 2 ^ 32 → load env.blocks < 2 ^ 32 → length (request_samples env fetch) < 2 ^ 32
few_request env (fetches.ReqHdr name at) count weight = few_headers (values_named name env.blocks) at (omega (arith, few_values name env.blocks, weight))
few_request env (fetches.ReqFhdr name at) count weight = few_headers (fulls_named name env.blocks) at (omega (arith, few_fulls name env.blocks, count))
few_request env (fetches.ReqHdrCnt name) count weight = omega arith
few_request env fetches.Path count weight = omega arith
few_request env fetches.Query count weight = omega arith
few_request env fetches.Pathq count weight = omega arith
few_request env fetches.Url count weight = omega arith
few_request env fetches.Base count weight = omega arith
few_request env (fetches.UrlParam name) count weight = omega arith
few_request env fetches.Method count weight = omega arith
few_request env fetches.ReqVer count weight = omega arith
few_request env (fetches.Var scope name) count weight = omega arith
few_request env (fetches.Str text) count weight = omega arith
few_request env (fetches.Int number) count weight = omega arith
few_request env (fetches.Bool truth) count weight = omega arith
few_request env fetches.AlwaysTrue count weight = omega arith
few_request env fetches.AlwaysFalse count weight = omega arith
few_request env (fetches.ResHdr name at) count weight = omega arith
few_request env (fetches.ResFhdr name at) count weight = omega arith
few_request env (fetches.ResHdrCnt name) count weight = omega arith
few_request env fetches.ResVer count weight = omega arith
few_request env fetches.Status count weight = omega arith

pub few_response : (env : ResponseAt) (fetch : Fetch) → length env.blocks < 2 ^ 32 → load env.blocks < 2 ^ 32 → length (response_samples env fetch) < 2 ^ 32
few_response env (fetches.ReqHdr name at) count weight = omega arith
few_response env (fetches.ReqFhdr name at) count weight = omega arith
few_response env (fetches.ReqHdrCnt name) count weight = omega arith
few_response env fetches.Path count weight = omega arith
few_response env fetches.Query count weight = omega arith
few_response env fetches.Pathq count weight = omega arith
few_response env fetches.Url count weight = omega arith
few_response env fetches.Base count weight = omega arith
few_response env (fetches.UrlParam name) count weight = omega arith
few_response env fetches.Method count weight = omega arith
few_response env fetches.ReqVer count weight = omega arith
few_response env (fetches.Var scope name) count weight = omega arith
few_response env (fetches.Str text) count weight = omega arith
few_response env (fetches.Int number) count weight = omega arith
few_response env (fetches.Bool truth) count weight = omega arith
few_response env fetches.AlwaysTrue count weight = omega arith
few_response env fetches.AlwaysFalse count weight = omega arith
few_response env (fetches.ResHdr name at) count weight = few_headers (values_named name env.blocks) at (omega (arith, few_values name env.blocks, weight))
few_response env (fetches.ResFhdr name at) count weight = few_headers (fulls_named name env.blocks) at (omega (arith, few_fulls name env.blocks, count))
few_response env (fetches.ResHdrCnt name) count weight = omega arith
few_response env fetches.ResVer count weight = omega arith
few_response env fetches.Status count weight = omega arith

pub ruleset few = (few_request, few_response)
