-- Where a walk over the samples of a fetch begins, and where it ends.
use Rattle.std.proofs.Common.{◌≡◌, ℕ, ◌<◌, ◌≤◌, ◌^◌, List, [], length, drop, Option, Some, None, ap, ◌∙◌, arith}
use Rattle.std.specs.Prelude.{◌==◌, if◌then◌else◌}
use Rattle.std.proofs.Math.ListN.{drop_of_length-le}
use Rattle.htx_model.specs.Block.{Block}
use Rattle.header_ops.specs.Lists.{values_named, fulls_named}
use Rattle.header_ops.specs.Walk.{values_onwards}
use Rattle.px_sample.specs.Sample.{Value}
use Rattle.px_sample.specs.declared.fetch.Fetch.{Fetch}
use Rattle.px_sample.specs.declared.fetch.Fetch.TheVariants as fetches
use Rattle.px_sample.specs.declared.place.Place.{Place}
use Rattle.http_fetch.specs.Fetches.{RequestAt, ResponseAt, header_samples, request_samples, response_samples}
use Rattle.http_fetch.specs.Walk.{read_left, left_of, request_left, response_left}
use Rattle.http_fetch.specs.declared.headers.Reading.{Reading}
use Rattle.http_fetch.specs.declared.headers.Reading.TheVariants as readings

-- one sample, at the first place
single : (samples : List (Option Value)) (place : Place) → place.at ≡ 0 → (if place.at == 0 then samples else []) ≡ samples
single samples place first = ap (λ (n : ℕ). if n == 0 then samples else []) first

-- at the first place all are left
pub start_request : (env : RequestAt) (fetch : Fetch) (place : Place) → place.at ≡ 0 → ((name : List ℕ) (blocks : List Block) → values_onwards name place.within (drop place.at blocks) ≡ values_named name blocks)
    → request_left env fetch place ≡ request_samples env fetch
start_request env (fetches.ReqHdr name None) place first whole = ap (λ (values : List (List ℕ)). header_samples values None) (whole name env.blocks)
start_request env (fetches.ReqFhdr name None) place first whole = ap (λ (n : ℕ). header_samples (fulls_named name (drop n env.blocks)) None) first
start_request env fetch place first whole = single (request_samples env fetch) place first

pub start_response : (env : ResponseAt) (fetch : Fetch) (place : Place) → place.at ≡ 0 → ((name : List ℕ) (blocks : List Block) → values_onwards name place.within (drop place.at blocks) ≡ values_named name blocks)
    → response_left env fetch place ≡ response_samples env fetch
start_response env (fetches.ResHdr name None) place first whole = ap (λ (values : List (List ℕ)). header_samples values None) (whole name env.blocks)
start_response env (fetches.ResFhdr name None) place first whole = ap (λ (n : ℕ). header_samples (fulls_named name (drop n env.blocks)) None) first
start_response env fetch place first whole = single (response_samples env fetch) place first

none_read : (reading : Reading) (name : List ℕ) (blocks : List Block) (place : Place) → length blocks ≤ place.at → read_left reading name blocks place ≡ []
none_read readings.Values name blocks place h = ap (values_onwards name place.within) (drop_of_length-le blocks h)
none_read readings.Wholes name blocks place h = ap (fulls_named name) (drop_of_length-le blocks h)

-- behind the last of so many blocks none is left
pub none_at_end : (field : Option (Reading × List ℕ)) (blocks : List Block) (samples : List (Option Value)) (place : Place) → place.at ≡ 4294967295 → length blocks < 2 ^ 32
    → left_of field blocks samples place ≡ []
none_at_end None blocks samples place end few = ap (λ (n : ℕ). if n == 0 then samples else []) end
none_at_end (Some field) blocks samples place end few = ap (λ (values : List (List ℕ)). header_samples values None) (none_read field.0 field.1 blocks place (omega (arith, end, few)))

-- the same is left of the same
pub same_left : (f g : Option (Reading × List ℕ)) (blocks : List Block) (s t : List (Option Value)) (place : Place) → f ≡ g → s ≡ t → left_of f blocks s place ≡ left_of g blocks t place
same_left f g blocks s t place fields samples =
    ap (λ (h : Option (Reading × List ℕ)). left_of h blocks s place) fields ∙ ap (λ (u : List (Option Value)). left_of g blocks u place) samples

pub ruleset starts = (start_request, start_response)
