-- Which fetches a direction has (Configuration Manual, section 7.3).
use Rattle.std.specs.Prelude.{Bool, true, false, not, Option, Some, None, Ok, Err, if◌then◌else◌}
use Rattle.px_sample.specs.declared.fetch.Fetch.{Fetch}
use Rattle.px_sample.specs.declared.fetch.Fetch.TheVariants as fetches
use Rattle.cfg_expr.specs.declared.fault.TextKind.TheVariants as kinds
use Rattle.cfg_expr.specs.declared.side.Side.{Side}
use Rattle.cfg_expr.specs.declared.side.Side.TheVariants.{Request, Response}
use Rattle.cfg_expr.specs.declared.source.Source.{Source}
use Rattle.cfg_expr.specs.declared.source.Source.TheVariants as sources
use Rattle.cfg_expr.specs.Faults.{Told}

-- a part of a request, which rules on responses don't have; they have the method
abbrev pub is_of_request : Fetch → Bool
is_of_request (fetches.ReqHdr name occurrence) = true
is_of_request (fetches.ReqFhdr name occurrence) = true
is_of_request (fetches.ReqHdrCnt name) = true
is_of_request fetches.Path = true
is_of_request fetches.Query = true
is_of_request fetches.Pathq = true
is_of_request fetches.Url = true
is_of_request fetches.Base = true
is_of_request (fetches.UrlParam name) = true
is_of_request fetches.ReqVer = true
is_of_request _ = false

-- a part of a response, which rules on requests don't have
abbrev pub is_of_response : Fetch → Bool
is_of_response (fetches.ResHdr name occurrence) = true
is_of_response (fetches.ResFhdr name occurrence) = true
is_of_response (fetches.ResHdrCnt name) = true
is_of_response fetches.ResVer = true
is_of_response fetches.Status = true
is_of_response _ = false

-- the direction has the fetch
abbrev pub is_on : Side → Fetch → Bool
is_on Request fetch = not (is_of_response fetch)
is_on Response fetch = not (is_of_request fetch)

-- the fetch that a source is in a direction: `hdr` is this direction's
abbrev pub on_side : Side → Source → Option Fetch
on_side Request (sources.Hdr name occurrence) = Some (fetches.ReqHdr name occurrence)
on_side Response (sources.Hdr name occurrence) = Some (fetches.ResHdr name occurrence)
on_side side (sources.Of fetch) = if is_on side fetch then Some fetch else None

-- the direction, where one is given, has the source
abbrev pub checked : Option Side → Source → Told (Unit {0})
checked None source = Ok tt
checked (Some side) (sources.Hdr name occurrence) = Ok tt
checked (Some side) (sources.Of fetch) = if is_on side fetch then Ok tt else Err kinds.Expr
