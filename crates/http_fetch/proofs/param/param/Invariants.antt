use Rattle.std.proofs.Common.{◌≡◌, length}
use Rattle.http_fetch.specs.Param.{param}
use Rattle.http_fetch.proofs.param.param.Given as goal

abbrev pub invariant-parts : goal.invariant-parts
invariant-parts l = param l.name l.rest ≡ param l.name l.query

abbrev pub decreases-parts : goal.decreases-parts
decreases-parts l = length l.rest
