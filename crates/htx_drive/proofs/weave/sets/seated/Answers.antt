use Rattle.std.proofs.Common.{rules, ◌≡◌, None, inr}
use Rattle.px_pool.specs.Seats.{core_of}
use Rattle.htx_drive.proofs.weave.sets.seated.Goals as goal

pub returns-in-Set-clause-seated : goal.returns-in-Set-clause-seated
returns-in-Set-clause-seated g c =
    let none : core_of c.args.number c.args.pool.now ≡ None = search rules in
    inr (record { none = none; core = c.in-Set.ensures.core; free = c.in-Set.ensures.free })
