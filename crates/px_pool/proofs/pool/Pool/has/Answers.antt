use Rattle.std.proofs.Common.{rules, ◌≡◌, false}
use Rattle.px_pool.specs.Owners.{has_one}
use Rattle.px_pool.proofs.Taken.{has_none}
use Rattle.px_pool.proofs.pool.Pool.has.Goals as goal

pub returns-clause-none : goal.returns-clause-none
returns-clause-none g c = λ h.
    let no : has_one c.args.conn c.args.self.now.owners ≡ false = search rules in
    has_none c.args.conn c.args.self.now.owners c.args.self.now.cores no
