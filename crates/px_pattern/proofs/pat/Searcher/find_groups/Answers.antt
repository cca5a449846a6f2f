use Rattle.std.proofs.Common.{arith}
use Rattle.std.proofs.lemmas.Result.{IfOk-weaker}
use Rattle.px_pattern.proofs.Alike.{found_alike}
use Rattle.px_pattern.proofs.pat.Searcher.find_groups.Goals as goal

pub returns-clause-found : goal.returns-clause-found
returns-clause-found c =
    rw (← c.self.view_is) (IfOk-weaker _ _ _ (found_alike c.self.invariant c.args.text.now (λ k. omega (arith, c.type_inv.text k))) c.groups_by.ensures.found)
