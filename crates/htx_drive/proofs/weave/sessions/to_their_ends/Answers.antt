use Rattle.htx_drive.proofs.WeaveLemmas.All.{on_ok_at, on_err_at, of_on_ok, of_on_err}
use Rattle.htx_drive.proofs.weave.sessions.to_their_ends.Goals as goal

pub returns-in-Ok-clause-at : goal.returns-in-Ok-clause-at
returns-in-Ok-clause-at g c = on_ok_at c.by_rounds.result _ (λ a ok cfg prompt turns firsts budget all. of_on_ok c.by_rounds.result _ a ok c.by_rounds.ensures.at cfg prompt turns firsts budget (c.in-Ok.ensures.at cfg prompt turns firsts budget all))

pub returns-in-Ok-clause-halted : goal.returns-in-Ok-clause-halted
returns-in-Ok-clause-halted g c = on_err_at c.by_rounds.result _ (λ e err cfg prompt turns firsts budget all. of_on_err c.by_rounds.result _ e err c.by_rounds.ensures.halted cfg prompt turns firsts budget (c.in-Ok.ensures.at cfg prompt turns firsts budget all))
