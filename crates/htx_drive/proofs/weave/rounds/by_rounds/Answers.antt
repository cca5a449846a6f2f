use Rattle.htx_drive.proofs.weave.rounds.by_rounds.Goals as goal

pub returns-in-Err-clause-halted : goal.returns-in-Err-clause-halted
returns-in-Err-clause-halted g c = λ cfg prompt turns firsts budget all. c.in-Err.ensures.halted cfg prompt turns firsts budget (c.rounds.invariant.at cfg prompt turns firsts budget all)
