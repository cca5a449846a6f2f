use Rattle.htx_drive.proofs.session.client_turn.Goals as goal

pub returns-clause-goes : goal.returns-clause-goes
returns-clause-goes g c = λ cfg all budget spare first past h.
    rw c.next-turn.ensures.rest (c.turn_idle.ensures.goes cfg all (g.T.Turns.left c.args.turns.now) budget spare first past c.next-turn.ensures.first h)
