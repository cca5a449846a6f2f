use Rattle.htx_drive.proofs.serve.serve_turn.Goals as goal

pub returns-clause-goes : goal.returns-clause-goes
returns-clause-goes g c = λ cfg all budget spare first first_link before past k h.
    rw c.next-turn.ensures.rest (c.turn_open.ensures.goes cfg all (g.T.Turns.left c.args.turns.now) budget spare first first_link before past k c.next-turn.ensures.first h)
