use Rattle.std.proofs.Common.{refl}
use Rattle.htx_drive.proofs.Handing.{no_both}
use Rattle.htx_drive.proofs.Turning.{taken_of, takes_turn}
use Rattle.htx_drive.proofs.Stepping.{client_turn, client_fault, rest}
use Rattle.htx_drive.proofs.turn.turn_idle.Goals as goal

pub returns-in-Nothing-clause-goes : goal.returns-in-Nothing-clause-goes
returns-in-Nothing-clause-goes g c = λ cfg all ahead budget spare first past e h.
    rest (g.C.Machine.stands cfg) g.C.Machine.seen all ahead _ budget spare _ _ _ _ (taken_of _ _ _ _ _ _ _ e refl c.requires.wants c.in-Nothing.ensures.is (takes_turn _ c.requires.some c.requires.no_open c.requires.no_close c.requires.going)) refl first _ past h

pub returns-in-ClientRead-clause-goes : goal.returns-in-ClientRead-clause-goes
returns-in-ClientRead-clause-goes g c = λ cfg all ahead budget spare first past e h.
    client_turn (g.C.Machine.stands cfg) g.C.Machine.seen all ahead _ budget spare _ _ _ _ _ (taken_of _ _ _ _ _ _ _ e refl c.requires.wants c.in-ClientRead.ensures.is (takes_turn _ c.requires.some c.requires.no_open c.requires.no_close c.requires.going)) first _ _ past h (c.read_client.ensures.moves cfg first past)

pub returns-in-Ok-clause-goes : goal.returns-in-Ok-clause-goes
returns-in-Ok-clause-goes g c = λ cfg all ahead budget spare first past e h.
    client_turn (g.C.Machine.stands cfg) g.C.Machine.seen all ahead _ budget spare _ _ _ _ _ (taken_of _ _ _ _ _ _ _ e refl c.requires.wants c.in-ClientWrite.ensures.is (takes_turn _ c.requires.some c.requires.no_open c.requires.no_close c.requires.going)) first _ _ past h (c.in-Ok.ensures.moves cfg first past)

pub returns-in-Err-clause-goes : goal.returns-in-Err-clause-goes
returns-in-Err-clause-goes g c = λ cfg all ahead budget spare first past e h.
    client_fault (g.C.Machine.stands cfg) g.C.Machine.seen all ahead _ budget spare _ _ _ _ _ (taken_of _ _ _ _ _ _ _ e refl c.requires.wants c.in-ClientWrite.ensures.is (takes_turn _ c.requires.some c.requires.no_open c.requires.no_close c.requires.going)) refl first _ _ _ past h (c.in-Err.ensures.moves cfg first past)

pub returns-in-ServerRead-clause-goes : goal.returns-in-ServerRead-clause-goes
returns-in-ServerRead-clause-goes g c = λ cfg all ahead budget spare first past e h.
    absurd (no_both _ c.in-ServerRead.ensures.wanted.0 c.requires.no_read)

pub returns-in-ServerWrite-clause-goes : goal.returns-in-ServerWrite-clause-goes
returns-in-ServerWrite-clause-goes g c = λ cfg all ahead budget spare first past e h.
    absurd (no_both _ c.in-ServerWrite.ensures.wanted.0 c.requires.no_write)
