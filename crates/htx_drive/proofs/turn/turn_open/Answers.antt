use Rattle.std.proofs.Common.{refl}
use Rattle.htx_drive.proofs.Turning.{taken_of, takes_turn}
use Rattle.htx_drive.proofs.Stepping.{client_turn_in_hand, client_fault_in_hand, server_turn_in_hand, server_fault_in_hand, rest_in_hand}
use Rattle.htx_drive.proofs.turn.turn_open.Goals as goal

pub returns-in-Nothing-clause-goes : goal.returns-in-Nothing-clause-goes
returns-in-Nothing-clause-goes g c = λ cfg all ahead budget spare first first_link before past k e h.
    rest_in_hand (g.C.Machine.stands cfg) g.C.Machine.seen all ahead _ budget spare _ _ _ _ (taken_of _ _ _ _ _ _ _ e refl c.requires.wants c.in-Nothing.ensures.is (takes_turn _ c.requires.some c.requires.no_open c.requires.no_close c.requires.going)) refl first _ first_link _ before past k h

pub returns-in-ClientRead-clause-goes : goal.returns-in-ClientRead-clause-goes
returns-in-ClientRead-clause-goes g c = λ cfg all ahead budget spare first first_link before past k e h.
    client_turn_in_hand (g.C.Machine.stands cfg) g.C.Machine.seen all ahead _ budget spare _ _ _ _ _ (taken_of _ _ _ _ _ _ _ e refl c.requires.wants c.in-ClientRead.ensures.is (takes_turn _ c.requires.some c.requires.no_open c.requires.no_close c.requires.going)) first _ _ first_link _ before past k h (c.read_client.ensures.moves cfg first past)

pub returns-in-Ok-clause-goes : goal.returns-in-Ok-clause-goes
returns-in-Ok-clause-goes g c = λ cfg all ahead budget spare first first_link before past k e h.
    client_turn_in_hand (g.C.Machine.stands cfg) g.C.Machine.seen all ahead _ budget spare _ _ _ _ _ (taken_of _ _ _ _ _ _ _ e refl c.requires.wants c.in-ClientWrite.ensures.is (takes_turn _ c.requires.some c.requires.no_open c.requires.no_close c.requires.going)) first _ _ first_link _ before past k h (c.in-Ok.ensures.moves cfg first past)

pub returns-in-Err-clause-goes : goal.returns-in-Err-clause-goes
returns-in-Err-clause-goes g c = λ cfg all ahead budget spare first first_link before past k e h.
    client_fault_in_hand (g.C.Machine.stands cfg) g.C.Machine.seen all ahead _ budget spare _ _ _ _ _ (taken_of _ _ _ _ _ _ _ e refl c.requires.wants c.in-ClientWrite.ensures.is (takes_turn _ c.requires.some c.requires.no_open c.requires.no_close c.requires.going)) refl first _ _ first_link _ _ before past k h (c.in-Err.ensures.moves cfg first past)

pub returns-in-ServerRead-clause-goes : goal.returns-in-ServerRead-clause-goes
returns-in-ServerRead-clause-goes g c = λ cfg all ahead budget spare first first_link before past k e h.
    server_turn_in_hand (g.C.Machine.stands cfg) g.C.Machine.seen all ahead _ budget spare _ _ _ _ _ (taken_of _ _ _ _ _ _ _ e refl c.requires.wants c.in-ServerRead.ensures.is (takes_turn _ c.requires.some c.requires.no_open c.requires.no_close c.requires.going)) first _ first_link _ _ before past k h (c.read_server.ensures.moves cfg first_link before past k)

pub returns-in-Ok-write_server-clause-goes : goal.returns-in-Ok-write_server-clause-goes
returns-in-Ok-write_server-clause-goes g c = λ cfg all ahead budget spare first first_link before past k e h.
    server_turn_in_hand (g.C.Machine.stands cfg) g.C.Machine.seen all ahead _ budget spare _ _ _ _ _ (taken_of _ _ _ _ _ _ _ e refl c.requires.wants c.in-ServerWrite.ensures.is (takes_turn _ c.requires.some c.requires.no_open c.requires.no_close c.requires.going)) first _ first_link _ _ before past k h (c.in-Ok-write_server.ensures.moves cfg first_link before past k)

pub returns-in-Err-write_server-clause-goes : goal.returns-in-Err-write_server-clause-goes
returns-in-Err-write_server-clause-goes g c = λ cfg all ahead budget spare first first_link before past k e h.
    server_fault_in_hand (g.C.Machine.stands cfg) g.C.Machine.seen all ahead _ budget spare _ _ _ _ _ (taken_of _ _ _ _ _ _ _ e refl c.requires.wants c.in-ServerWrite.ensures.is (takes_turn _ c.requires.some c.requires.no_open c.requires.no_close c.requires.going)) refl first _ first_link _ _ _ before past k h (c.in-Err-write_server.ensures.moves cfg first_link before past k)
