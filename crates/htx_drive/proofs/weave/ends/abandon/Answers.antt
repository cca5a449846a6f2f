use Rattle.htx_drive.proofs.WeaveLemmas.Halting.{leaves}
use Rattle.htx_drive.proofs.weave.ends.abandon.Goals as goal

pub returns-clause-left : goal.returns-clause-left
returns-clause-left g c = λ cfg turns count first to first_net h.
    leaves (g.C.Machine.meaning cfg) (g.C.Machine.stands cfg) g.C.Machine.seen turns g.L.Link.seen g.L.Link.wrote first to (g.N.Net.seen first_net) c.args.conn.now.client c.close.new.self c.args.conn.now.server c.give_back.new.server _ _ count
    (λ core p s. (_, g.met.C.Machine.taken_is_a_front cfg core p s)) c.give_back.ensures.back c.give_back.ensures.none c.close.ensures.seen c.close.ensures.wrote h
