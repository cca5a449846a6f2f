use Rattle.std.proofs.Common.{rules, ◌≡◌, None, Some, sym}
use Rattle.htx_drive.specs.Turned.{WorkedIn}
use Rattle.htx_drive.proofs.Steps.{closed_in, opens_close}
use Rattle.htx_drive.proofs.WeaveLemmas.Moving.{at_server}
use Rattle.htx_drive.proofs.weave.single.close.Goals as goal

pub returns-clause-goes : goal.returns-clause-goes
returns-clause-goes g c = λ cfg all ahead count first to first_net r.
    let s : c.args.conn.now.server ≡ Some c.in-Some.link = search rules in
    let n : c.take.new.self ≡ None = search rules in
    at_server _ g.L.Link.seen g.L.Link.wrote first _ None c.take.new.self to _ _ _ (sym n)
    (opens_close _ _ g.L.Link.seen g.L.Link.wrote first _ _ _ to _ _ _ c.args.how count (at_server _ g.L.Link.seen g.L.Link.wrote first _ c.args.conn.now.server (Some c.in-Some.link) to _ _ count s r)
    (λ p (s : WorkedIn (g.C.Machine.stands cfg) g.C.Machine.seen all ahead count 0 c.args.core.now p).
    (closed_in (g.C.Machine.stands cfg) g.C.Machine.seen all ahead count c.args.core.now c.server_closed.new.self p (c.server_closed.ensures.leads cfg p s.stand) s, (g.met.C.Machine.wants_say cfg c.args.core.now p s.stand).server_close c.args.how c.requires.wanted))
    c.close.ensures.seen c.close.ensures.wrote c.keep.ensures.keeps)
