use Rattle.std.proofs.Common.{rules, ◌≡◌, false, None, Some, refl, sym, ap, ◌∙◌, ◌∷◌}
use Rattle.std.specs.Prelude.{is_some}
use Rattle.session_core.specs.declared.machine.Wants.{Wants}
use Rattle.htx_drive.proofs.Steps.{fails_so, idles_turn, idles_fault, most_paid}
use Rattle.htx_drive.proofs.WeaveLemmas.Moving.{at_server}
use Rattle.htx_drive.proofs.weave.single.take_turn.Goals as goal

pub turn_idle-requires-clause-no_read : goal.turn_idle-requires-clause-no_read
turn_idle-requires-clause-no_read g c =
    let s : c.args.conn.now.server ≡ None = search rules in
    let f : (g.C.Machine.seen c.args.core.now).serving ≡ false = c.requires.serving ∙ ap is_some s in
    ap (λ (w : Wants). w.server_read) c.requires.wants ∙ ((g.met.C.Machine.wants_mean c.args.core.now).idle f).0

pub turn_idle-requires-clause-no_write : goal.turn_idle-requires-clause-no_write
turn_idle-requires-clause-no_write g c =
    let s : c.args.conn.now.server ≡ None = search rules in
    let f : (g.C.Machine.seen c.args.core.now).serving ≡ false = c.requires.serving ∙ ap is_some s in
    ap (λ (w : Wants). w.server_write) c.requires.wants ∙ ((g.met.C.Machine.wants_mean c.args.core.now).idle f).1

pub returns-in-Ok-clause-goes : goal.returns-in-Ok-clause-goes
returns-in-Ok-clause-goes g c = λ cfg all ahead count first to first_net r.
    let s : c.args.conn.now.server ≡ None = search rules in
    let n : c.take.new.self ≡ None = search rules in
    at_server _ g.L.Link.seen g.L.Link.wrote first _ None c.take.new.self to _ _ _ (sym n)
    (idles_turn _ _ g.L.Link.seen g.L.Link.wrote first _ _ to (g.N.Net.seen first_net) _ _ count _ (at_server _ g.L.Link.seen g.L.Link.wrote first _ c.args.conn.now.server None to _ _ count s r)
    (λ p h. c.in-Ok.ensures.goes cfg all (c.args.turn ∷ ahead) count 0 first p refl h) (most_paid c.in-Ok.moved count))

pub returns-in-Err-clause-goes : goal.returns-in-Err-clause-goes
returns-in-Err-clause-goes g c = λ cfg all ahead count first to first_net r.
    let s : c.args.conn.now.server ≡ None = search rules in (
      _,
      idles_fault _ _ _ g.L.Link.seen g.L.Link.wrote first _ _ _ to (g.N.Net.seen first_net) _ count (at_server _ g.L.Link.seen g.L.Link.wrote first _ c.args.conn.now.server None to _ _ count s r)
          (λ p h. c.in-Err.ensures.goes cfg all (c.args.turn ∷ ahead) count 0 first p refl h)
          (fails_so (g.C.Machine.meaning cfg) (g.C.Machine.stands cfg) g.C.Machine.seen all _ count c.turn_idle.new.core _ (λ p s. (_, g.met.C.Machine.taken_is_a_front cfg c.turn_idle.new.core p s))),
    )

pub returns-in-Some-clause-goes : goal.returns-in-Some-clause-goes
returns-in-Some-clause-goes g c = λ cfg all ahead count first to first_net r.
    let s : c.args.conn.now.server ≡ Some c.in-Some.link = search rules in
    c.turn_with.ensures.goes cfg all ahead count first to first_net (at_server _ g.L.Link.seen g.L.Link.wrote first _ c.args.conn.now.server (Some c.in-Some.link) to _ _ count s r)
