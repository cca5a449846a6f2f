use Rattle.std.proofs.Common.{refl, sym, ◌∷◌}
use Rattle.htx_drive.proofs.Steps.{fails_so, opens_turn, opens_fault, most_paid}
use Rattle.htx_drive.proofs.WeaveLemmas.Moving.{at_server}
use Rattle.htx_drive.proofs.weave.single.turn_with.Goals as goal

pub returns-in-Ok-clause-goes : goal.returns-in-Ok-clause-goes
returns-in-Ok-clause-goes g c = λ cfg all ahead count first to first_net r.
    at_server _ g.L.Link.seen g.L.Link.wrote first _ _ _ to _ _ _ (sym c.put.ensures)
    (opens_turn _ _ g.L.Link.seen g.L.Link.wrote first _ _ _ _ to _ _ _ count _ r (λ lent before p k h. c.in-Ok.ensures.goes cfg all (c.args.turn ∷ ahead) count 0 first lent before p k refl h) (most_paid c.in-Ok.moved count))

pub returns-in-Err-clause-goes : goal.returns-in-Err-clause-goes
returns-in-Err-clause-goes g c = λ cfg all ahead count first to first_net r. (
  _,
  opens_fault _ _ _ g.L.Link.seen g.L.Link.wrote first _ _ _ _ _ _ to _ _ _ count r (λ lent before p k h. c.in-Err.ensures.goes cfg all (c.args.turn ∷ ahead) count 0 first lent before p k refl h)
      (fails_so (g.C.Machine.meaning cfg) (g.C.Machine.stands cfg) g.C.Machine.seen all _ count c.turn_open.new.core _ (λ p s. (_, g.met.C.Machine.taken_is_a_front cfg c.turn_open.new.core p s)))
      c.shut.ensures.shut.is_seen c.shut.ensures.shut.written c.shut.ensures.shut.keeps,
)
