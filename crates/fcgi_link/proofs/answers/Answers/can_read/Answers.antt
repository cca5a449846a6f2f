use Rattle.std.proofs.Common.{◌≡◌, refl, subst}
use Rattle.fcgi_link.specs.Asking.{AnswersSeen, seen_asking}
use Rattle.fcgi_link.proofs.Answering.{same_asking}
use Rattle.fcgi_link.proofs.answers.Answers.can_read.Goals as goal

pub returns-clause-seen : goal.returns-clause-seen
returns-clause-seen g c = λ application write_faults.
    let inside = c.self.inside in
    let s = g.L.Link.seen c.args.inner.now in
    let t = g.L.Link.seen c.has_come.new.inner in
    let old : AnswersSeen = record { translating = inside.translator; given = inside.given; faults = inside.faults } in
    let new : AnswersSeen = record { translating = c.has_come.new.translator; given = inside.given; faults = inside.faults } in
    subst (λ (x : AnswersSeen). seen_asking application new write_faults t ≡ seen_asking application x write_faults s) c.self.view_is
    (same_asking application old new write_faults s t c.has_come.ensures.alike refl refl)
