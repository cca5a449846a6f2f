use Rattle.std.proofs.Common.{rules, ◌≡◌, ◌<◌, ◌^◌, true, refl, subst}
use Rattle.px_link.specs.Link.{Gave}
use Rattle.fcgi_lane.specs.Answer.Stands.{ready_in}
use Rattle.fcgi_link.specs.Asking.{AnswersSeen, seen_asking}
use Rattle.fcgi_link.proofs.Answering.{read_gave, nothing_ready, counted_is}
use Rattle.fcgi_link.proofs.answers.Answers.read.Goals as goal

pub returns-clause-reads : goal.returns-clause-reads
returns-clause-reads g c = λ application write_faults.
    let inside = c.self.inside in
    let count = c.give-count.result in
    let mid = c.fill.new.translator in
    let s = g.L.Link.seen c.args.inner.now in
    let t = g.L.Link.seen c.fill.new.inner in
    let old : AnswersSeen = record { translating = inside.translator; given = inside.given; faults = inside.faults } in
    let new : AnswersSeen = record { translating = c.give-count.new.translator; given = c.saturating_add-self-inside-2.result; faults = inside.faults } in
    let filled : c.fill.result ≡ true = search rules in
    let below : inside.given < 2 ^ 64 = search rules in
    subst (λ (x : AnswersSeen). Gave (seen_asking application x write_faults s) (seen_asking application new write_faults t) c.give-count.new.into count) c.self.view_is
    (read_gave application old new mid write_faults s t c.give-count.new.into count c.fill.ensures.alike c.give-count.ensures.gives
    (λ none. c.fill.ensures.given filled (nothing_ready count c.args.into.now (ready_in mid.head) c.requires c.give-count.ensures.all none))
    (counted_is inside.given count c.saturating_add-self-inside-2.result below c.saturating_add-self-inside-2.ensures) refl)
