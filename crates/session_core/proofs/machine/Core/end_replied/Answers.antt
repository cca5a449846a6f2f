use Rattle.std.proofs.Common.{◌≡◌, true, refl, sym, ap, ◌∙◌, rules}
use Rattle.session_core.specs.declared.Phase.TheVariants as phase
use Rattle.session_core.proofs.Working.{still}
use Rattle.session_core.proofs.Turning.{ends_replying, replies_next}
use Rattle.session_core.specs.Leads.{renewed_at}
use Rattle.session_core.proofs.Placing.{is_somewhere, placed_in}
use Rattle.session_core.specs.Place.{Replies}
use Rattle.session_core.proofs.machine.Core.end_replied.Goals as goal

pub returns-then-not-is_answered-clause-keeps : goal.returns-then-not-is_answered-clause-keeps
returns-then-not-is_answered-clause-keeps g c = λ cfg past s. still (g.S.Works.meaning cfg) g.S.Works.request g.S.Works.answer (g.S.Works.stands cfg) c.args.self.now.sides c.args.self.now.at past s

pub returns-then-kept-clause-keeps : goal.returns-then-kept-clause-keeps
returns-then-kept-clause-keeps g c = λ cfg past s.
    let M = g.S.Works.meaning cfg in
    let at = c.args.self.now.at in
    let q = g.S.Works.request c.args.self.now.sides in
    let a = g.S.Works.answer c.args.self.now.sides in
    let answered : a.answered ≡ true = sym c.is_answered.ensures ∙ search rules in
    let re = c.next_replied.ensures.leads cfg s.sided s.stand in
    record {
      sided = renewed_at s.sided re.left;
      stand = re.stands;
      holds = replies_next M _ at q (g.S.Works.request c.next_replied.new.self) a (g.S.Works.answer c.next_replied.new.self) s.sided past
          (c.requires.phase ∙ ap (λ k. phase.Replying k) c.if-kept.true) answered c.next_replied.ensures.request c.next_replied.ensures.window c.next_replied.ensures.answer re s.holds;
    }

pub returns-else-kept-clause-keeps : goal.returns-else-kept-clause-keeps
returns-else-kept-clause-keeps g c = λ cfg past s.
    let M = g.S.Works.meaning cfg in
    let at = c.args.self.now.at in
    let q = g.S.Works.request c.args.self.now.sides in
    let a = g.S.Works.answer c.args.self.now.sides in
    let answered : a.answered ≡ true = sym c.is_answered.ensures ∙ search rules in
    record { sided = s.sided; stand = s.stand; holds = ends_replying M at q a s.sided past (c.requires.phase ∙ ap (λ k. phase.Replying k) c.if-kept.false) answered s.holds }

pub is_answered-requires : goal.is_answered-requires
is_answered-requires g c = record { placed = is_somewhere (g.S.Works.placed c.args.self.now.sides) (g.S.Works.answer c.args.self.now.sides) c.args.self.now.at.phase c.args.self.now.at.cut c.requires.placed }

pub next_replied-requires-clause-placed : goal.next_replied-requires-clause-placed
next_replied-requires-clause-placed g c = (placed_in (g.S.Works.placed c.args.self.now.sides) (g.S.Works.answer c.args.self.now.sides) c.args.self.now.at.phase (phase.Replying c.args.kept) c.args.self.now.at.cut c.requires.phase c.requires.placed).0

pub next_replied-requires-clause-answered : goal.next_replied-requires-clause-answered
next_replied-requires-clause-answered g c = sym c.is_answered.ensures ∙ search rules

pub returns-then-kept-clause-placed : goal.returns-then-kept-clause-placed
returns-then-kept-clause-placed g c = (c.next_replied.ensures.placed, (placed_in (g.S.Works.placed c.args.self.now.sides) (g.S.Works.answer c.args.self.now.sides) c.args.self.now.at.phase (phase.Replying c.args.kept) c.args.self.now.at.cut c.requires.phase c.requires.placed).1)

pub returns-else-kept-clause-placed : goal.returns-else-kept-clause-placed
returns-else-kept-clause-placed g c = (Replies, refl, (placed_in (g.S.Works.placed c.args.self.now.sides) (g.S.Works.answer c.args.self.now.sides) c.args.self.now.at.phase (phase.Replying c.args.kept) c.args.self.now.at.cut c.requires.phase c.requires.placed).0)
