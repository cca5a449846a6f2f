use Rattle.std.proofs.Common.{sym, ap, ◌∙◌, subst}
use Rattle.body_filter.specs.declared.chain.Chain.{Chain}
use Rattle.lane.specs.Sieve.Feeds.{Feeds}
use Rattle.lane.specs.Sieve.Sieved.{Sifts}
use Rattle.lane.specs.declared.sieve.sieve.Sieve.{Sieve}
use Rattle.lane.specs.declared.sieve.sieve.Sifted.{Sifted}
use Rattle.lane.proofs.SieveLemmas.Sifting.{sifts}
use Rattle.lane.proofs.sieve.sieve.Sieve.sift.Goals as goal

pub returns-clause-sifts : goal.returns-clause-sifts
returns-clause-sifts c =
    let old = c.args.self.now in
    let new = c.meet.new.self in
    let fed = c.feed_held-fed.result in
    let last = c.is_last-last.result in
    let f = c.feed_held-fed.ensures.feeds in
    let same = c.meet.ensures.same in
    let held = c.feed_held-fed.ensures.held in
    let answer = c.answer_of-answer.ensures in
    subst (λ (a : Sifted). Sifts old new a c.feed_held-fed.new.to.blocks) (sym answer)
    (sifts old new last fed f.0 c.has_moved.result c.feed_held-fed.new.to.blocks (record {
      feeds = subst (λ (ch : Chain). Feeds old.chain ch old.held.items last fed f.0) (sym (ap (λ (s : Sieve). s.chain) same))
          f.1;
      held = ap (λ (s : Sieve). s.held.items) same ∙ held;
      last_is = c.is_last-last.ensures;
      accepted = λ h. c.meet.ensures.accepted (answer ∙ h);
      other = λ differs. c.meet.ensures.other (λ h. differs (sym answer ∙ h));
      some = c.has_moved.ensures.some;
      none = c.has_moved.ensures.none;
    }) c.requires.open f.2)
