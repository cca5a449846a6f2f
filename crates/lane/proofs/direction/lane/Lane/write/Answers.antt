use Rattle.std.proofs.Common.{◌++◌, ◌∙◌, subst, sym, ℕ, ◌≤◌, [], ◌≡◌, true}
use Rattle.lane.proofs.DirectionLemmas.CarryLemmas.{carries_put}
use Rattle.lane.specs.Direction.State.{LaneState}
use Rattle.lane.specs.contracts.direction.lane.Lane.{the_view}
use Rattle.http_model.specs.declared.Source.TheVariants as source
use Rattle.lane.proofs.direction.lane.Lane.write.Goals as goal

pub returns-clause-leads : goal.returns-clause-leads
returns-clause-leads c =
    let l = the_view c.self.inside in
    let last = subst (λ (s : LaneState). c.is_last-last.result ≡ true → (s.source ≡ source.Whole) × (s.msg.blocks ≡ [])) (sym c.self.view_is) c.is_last-last.ensures.last in
    rw (← c.self.view_is) (λ p s. record {
      used = s.used;
      found = s.found;
      section = s.section;
      passed = s.passed;
      sized = record {
        least = s.sized.least;
        msg = s.sized.msg;
        out = c.next.ensures.size ∙ s.sized.out;
        input = s.sized.input;
        output = subst (λ (n : ℕ). 64 ≤ n) (sym c.next.ensures.capacity) s.sized.output;
        sieve = s.sized.sieve;
        filters = s.sized.filters;
      };
      has_read = s.has_read;
      bytes = s.bytes;
      has_passed = s.has_passed;
      source = s.source;
      text = λ d. carries_put l.source l.writer c.next.new.self l.out.blocks c.next.new.from.blocks l.msg.blocks c.is_last-last.result
          l.output.items c.next.new.into.items c.next.ensures.writes c.next.ensures.ended last p.sent (p.sent.given ++ s.passed) s.section p.took (s.text d);
    })
