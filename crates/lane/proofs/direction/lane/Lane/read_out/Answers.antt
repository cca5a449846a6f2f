use Rattle.std.proofs.Common.{◌≡◌, ◌≢◌, true, false, rules, sym, ◌∙◌, subst}
use Rattle.lane.specs.Direction.State.{LaneState}
use Rattle.lane.specs.Direction.Sends.{Past, Sends, Stands}
use Rattle.lane.proofs.DirectionLemmas.StallLemmas.{going_on}
use Rattle.http_model.specs.declared.Source.TheVariants as source
use Rattle.lane.specs.declared.direction.stage.Stage.TheVariants as stage
use Rattle.lane.proofs.direction.lane.Lane.read_out.Goals as goal

pub returns-then-is_going-clause-goes_on : goal.returns-then-is_going-clause-goes_on
returns-then-is_going-clause-goes_on c = λ p s _.
    let going : c.drop_body.new.self.source ≡ source.Going = search rules in
    going_on c.drop_body.new.self p (c.drop_body.ensures.leads c.requires.dropped p s) (c.drop_body.ensures.rests p c.requires.dropped s) going

pub returns-then-is_going-clause-rests : goal.returns-then-is_going-clause-rests
returns-then-is_going-clause-rests c = λ p s. c.drop_body.ensures.rests p c.requires.dropped s

-- with its body over, a lane that drops its text is done
stands_dropped : (l : LaneState) (p : Past) → l.dropped ≡ true → l.source ≢ source.Going → Sends l p → Stands (record l { stage = stage.Done }) p
stands_dropped l p dropped over s = record {
  sends = record {
    used = s.used;
    found = s.found;
    section = s.section;
    passed = s.passed;
    sized = record { least = s.sized.least; msg = s.sized.msg; out = s.sized.out; input = s.sized.input; output = s.sized.output; sieve = s.sized.sieve; filters = s.sized.filters };
    has_read = s.has_read;
    bytes = s.bytes;
    has_passed = s.has_passed;
    source = s.source;
    text = s.text;
  };
  over = λ e d. absurd (let both : true ≡ false = sym dropped ∙ d in cc both);
  done = λ e. over;
}

pub returns-clause-stands : goal.returns-clause-stands
returns-clause-stands c = λ p s.
    subst (λ (l : LaneState). Stands l p) (sym c.give_up.ensures.same)
    (stands_dropped c.drop_body.new.self p (c.drop_body.ensures.keeps.dropped ∙ c.requires.dropped) (c.is_going.ensures.over c.if-is_going.false) (c.drop_body.ensures.leads c.requires.dropped p s))
