use Rattle.std.proofs.Common.{◌∙◌, ap}
use Rattle.htx_arena.specs.Layout.Contents.{Contents}
use Rattle.lane.specs.Direction.Sends.{Waits}
use Rattle.lane.proofs.DirectionLemmas.SendLemmas.{none_rests}
use Rattle.lane.proofs.direction.lane.Lane.read_body.Goals as goal

pub returns-then-is_filtering-clause-waits : goal.returns-then-is_filtering-clause-waits
returns-then-is_filtering-clause-waits c = λ p s no_more.
    (c.read_held.ensures.same.4, ap (λ (m : Contents). m.blocks) c.read_held.ensures.same.2 ∙ c.requires.empty, c.read_held.ensures.waits p s no_more)

pub returns-clause-waits : goal.returns-clause-waits
returns-clause-waits c = λ p s no_more.
    let w = c.read_plain.ensures.waits p s c.requires.going no_more in (
      w.0,
      c.read_plain.ensures.empty p s c.requires.going no_more,
      Waits (w.0 ∙ c.requires.going) w.1 w.2 w.3 (none_rests c.read_plain.new.self.sieve (c.read_plain.ensures.sieve ∙ c.is_filtering.ensures.none c.if-is_filtering.false)),
    )
