use Rattle.lane.proofs.DirectionLemmas.ShowLemmas.{shows_on}
use Rattle.lane.specs.contracts.direction.lane.Lane.{the_view}
use Rattle.lane.proofs.direction.lane.Lane.show_on.Goals as goal

pub returns-clause-shows : goal.returns-clause-shows
returns-clause-shows c =
    let l = the_view c.self.inside in
    rw (← c.self.view_is) (let puts = c.next.ensures.writes in
    record {
      put = puts.more;
      window = puts.items;
      shows = λ head text s. shows_on l.writer c.next.new.self l.out.blocks c.next.new.from.blocks l.output.items c.next.new.into.items puts head text s;
    })
