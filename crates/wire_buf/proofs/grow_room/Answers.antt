use Rattle.wire_buf.proofs.Storing.{grown}
use Rattle.wire_buf.proofs.grow_room.Goals as goal

pub returns-then-more-capacity-clause-kept : goal.returns-then-more-capacity-clause-kept
returns-then-more-capacity-clause-kept c = grown c.args.ring.now.items c.fill_to.new.ring.items c.args.begin c.args.len c.requires.within c.fill_to.ensures.kept
