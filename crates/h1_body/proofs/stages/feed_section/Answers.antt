use Rattle.h1_body.proofs.Feeding.{section_over, section_more, section_dead}
use Rattle.h1_body.proofs.stages.feed_section.Goals as goal

pub returns-in-Whole : goal.returns-in-Whole
returns-in-Whole c = section_over c.args.limit c.in-Whole.used c.args.room c.args.window.now c.in-Whole.ensures.0 c.in-Whole.ensures.1 c.in-Whole.ensures.2.0 c.in-Whole.ensures.2.1

pub returns-in-More : goal.returns-in-More
returns-in-More c = section_more c.args.limit c.args.room c.args.window.now c.in-More.ensures

pub returns-in-Bad : goal.returns-in-Bad
returns-in-Bad c = section_dead c.args.limit c.args.room c.args.window.now c.in-Bad.ensures
