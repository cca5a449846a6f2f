use Rattle.forward_core.specs.declared.answer.hearing.Heard.TheVariants as heard
use Rattle.std.proofs.Common.{refl}
use Rattle.forward_core.specs.declared.answer.place.Place.TheVariants as place
use Rattle.forward_core.proofs.AnswerLemmas.Views.{at_place}
use Rattle.forward_core.proofs.AnswerLemmas.ReadLemmas.{between_sound, hears_none, reads_first}
use Rattle.forward_core.proofs.answer.side.AnswerSide.show_first.Goals as goal

pub show_on-requires-clause-between : goal.show_on-requires-clause-between
show_on-requires-clause-between c = between_sound c.args.self.now c.requires.sound c.requires.heads c.requires.stirs

pub show_on-requires-clause-sending : goal.show_on-requires-clause-sending
show_on-requires-clause-sending c = c.is_showing.ensures.shows c.if-is_showing.true

pub returns-clause-leads : goal.returns-clause-leads
returns-clause-leads c = λ cfg asking server put now saying s. hears_none cfg c.args.self.now c.args.self.now asking server put now saying heard.Interim refl s

pub returns-clause-between : goal.returns-clause-between
returns-clause-between c = between_sound c.args.self.now c.requires.sound c.requires.heads c.requires.stirs

pub returns-clause-there : goal.returns-clause-there
returns-clause-there c = reads_first c.args.self.now (at_place place.Heads c.args.self.now c.requires.heads c.requires.sound.at) (c.is_showing.ensures.rests c.if-is_showing.false)
