use Rattle.std.proofs.Common.{ap, subst}
use Rattle.forward_core.specs.declared.request.place.Place.{Place}
use Rattle.session_core.specs.History.{Coming}
use Rattle.forward_core.specs.Request.Stands.{SoundAt, coming}
use Rattle.forward_core.proofs.RequestLemmas.Sending.{replies_to}
use Rattle.forward_core.proofs.RequestLemmas.Untouched.{behind_reply}
use Rattle.forward_core.proofs.request.side.RequestSide.reply.Goals as goal

pub returns-clause-sound : goal.returns-clause-sound
returns-clause-sound c = record { well = c.requires.sound.well; at = subst (λ (at : Place). SoundAt at c.args.self.now.lane) c.requires.idle c.requires.sound.at; rests = λ e. tt; line = c.requires.sound.line }

pub returns-clause-leads : goal.returns-clause-leads
returns-clause-leads c = λ cfg vars came received m left asking to_server h rules. record {
  is_for = h.is_for;
  at = replies_to cfg vars came (coming c.args.self.now.lane c.args.self.now.lane.input.items) received m left h.used h.head rules;
  ending = ap (λ (x : Coming). x.ending) h.head.came_is;
  line = h.line;
  untouched = behind_reply came c.args.self.now.untouched;
}
