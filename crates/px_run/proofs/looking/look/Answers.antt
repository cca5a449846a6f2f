use Rattle.px_link.specs.Net.{address_of}
use Rattle.px_proxyproto.specs.Meeting.{source_in}
use Rattle.px_run.specs.Connection.{◌∘◌}
use Rattle.px_run.specs.Log.{IsToldOf}
use Rattle.px_run.proofs.Logs.{begun_more}
use Rattle.px_run.proofs.looking.look.Goals as goal

pub returns-clause-logs : goal.returns-clause-logs
returns-clause-logs g c = λ cfg first first_net f h.
    begun_more (IsToldOf (g.C.Machine.meaning ∘ g.C.ResetsFor.for_peer cfg ∘ source_in) (g.C.Machine.stands ∘ g.C.ResetsFor.for_peer cfg ∘ source_in) g.C.Machine.seen g.L.Link.seen g.L.Link.wrote g.L.HasPair.tells c.args.plan.now.accepts_header c.args.plan.now.opening g.N.Net.seen (address_of c.args.plan.now.to.now) first first_net) c.args.plan.now.logs c.begin.new.self.logs c.args.connection.now.number c.begin.new.self.connection c.args.tools.now.log.text.items c.begin.new.self.text.items c.look_on-looked.new.tools.log.text.items c.begin.ensures.logs c.begin.ensures.connection c.begin.ensures.text (c.look_on-looked.ensures.logs cfg first first_net f h).more
