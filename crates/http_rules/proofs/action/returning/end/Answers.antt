use Rattle.std.proofs.Common.{sym, subst}
use Rattle.std.proofs.lemmas.Bool.{false≢true}
use Rattle.header_ops.specs.Headers.{HasEnd}
use Rattle.http_rules.proofs.ActionLemmas.Fronts.{front_ends}
use Rattle.http_rules.proofs.ActionLemmas.Sending.{open_fits}
use Rattle.http_rules.proofs.action.returning.end.Goals as goal

pub has_room_to_close-requires : goal.has_room_to_close-requires
has_room_to_close-requires c = subst HasEnd (sym (c.in-Ok.ensures.ok c.requires.0 c.requires.1)) (front_ends c.requires.0 c.args.body.now)

pub returns-in-Err-clause-ended : goal.returns-in-Err-clause-ended
returns-in-Err-clause-ended c = λ head is. λ fits. false≢true ((c.in-Err.ensures.fits head is).1 (open_fits head c.args.body.now c.args.reply.now.size fits))
