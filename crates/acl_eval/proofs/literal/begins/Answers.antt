use Rattle.std.proofs.Common.{◌∙◌}
use Rattle.acl_eval.proofs.Literals.{at_front}
use Rattle.acl_eval.proofs.literal.begins.Goals as goal

pub returns : goal.returns
returns c = c.equals.ensures ∙ at_front c.args.icase c.args.text.now c.args.literal.now
