use Rattle.std.proofs.Common.{rules, refl}
use Rattle.cfg_expr.proofs.patterns.build.Goals as goal

pub returns-in-Err-Refused : goal.returns-in-Err-Refused
returns-in-Err-Refused g c = record {
  rose = search rules;
  number = 0;
  pattern = record { text = c.args.text.now; icase = c.args.icase };
  asked = refl;
  is_last = search rules;
}
