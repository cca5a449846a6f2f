use Rattle.std.proofs.Common.{rules, ◌≡◌, Ok}
use Rattle.cfg_parse.specs.Whole.{whole}
use Rattle.cfg_parse.proofs.WholeLemmas.{whole-valid}
use Rattle.cfg_parse.proofs.text.whole_at_end.Goals as goal

pub returns-in-Ok-clause-valid : goal.returns-in-Ok-clause-valid
returns-in-Ok-clause-valid c = λ s.
    let is : whole c.args.draft ≡ Ok c.in-Ok.config = search rules in
    whole-valid c.args.draft c.in-Ok.config s is
