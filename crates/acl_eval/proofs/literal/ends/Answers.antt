use Rattle.std.proofs.Common.{ℕ, List, length, ◌-◌, ap, ◌∙◌}
use Rattle.std.specs.Str.{bytes_eq}
use Rattle.acl_eval.specs.Matches.{compared}
use Rattle.acl_eval.proofs.Literals.{to_end, at_end}
use Rattle.acl_eval.proofs.literal.ends.Goals as goal

pub returns : goal.returns
returns c =
    let literal = c.args.literal.now in
    let text = c.args.text.now in
    let whole = ap (λ (xs : List ℕ). bytes_eq (compared c.args.icase literal) (compared c.args.icase xs)) (to_end text (length text - length literal)) in
    c.equals.ensures ∙ (whole ∙ at_end c.args.icase text literal)
