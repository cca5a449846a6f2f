use Rattle.std.proofs.Common.{ℕ, List, length, drop, arith, sym, ap, ◌∙◌}
use Rattle.std.specs.Prelude.{nat_eq}
use Rattle.std.specs.List.{starts_with}
use Rattle.acl_eval.specs.Matches.{compared, contains_text}
use Rattle.acl_eval.proofs.Literals.{to_end, contains_here, contains_behind, contains_at_end}
use Rattle.acl_eval.proofs.literal.contains.Goals as goal

pub returns-then-begins : goal.returns-then-begins
returns-then-begins c =
    let rest = drop c.loop-at.at c.args.text.now in
    let literal = compared c.args.icase c.args.literal.now in
    let place = ap (λ (xs : List ℕ). starts_with nat_eq (compared c.args.icase xs) literal) (to_end c.args.text.now c.loop-at.at) in
    contains_here (compared c.args.icase rest) literal (contains_text (compared c.args.icase c.args.text.now) literal)
    (sym c.if-begins.true ∙ (c.begins.ensures ∙ place)) c.loop-at.invariant

pub loop-at-preserved : goal.loop-at-preserved
loop-at-preserved c =
    let literal = compared c.args.icase c.args.literal.now in
    let place = ap (λ (xs : List ℕ). starts_with nat_eq (compared c.args.icase xs) literal) (to_end c.args.text.now c.loop-at.at) in
    contains_behind c.args.icase c.args.text.now literal c.loop-at.at (contains_text (compared c.args.icase c.args.text.now) literal) (omega arith)
    (sym c.if-begins.false ∙ (c.begins.ensures ∙ place)) c.loop-at.invariant

pub returns : goal.returns
returns c =
    let literal = compared c.args.icase c.args.literal.now in
    let place = ap (λ (xs : List ℕ). starts_with nat_eq (compared c.args.icase xs) literal) (to_end c.args.text.now (length c.args.text.now)) in
    c.begins-2.ensures ∙ (place ∙ contains_at_end c.args.icase c.args.text.now literal c.loop-at.at (contains_text (compared c.args.icase c.args.text.now) literal) (omega arith) c.loop-at.invariant)
