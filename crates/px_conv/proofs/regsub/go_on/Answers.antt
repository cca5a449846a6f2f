use Rattle.std.proofs.Common.{◌≡◌, List, ℕ, length, rules, sym, subst}
use Rattle.px_conv.specs.Replacing.{Came}
use Rattle.px_conv.proofs.RegsubLemmas.{behind_first, behind_end}
use Rattle.px_conv.proofs.regsub.go_on.Goals as goal

pub returns-in-First-clause-came : goal.returns-in-First-clause-came
returns-in-First-clause-came c = λ (on : List ℕ → List ℕ).
    subst (λ xs. Came on c.args.into.now c.put_last.new.into xs c.put_last.result)
    (sym (behind_first on c.args.which c.args.was_empty c.args.rest.now c.in-First.is)) (c.put_last.ensures.came on)

pub returns-in-First-clause-below : goal.returns-in-First-clause-below
returns-in-First-clause-below c = c.put_last.ensures.below _

pub returns-then-is_empty-clause-came : goal.returns-then-is_empty-clause-came
returns-then-is_empty-clause-came c = λ (on : List ℕ → List ℕ).
    let end : length c.args.rest.now ≡ 0 = search rules in
    subst (λ xs. Came on c.args.into.now c.put_last-then-is_empty.new.into xs c.put_last-then-is_empty.result)
    (sym (behind_end on c.args.which c.args.was_empty c.args.rest.now c.if-not-was_empty.false end)) (c.put_last-then-is_empty.ensures.came on)

pub returns-then-is_empty-clause-below : goal.returns-then-is_empty-clause-below
returns-then-is_empty-clause-below c = c.put_last-then-is_empty.ensures.below _
