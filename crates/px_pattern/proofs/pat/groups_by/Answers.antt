use Rattle.px_pattern.proofs.GroupLemmas.{groups_of_captures}
use Rattle.px_pattern.proofs.pat.groups_by.Goals as goal

pub returns-in_ok-of-in-Some-clause-found : goal.returns-in_ok-of-in-Some-clause-found
returns-in_ok-of-in-Some-clause-found c =
    let found = c.in-Some.ensures.found in
    (found.0, found.1, groups_of_captures c.args.text.now found.0 c.in-Some.captures c.in_ok-of-in-Some.field-0 found.2 c.in_ok-of-in-Some.ensures.spans)
