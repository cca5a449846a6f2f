use Rattle.http_rules.proofs.ActionLemmas.Filling.{filled_up}
use Rattle.http_rules.proofs.action.filled.fill.Goals as goal

pub returns-clause-filled : goal.returns-clause-filled
returns-clause-filled c =
    λ env make at.
    let found = rw c.in-Some.is at c.in_ok-groups.ensures.found in
    filled_up c.args.place.msg.now.size c.write_text.new.scratch.made.cap env c.args.by.pat.now c.args.by.fmt.now c.args.text.now c.write_text.new.scratch.text.bytes c.bytes.result.now c.put_groups.new.into.bytes make
    found.0 c.in-Some.groups c.in_ok-write_text.field-0 c.put_groups.result found.1 found.2 (c.in_ok-write_text.ensures.made env at) c.if-not-branch.false c.bytes.ensures.bytes c.in_ok-write_text.ensures.scratch.made
    c.put_groups.ensures.held
