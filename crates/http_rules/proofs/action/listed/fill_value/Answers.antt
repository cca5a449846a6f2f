use Rattle.http_rules.proofs.ActionLemmas.Spread.{text_none, text_some}
use Rattle.http_rules.proofs.action.listed.fill_value.Goals as goal

pub returns-in-Some-clause-held : goal.returns-in-Some-clause-held
returns-in-Some-clause-held c =
    let found = rw c.in-Some.is at c.in_ok-groups.ensures.found in
    text_some c.args.into.now.cap c.args.by.pat.now c.args.by.text.now c.args.value.now c.put_groups.new.into.bytes found.0 c.in-Some.groups c.put_groups.result found.1 found.2 c.put_groups.ensures.held

pub returns-in-None-clause-held : goal.returns-in-None-clause-held
returns-in-None-clause-held c =
    let none = rw c.in-None.is at c.in_ok-groups.ensures.found in
    text_none c.args.into.now.cap c.args.by.pat.now c.args.by.text.now c.args.value.now c.args.into.now.bytes none
