use Rattle.std.proofs.Common.{sym}
use Rattle.http_rules.specs.declared.action.filled.Filled.TheVariants as filled
use Rattle.http_rules.specs.declared.action.filled.Filled.TheVariants.{Unmatched, Made}
use Rattle.std.proofs.Common.{refl}
use Rattle.http_rules.specs.Action.Lines.{with_part, sent_to}
use Rattle.http_rules.proofs.ActionLemmas.Retargeting.{repart, of_parts}
use Rattle.http_rules.specs.declared.action.stepped.Stepped.TheVariants.{Done, Failed}
use Rattle.http_rules.proofs.action.retarget.replace_part.Goals as goal

pub returns-in-Unmatched-clause-came : goal.returns-in-Unmatched-clause-came
returns-in-Unmatched-clause-came c =
    λ env at.
    let line = c.in-Some.line in
    repart c.args.setting.side env c.args.setting.vars.now c.args.msg.now.size c.args.part c.args.by.pat.now c.args.by.fmt.now c.part_of-text.result.now c.fill.new.scratch.made.bytes c.in_ok-fill.field-0 Unmatched Done c.args.msg.now.blocks
    c.args.msg.now.blocks line.a.now line.b.now line.c.now at (sym c.in-Some.ensures) c.part_of-text.ensures (λ make. c.in_ok-fill.ensures.filled env make at) c.in-Unmatched.is at

pub returns-in-Failed-clause-came : goal.returns-in-Failed-clause-came
returns-in-Failed-clause-came c =
    λ env at.
    let line = c.in-Some.line in
    repart c.args.setting.side env c.args.setting.vars.now c.args.msg.now.size c.args.part c.args.by.pat.now c.args.by.fmt.now c.part_of-text.result.now c.fill.new.scratch.made.bytes c.in_ok-fill.field-0 (filled.Failed c.in-Failed.why) (Failed c.in-Failed.why) c.args.msg.now.blocks
    c.args.msg.now.blocks line.a.now line.b.now line.c.now at (sym c.in-Some.ensures) c.part_of-text.ensures (λ make. c.in_ok-fill.ensures.filled env make at) c.in-Failed.is (refl, at)

pub returns-in-Made-clause-came : goal.returns-in-Made-clause-came
returns-in-Made-clause-came c =
    λ env at.
    let line = c.in-Some.line in
    let held = c.fill.new.scratch.made.bytes in
    repart c.args.setting.side env c.args.setting.vars.now c.args.msg.now.size c.args.part c.args.by.pat.now c.args.by.fmt.now c.part_of-text.result.now c.fill.new.scratch.made.bytes c.in_ok-fill.field-0 Made c.put_made.result c.args.msg.now.blocks
    c.put_made.new.msg.blocks line.a.now line.b.now line.c.now at (sym c.in-Some.ensures) c.part_of-text.ensures (λ make. c.in_ok-fill.ensures.filled env make at) c.in-Made.is
    (of_parts c.args.setting.side env c.args.setting.vars.now (λ method target version. sent_to c.args.msg.now.size env method (with_part c.args.part target held) version) c.put_made.result c.args.msg.now.blocks c.put_made.new.msg.blocks
    line.a.now line.b.now line.c.now at (sym c.in-Some.ensures) (c.put_made.ensures.came c.args.setting.side env c.args.setting.vars.now at))
