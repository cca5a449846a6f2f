use Rattle.std.proofs.Common.{List, ℕ, refl, subst}
use Rattle.http_rules.specs.declared.action.filled.Filled.TheVariants as filled
use Rattle.http_rules.specs.declared.action.filled.Filled.TheVariants.{Unmatched, Made}
use Rattle.http_rules.specs.declared.action.stepped.Stepped.TheVariants.{Done, Failed}
use Rattle.http_rules.specs.Action.Edits.{by_value}
use Rattle.http_rules.specs.Action.Replacing.{with_value}
use Rattle.http_rules.specs.Action.Outcome.{Came}
use Rattle.http_rules.proofs.ActionLemmas.Placed.{refield}
use Rattle.http_rules.proofs.action.replacing.replace_field.Goals as goal

pub returns-in-Unmatched-clause-came : goal.returns-in-Unmatched-clause-came
returns-in-Unmatched-clause-came c =
    λ env place on here.
    refield c.args.setting.side env c.args.setting.vars.now c.args.fields.extent c.args.msg.now.size c.args.fields.by.pat.now c.args.fields.by.fmt.now place c.args.at c.value-field.result.now c.fill_field.new.scratch.made.bytes c.in_ok-fill_field.field-0 Unmatched Done
    c.args.msg.now.blocks c.args.msg.now.blocks on here c.requires.header c.value-field.ensures (λ edit counts. c.in_ok-fill_field.ensures.filled env edit on counts) c.in-Unmatched.is (λ field found. on)

pub returns-in-Failed-clause-came : goal.returns-in-Failed-clause-came
returns-in-Failed-clause-came c =
    λ env place on here.
    refield c.args.setting.side env c.args.setting.vars.now c.args.fields.extent c.args.msg.now.size c.args.fields.by.pat.now c.args.fields.by.fmt.now place c.args.at c.value-field.result.now c.fill_field.new.scratch.made.bytes c.in_ok-fill_field.field-0 (filled.Failed c.in-Failed.why) (Failed c.in-Failed.why)
    c.args.msg.now.blocks c.args.msg.now.blocks on here c.requires.header c.value-field.ensures (λ edit counts. c.in_ok-fill_field.ensures.filled env edit on counts) c.in-Failed.is (λ field found. (refl, on))

pub returns-in-Made-clause-came : goal.returns-in-Made-clause-came
returns-in-Made-clause-came c =
    λ env place on here.
    refield c.args.setting.side env c.args.setting.vars.now c.args.fields.extent c.args.msg.now.size c.args.fields.by.pat.now c.args.fields.by.fmt.now place c.args.at c.value-field.result.now c.fill_field.new.scratch.made.bytes c.in_ok-fill_field.field-0 Made c.put_value.result
    c.args.msg.now.blocks c.put_value.new.msg.blocks on here c.requires.header c.value-field.ensures (λ edit counts. c.in_ok-fill_field.ensures.filled env edit on counts) c.in-Made.is
    (λ field found.
    subst (λ (held : List ℕ). Came c.args.setting.side env (by_value c.args.msg.now.size env held (with_value env.head place field)) c.put_value.result c.put_value.new.msg.blocks c.args.setting.vars.now) c.bytes.ensures.bytes
    (c.put_value.ensures.came c.args.setting.side env c.args.setting.vars.now place field on here found))
