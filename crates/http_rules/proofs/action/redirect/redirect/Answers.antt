use Rattle.std.proofs.Common.{ap, subst}
use Rattle.uri_parts.specs.Target.{target_parts}
use Rattle.http_fetch.specs.Fetches.{host_in}
use Rattle.http_rules.specs.Action.Given.{text_on}
use Rattle.http_rules.specs.Action.Outcome.{Answers}
use Rattle.http_rules.specs.Action.Replies.{location_by, led_to}
use Rattle.http_rules.specs.Action.Written.{led_target}
use Rattle.http_rules.proofs.ActionLemmas.Answering.{unled, led}
use Rattle.http_rules.proofs.action.redirect.redirect.Goals as goal

pub returns-then-not-branch-clause-came : goal.returns-then-not-branch-clause-came
returns-then-not-branch-clause-came c =
    λ env at.
    let size = c.args.place.msg.now.size in
    unled size c.args.destination.code c.args.destination.to.now c.args.destination.drop_query c.args.destination.append_slash env c.in_ok-write_text.field-0 (text_on size env c.format_of-fmt.result.now) c.write_text.new.scratch.text.bytes c.args.reply.now.blocks
    (ap (text_on size env) c.format_of-fmt.ensures) (c.in_ok-write_text.ensures.made env at) c.if-not-branch.true c.requires.empty

pub returns-clause-came : goal.returns-clause-came
returns-clause-came c =
    λ env at.
    let size = c.args.place.msg.now.size in
    let to = c.args.destination.to.now in
    let old = c.args.place.msg.now.blocks in
    led c.args.place.setting.side size c.args.destination.code to c.args.destination.drop_query c.args.destination.append_slash env c.in_ok-write_text.field-0 (text_on size env c.format_of-fmt.result.now) c.write_text.new.scratch.text.bytes c.bytes.result.now old c.args.place.setting.vars.now
    c.lead.result c.lead.new.reply.blocks at (ap (text_on size env) c.format_of-fmt.ensures) (c.in_ok-write_text.ensures.made env at) c.if-not-branch.false c.bytes.ensures.bytes
    (subst (λ n. Answers (led_to n c.args.destination.code (location_by to c.args.destination.drop_query c.args.destination.append_slash c.bytes.result.now (host_in old) (target_parts (led_target old)))) c.lead.result c.lead.new.reply.blocks)
    c.requires.sizes c.lead.ensures.came)
