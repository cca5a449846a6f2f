use Rattle.std.proofs.Common.{ℕ, List, refl, sym, ap, subst}
use Rattle.uri_parts.specs.Target.{target_parts}
use Rattle.http_fetch.specs.Fetches.{host_in}
use Rattle.http_rules.specs.declared.rule.reply.RedirectTo.TheVariants.{Location, Prefix, Scheme}
use Rattle.http_rules.specs.Action.Joining.{Joins}
use Rattle.http_rules.specs.Action.Replies.{prefixed, schemed}
use Rattle.http_rules.specs.Action.Written.{led_target}
use Rattle.http_rules.proofs.ActionLemmas.Answering.{located}
use Rattle.http_rules.proofs.ActionLemmas.Joining.{retold}
use Rattle.http_rules.proofs.action.redirect.lead.Goals as goal

pub returns-in-Location-clause-came : goal.returns-in-Location-clause-came
returns-in-Location-clause-came c =
    let text = c.args.text.now in
    let target = led_target c.args.msg.now.blocks in
    located c.args.destination.to.now (Location c.in-Location.field-0) c.args.destination.drop_query c.args.destination.append_slash text (host_in c.args.msg.now.blocks) target target text
    c.args.reply.now.size c.args.destination.code c.lead_to.result c.lead_to.new.reply.blocks c.in-Location.is refl refl c.lead_to.ensures.came

pub returns-in-Prefix-clause-came : goal.returns-in-Prefix-clause-came
returns-in-Prefix-clause-came c =
    let text = c.args.text.now in
    let given = c.led_target.result.now in
    let wanted = prefixed c.args.destination.drop_query c.args.destination.append_slash text (target_parts given) in
    located c.args.destination.to.now (Prefix c.in-Prefix.field-0) c.args.destination.drop_query c.args.destination.append_slash text (host_in c.args.msg.now.blocks) (led_target c.args.msg.now.blocks) given wanted
    c.args.reply.now.size c.args.destination.code c.lead_by.result c.lead_by.new.reply.blocks c.in-Prefix.is c.led_target.ensures refl
    (c.lead_by.ensures.came wanted
    (subst (λ (held : List ℕ). Joins c.args.reply.now.size wanted c.join_prefixed-joined.result held) (sym c.bytes.ensures.bytes)
    (retold c.args.reply.now.size c.args.made.now.cap wanted wanted c.join_prefixed-joined.new.into.bytes c.join_prefixed-joined.result c.requires.made refl c.join_prefixed-joined.ensures.joins)))

pub returns-in-Scheme-clause-came : goal.returns-in-Scheme-clause-came
returns-in-Scheme-clause-came c =
    let text = c.args.text.now in
    let given = c.led_target-in-Scheme.result.now in
    let wanted = schemed c.args.destination.drop_query text c.host_in.result.now (target_parts given) in
    located c.args.destination.to.now (Scheme c.in-Scheme.field-0) c.args.destination.drop_query c.args.destination.append_slash text (host_in c.args.msg.now.blocks) (led_target c.args.msg.now.blocks) given wanted
    c.args.reply.now.size c.args.destination.code c.lead_by-in-Scheme.result c.lead_by-in-Scheme.new.reply.blocks c.in-Scheme.is c.led_target-in-Scheme.ensures
    (ap (λ h. schemed c.args.destination.drop_query text h (target_parts given)) c.host_in.ensures)
    (c.lead_by-in-Scheme.ensures.came wanted
    (subst (λ (held : List ℕ). Joins c.args.reply.now.size wanted c.join_schemed-joined.result held) (sym c.bytes-in-Scheme.ensures.bytes)
    (retold c.args.reply.now.size c.args.made.now.cap wanted wanted c.join_schemed-joined.new.into.bytes c.join_schemed-joined.result c.requires.made refl c.join_schemed-joined.ensures.joins)))
