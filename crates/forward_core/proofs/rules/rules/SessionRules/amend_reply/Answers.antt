use Rattle.std.proofs.Common.{◌≡◌, true, rules, sym, ap, subst, ◌∙◌}
use Rattle.http_model.specs.Block.{Header}
use Rattle.http_model.specs.Finish.{close_field}
use Rattle.header_ops.specs.Headers.{HasEnd, with_header}
use Rattle.htx_arena.specs.Layout.Contents.{Contents}
use Rattle.http_rules.specs.declared.config.Config.{Config}
use Rattle.forward_core.specs.Rules.Ruling.{config_of, AmendsReply}
use Rattle.forward_core.proofs.RulesLemmas.Amends.{ends, failed, too_long, goes_on, shut, tells_alike}
use Rattle.forward_core.proofs.rules.rules.SessionRules.amend_reply.Goals as goal

pub has_room_to_close-requires : goal.has_room_to_close-requires
has_room_to_close-requires c =
    subst (λ (x : Contents). HasEnd x.blocks) (sym c.arena.ensures.value)
    (ends (config_of c.args.self.now) c.requires.reply.0 c.args.method.now c.args.self.now.vars c.args.self.now.said.blocks c.on_said.new.self.said.blocks c.on_said.new.self.vars c.requires.reply.1
    c.replies_of_messages.ensures.end c.in_ok-on_said.field-0 c.if-not-branch.false c.in_ok-on_said.ensures.amends)

pub add_close-requires : goal.add_close-requires
add_close-requires c = record {
  end = subst (λ (x : Contents). HasEnd x.blocks) (sym (c.arena-then-not-keep.ensures.value ∙ c.arena.ensures.value))
      (ends (config_of c.args.self.now) c.requires.reply.0 c.args.method.now c.args.self.now.vars c.args.self.now.said.blocks c.on_said.new.self.said.blocks c.on_said.new.self.vars c.requires.reply.1
      c.replies_of_messages.ensures.end c.in_ok-on_said.field-0 c.if-not-branch.false c.in_ok-on_said.ensures.amends);
}

pub returns-then-not-branch-clause-amends : goal.returns-then-not-branch-clause-amends
returns-then-not-branch-clause-amends c = λ m reply.
    failed (config_of c.args.self.now) m c.args.method.now c.args.self.now.vars c.args.self.now.said.blocks c.on_said.new.self.said.blocks c.on_said.new.self.vars reply
    c.args.keep c.say_plain.new.self.said.blocks c.say_plain.new.self.vars c.in_ok-on_said.field-0 c.if-not-branch.true c.in_ok-on_said.ensures.amends c.say_plain.ensures.said

pub returns-then-not-has_room_to_close-clause-amends : goal.returns-then-not-has_room_to_close-clause-amends
returns-then-not-has_room_to_close-clause-amends c = λ m reply.
    too_long (config_of c.args.self.now) m c.args.method.now c.args.self.now.vars c.args.self.now.said.blocks c.on_said.new.self.said.blocks c.on_said.new.self.vars reply
    c.replies_of_messages.ensures.close c.on_said.new.self.said.size (c.on_said.ensures.ready.said ∙ ap (λ (cfg : Config). cfg.limits.bufsize) c.on_said.ensures.config)
    c.in_ok-on_said.field-0 c.if-not-branch.false c.in_ok-on_said.ensures.amends c.has_room_to_close.result (tells_alike c.has_room_to_close.result c.arena.result.now c.on_said.new.self.said c.arena.ensures.value c.has_room_to_close.ensures)
    c.args.keep c.say_plain-then-not-has_room_to_close.new.self.said.blocks c.say_plain-then-not-has_room_to_close.new.self.vars c.if-not-has_room_to_close.true c.say_plain-then-not-has_room_to_close.ensures.said

pub returns-else-not-keep-clause-amends : goal.returns-else-not-keep-clause-amends
returns-else-not-keep-clause-amends c = λ m reply.
    subst (λ (x : Contents). AmendsReply (config_of c.args.self.now) m c.args.method.now c.args.self.now.vars c.args.keep true x.blocks c.on_said.new.self.vars) (sym c.arena.ensures.value)
    (goes_on (config_of c.args.self.now) m c.args.method.now c.args.self.now.vars c.args.self.now.said.blocks c.on_said.new.self.said.blocks c.on_said.new.self.vars reply
    c.replies_of_messages.ensures.close c.on_said.new.self.said.size (c.on_said.ensures.ready.said ∙ ap (λ (cfg : Config). cfg.limits.bufsize) c.on_said.ensures.config)
    c.in_ok-on_said.field-0 c.if-not-branch.false c.in_ok-on_said.ensures.amends c.has_room_to_close.result (tells_alike c.has_room_to_close.result c.arena.result.now c.on_said.new.self.said c.arena.ensures.value c.has_room_to_close.ensures)
    c.if-not-has_room_to_close.false c.args.keep c.if-not-keep.false)

pub returns-then-not-keep-clause-amends : goal.returns-then-not-keep-clause-amends
returns-then-not-keep-clause-amends c = λ m reply.
    let closed : c.add_close.new.msg.blocks ≡ with_header (Header close_field.0 close_field.1) c.arena-then-not-keep.result.now.blocks = search rules in
    shut (config_of c.args.self.now) m c.args.method.now c.args.self.now.vars c.args.self.now.said.blocks c.on_said.new.self.said.blocks c.on_said.new.self.vars reply
    c.replies_of_messages.ensures.close c.on_said.new.self.said.size (c.on_said.ensures.ready.said ∙ ap (λ (cfg : Config). cfg.limits.bufsize) c.on_said.ensures.config)
    c.in_ok-on_said.field-0 c.if-not-branch.false c.in_ok-on_said.ensures.amends c.has_room_to_close.result (tells_alike c.has_room_to_close.result c.arena.result.now c.on_said.new.self.said c.arena.ensures.value c.has_room_to_close.ensures)
    c.if-not-has_room_to_close.false c.add_close.new.msg.blocks
    (closed ∙ ap (λ (x : Contents). with_header (Header close_field.0 close_field.1) x.blocks) (c.arena-then-not-keep.ensures.value ∙ c.arena.ensures.value)) c.args.keep c.if-not-keep.true
