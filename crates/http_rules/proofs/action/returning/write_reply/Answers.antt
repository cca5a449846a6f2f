use Rattle.std.proofs.Common.{◌≡◌, ℕ, true, false, length, refl, sym, ap, ◌∙◌, subst}
use Rattle.std.proofs.lemmas.Result.{IfOk-weaker}
use Rattle.std.specs.Prelude.{option_map, option_copied}
use Rattle.std.specs.List.{list_all}
use Rattle.http_model.specs.Reply.{reply_head}
use Rattle.px_bytes.specs.Blanks.{trimmed}
use Rattle.http_rules.specs.declared.action.stepped.Stepped.{Stepped}
use Rattle.http_rules.specs.Action.Given.{Env}
use Rattle.http_rules.specs.Action.Outcome.{IsPlaceOf}
use Rattle.http_rules.specs.Action.Replies.{is_good_payload, is_good_type, is_good_hdr, type_by, length_by, returned}
use Rattle.http_rules.specs.Action.Written.{IsReply, IsWritten, body_by}
use Rattle.http_rules.proofs.ActionLemmas.Sending.{Begins, bad_texts, first_bad, second_bad, reply_is}
use Rattle.http_rules.proofs.action.returning.write_reply.Goals as goal

pub returns-then-not-is_good_type-clause-written : goal.returns-then-not-is_good_type-clause-written
returns-then-not-is_good_type-clause-written c =
    λ env at.
    let size = c.args.place.msg.now.size in
    let payload = c.args.returned.payload.now in
    let bad : is_good_type (type_by payload c.args.returned.content_type.now) ≡ false = ap is_good_type (sym c.type_by-content_type.ensures) ∙ sym c.is_good_type.ensures ∙ c.if-not-is_good_type.true in
    bad_texts size c.args.returned.status c.args.returned.content_type.now payload c.args.returned.hdrs.now env c.args.reply.now.blocks
    (second_bad (is_good_payload size env payload) (is_good_type (type_by payload c.args.returned.content_type.now)) (list_all (is_good_hdr size env) c.args.returned.hdrs.now) bad)

pub returns-then-not-branch-clause-written : goal.returns-then-not-branch-clause-written
returns-then-not-branch-clause-written c =
    λ env at.
    let size = c.args.place.msg.now.size in
    let payload = c.args.returned.payload.now in
    let made = c.in_ok-make_payload.ensures.made env at in
    bad_texts size c.args.returned.status c.args.returned.content_type.now payload c.args.returned.hdrs.now env c.args.reply.now.blocks
    (first_bad (is_good_payload size env payload) _ (made.within ∙ c.if-not-branch.true))

pub returns-clause-written : goal.returns-clause-written
returns-clause-written c =
    let size = c.args.place.msg.now.size in
    let typed = option_copied c.type_by-content_type.result in
    let body = body_by c.args.returned.payload.now c.make_payload.new.scratch.text.bytes in
    let told = length_by c.args.returned.status (length body) in
    let good : is_good_type typed ≡ true = sym c.is_good_type.ensures ∙ c.if-not-is_good_type.false in
    IfOk-weaker c.write_parts.result
    (λ (step : Stepped). (env : Env) → IsPlaceOf env c.args.place → IsReply size c.args.reply.now.size env (reply_head c.args.returned.status (option_map trimmed typed) told) c.args.returned.hdrs.now body step c.write_parts.new.reply.blocks)
    (λ (step : Stepped). (env : Env) → IsPlaceOf env c.args.place → IsWritten (returned size c.args.returned.status c.args.returned.content_type.now c.args.returned.payload.now c.args.returned.hdrs.now env) step c.write_parts.new.reply.blocks)
    (λ step h. λ env at.
    let made = c.in_ok-make_payload.ensures.made env at in
    let begins : Begins size c.args.returned.status env c.args.returned.content_type.now c.args.returned.payload.now typed body told = record {
      type_is = c.type_by-content_type.ensures;
      good_type = good;
      body_is = made.holds c.if-not-branch.false;
      good_payload = made.within ∙ c.if-not-branch.false;
      told_is = refl;
    } in
    reply_is size c.args.returned.status env c.args.returned.content_type.now c.args.returned.payload.now c.args.returned.hdrs.now typed body told step c.write_parts.new.reply.blocks begins
    (subst (λ (n : ℕ). IsReply size n env (reply_head c.args.returned.status (option_map trimmed typed) told) c.args.returned.hdrs.now body step c.write_parts.new.reply.blocks) c.requires.sizes (h env at)))
    c.write_parts.ensures.put
