use Rattle.std.proofs.Common.{◌≡◌, ℕ, ◌+◌, [], ◌∷◌, ◌++◌, true, map, take, length, sym, ap, ◌∙◌, subst, arith}
use Rattle.std.specs.List.{list_all}
use Rattle.std.proofs.lemmas.Bool.{false≢true}
use Rattle.std.proofs.lemmas.List.{take_all}
use Rattle.http_model.specs.Head.{Head}
use Rattle.px_bytes.specs.Blanks.{trimmed}
use Rattle.http_rules.specs.Rule.Actions.{hdr_holds_pattern}
use Rattle.http_rules.specs.Rule.Valid.{IsMadeName}
use Rattle.http_rules.specs.Action.Given.{Env}
use Rattle.http_rules.specs.Action.Outcome.{IsPlaceOf}
use Rattle.http_rules.specs.Action.Replies.{is_good_hdr, hdr_field}
use Rattle.http_rules.specs.Action.Written.{IsPut}
use Rattle.http_rules.proofs.ActionLemmas.Sending.{take_next, one_fails, one_passes, none_passes, at_item, next_put, all_put}
use Rattle.http_rules.proofs.action.reply_fields.put_fields.Goals as goal

pub put_field-fits-requires-clause-named : goal.put_field-fits-requires-clause-named
put_field-fits-requires-clause-named c =
    let name = at_item (λ hdr. IsMadeName hdr.name) c.args.hdrs.now c.loop-at.at c.get-hdr.result.now c.get-hdr.ensures c.requires.names in
    omega (arith, name.named.some, ap length c.as_slice.ensures)

pub put_field-fits-requires-clause-short : goal.put_field-fits-requires-clause-short
put_field-fits-requires-clause-short c =
    let name = at_item (λ hdr. IsMadeName hdr.name) c.args.hdrs.now c.loop-at.at c.get-hdr.result.now c.get-hdr.ensures c.requires.names in
    omega (arith, name.named.short, ap length c.as_slice.ensures)

pub loop-at-preserved : goal.loop-at-preserved
loop-at-preserved c =
    let size = c.args.place.msg.now.size in
    let so_far = take c.loop-at.at c.args.hdrs.now in
    let hdr = c.get-hdr.result.now in
    let good : (env : Env) → IsPlaceOf env c.args.place → list_all (is_good_hdr size env) (take (c.loop-at.at + 1) c.args.hdrs.now) ≡ true = λ env at.
    ap (list_all (is_good_hdr size env)) (take_next c.args.hdrs.now c.loop-at.at hdr c.get-hdr.ensures)
    ∙ one_passes (is_good_hdr size env) so_far hdr (c.loop-at.invariant.good env at) ((c.in_ok-make_value.ensures.made env at).good_is ∙ c.if-not-branch.false)
    in
    let put : (env : Env) (head : Head) → IsPlaceOf env c.args.place → IsPut c.args.reply.now.size head [] c.args.begun c.args.reply.now.blocks
    → IsPut c.args.reply.now.size head (map (hdr_field size env) (take (c.loop-at.at + 1) c.args.hdrs.now)) c.put_field-fits.result c.put_field-fits.new.reply.blocks = λ env head at begun.
    let value = c.in_ok-make_value.ensures.made env at in
    let before = subst (λ (n : ℕ). IsPut n head (map (hdr_field size env) so_far) c.loop-at.fits c.loop-at.reply.blocks) (sym c.loop-at.invariant.size) (c.loop-at.invariant.put env head at begun) in
    next_put size c.args.reply.now.size env head c.args.hdrs.now c.loop-at.at hdr c.as_slice.result.now c.bytes.result.now c.put_field-fits.result c.put_field-fits.new.reply.blocks
    c.get-hdr.ensures c.as_slice.ensures (c.bytes.ensures.bytes ∙ value.holds c.if-not-branch.false)
    (subst (λ (n : ℕ). IsPut n head (map (hdr_field size env) so_far ++ (c.as_slice.result.now, trimmed c.bytes.result.now) ∷ []) c.put_field-fits.result c.put_field-fits.new.reply.blocks)
    c.loop-at.invariant.size (c.put_field-fits.ensures.put head (map (hdr_field size env) so_far) before))
    in
    record {
      text = c.in_ok-make_value.ensures.text ∙ c.loop-at.invariant.text;
      scratch = c.in_ok-make_value.ensures.scratch;
      size = c.put_field-fits.ensures.size ∙ c.loop-at.invariant.size;
      head = c.put_field-fits.ensures.head;
      good = good;
      put = put;
    }

pub returns-then-not-branch-clause-put : goal.returns-then-not-branch-clause-put
returns-then-not-branch-clause-put c =
    λ env head at begun.
    let value = c.in_ok-make_value.ensures.made env at in
    one_fails (is_good_hdr c.args.place.msg.now.size env) c.args.hdrs.now c.loop-at.at c.get-hdr.result.now c.get-hdr.ensures (value.good_is ∙ c.if-not-branch.true)

pub returns-clause-put : goal.returns-clause-put
returns-clause-put c =
    λ env head at begun.
    let all : take c.loop-at.at c.args.hdrs.now ≡ c.args.hdrs.now = take_all c.loop-at.at c.args.hdrs.now (omega (arith, c.loop-at-test.false, c.len-at-end.ensures)) in
    all_put c.args.place.msg.now.size c.args.reply.now.size env head c.args.hdrs.now (take c.loop-at.at c.args.hdrs.now) c.loop-at.fits c.step_by.result c.loop-at.reply.blocks all c.step_by.ensures
    (c.loop-at.invariant.good env at) (c.loop-at.invariant.put env head at begun)

pub returns-in_err-make_value-clause-succeeds : goal.returns-in_err-make_value-clause-succeeds
returns-in_err-make_value-clause-succeeds c =
    λ none. absurd (false≢true (c.in_err-make_value.ensures.succeeds (none_passes hdr_holds_pattern c.args.hdrs.now c.loop-at.at c.get-hdr.result.now c.get-hdr.ensures none)))
