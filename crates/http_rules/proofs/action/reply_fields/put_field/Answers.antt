use Rattle.std.proofs.Common.{List, ℕ, Bool, sym, ap, ◌∙◌, subst}
use Rattle.std.proofs.lemmas.Bool.{OnTrue_at, false≢true}
use Rattle.http_model.specs.Block.{Header}
use Rattle.http_model.specs.Blocks.{Fits}
use Rattle.header_ops.specs.Headers.{with_header}
use Rattle.px_bytes.specs.Blanks.{trimmed}
use Rattle.http_rules.specs.Action.Written.{IsPut}
use Rattle.http_rules.proofs.ActionLemmas.Sending.{put, not_put, head_with, head_ends}
use Rattle.http_rules.proofs.action.reply_fields.put_field.Goals as goal

pub add_field-requires-clause-end : goal.add_field-requires-clause-end
add_field-requires-clause-end c = head_ends c.args.reply.now.blocks (OnTrue_at c.if-not-fits.false c.requires.head)

pub returns-in-Ok-clause-put : goal.returns-in-Ok-clause-put
returns-in-Ok-clause-put c =
    λ head fields is.
    put c.args.reply.now.size c.args.name.now (trimmed c.args.text.now) fields head c.args.reply.now.blocks c.add_field.new.msg.blocks
    (subst (λ (t : Bool). IsPut c.args.reply.now.size head fields t c.args.reply.now.blocks) c.if-not-fits.false is)
    (c.in-Ok.ensures.ok ∙ ap (λ (v : List ℕ). with_header (Header c.args.name.now v) c.args.reply.now.blocks) c.trim.ensures)

pub returns-in-Ok-clause-head : goal.returns-in-Ok-clause-head
returns-in-Ok-clause-head c =
    head_with c.args.name.now c.trim.result.now c.args.reply.now.blocks c.add_field.new.msg.blocks (OnTrue_at c.if-not-fits.false c.requires.head) c.in-Ok.ensures.ok

pub returns-in-Err-clause-put : goal.returns-in-Err-clause-put
returns-in-Err-clause-put c =
    λ head fields is.
    not_put c.args.reply.now.size c.args.name.now (trimmed c.args.text.now) fields head c.args.reply.now.blocks c.add_field.new.msg.blocks
    (subst (λ (t : Bool). IsPut c.args.reply.now.size head fields t c.args.reply.now.blocks) c.if-not-fits.false is)
    (λ fits. false≢true (c.in-Err.ensures.fits.1 (subst (λ (v : List ℕ). Fits (with_header (Header c.args.name.now v) c.args.reply.now.blocks) c.args.reply.now.size) (sym c.trim.ensures) fits)))
