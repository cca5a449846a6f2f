use Rattle.std.proofs.Common.{◌≡◌, ◌↔◌, OnOk, IsOk, List, ap, ◌∙◌, subst}
use Rattle.http_model.specs.Block.{Block}
use Rattle.http_model.specs.Blocks.{Fits}
use Rattle.http_model.specs.Head.{head_blocks}
use Rattle.http_model.specs.Finish.{finish_response, framing_fields}
use Rattle.px_reply.specs.Finished.{finished}
use Rattle.px_reply.proofs.Sent.{finished-heads}
use Rattle.px_reply.proofs.finish.finish_response.Goals as goal

pub returns-clause-ok : goal.returns-clause-ok
returns-clause-ok c = λ head e.
    let all : finished (framing_fields c.args.framing c.args.declared) c.args.close c.args.msg.now.blocks ≡ head_blocks (finish_response head c.args.framing c.args.declared c.args.close) =
    ap (finished (framing_fields c.args.framing c.args.declared) c.args.close) e ∙ finished-heads c.edits_of_heads.ensures.add c.edits_of_heads.ensures.strip (framing_fields c.args.framing c.args.declared) c.args.close head in
    let P : List Block → Type 0 = λ blocks. OnOk c.finish.result (c.finish.new.msg.blocks ≡ blocks) in
    subst P all c.finish.ensures.ok

pub returns-clause-fits : goal.returns-clause-fits
returns-clause-fits c = λ head e.
    let all : finished (framing_fields c.args.framing c.args.declared) c.args.close c.args.msg.now.blocks ≡ head_blocks (finish_response head c.args.framing c.args.declared c.args.close) =
    ap (finished (framing_fields c.args.framing c.args.declared) c.args.close) e ∙ finished-heads c.edits_of_heads.ensures.add c.edits_of_heads.ensures.strip (framing_fields c.args.framing c.args.declared) c.args.close head in
    let P : List Block → Type 0 = λ blocks. IsOk c.finish.result ↔ Fits blocks c.args.msg.now.size in
    subst P all c.finish.ensures.fits
