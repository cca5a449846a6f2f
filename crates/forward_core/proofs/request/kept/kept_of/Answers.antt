use Rattle.std.proofs.Common.{Bool, ap, ◌∙◌}
use Rattle.std.specs.Prelude.{not, ◌&&◌}
use Rattle.httparse.specs.Grammar.{print_version}
use Rattle.session_model.specs.Meaning.{is_bodiless}
use Rattle.forward_core.proofs.RequestLemmas.Keeping.{kept_is}
use Rattle.forward_core.proofs.request.kept.kept_of.Goals as goal

pub returns : goal.returns
returns c =
    let eleven : Bool = c.is_http_11-is_http_11.result in
    let expects : Bool = c.has_named-expects.result in
    record {
      kept = λ received stands.
          let line = stands.line in
          kept_is received line.method line.target (print_version line.minor) c.args.msg.now.blocks c.asks_head.result eleven c.is_bodiless-is_bodiless.result expects c.expects_continue-continues.result c.all.result c.all-2.result line.is stands.blocks
          c.asks_head.ensures c.is_http_11-is_http_11.ensures (c.is_bodiless-is_bodiless.ensures ∙ ap is_bodiless stands.framing) c.has_named-expects.ensures c.expects_continue-continues.ensures
          (c.all.ensures ∙ ap (λ (b : Bool). (eleven && not b && not expects)) stands.close) c.all-2.ensures;
    }
