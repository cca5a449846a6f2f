use Rattle.std.proofs.Common.{◌∙◌}
use Rattle.cfg_lex.proofs.SpanLemmas.{with_bytes-push}
use Rattle.cfg_lex.proofs.draft.Draft.push.Goals as goal

pub returns : goal.returns
returns c =
    let inside = c.self.inside in
    rw c.in_ok-push.ensures.items (with_bytes-push inside.bytes.items inside.spans.items inside.is_open inside.from inside.faulty c.args.byte c.args.self.now c.self.invariant.0 c.self.invariant.1 (c.self.view_is ∙ c.begin.ensures))
