use Rattle.std.proofs.Common.{List, ℕ, ap, ◌∙◌}
use Rattle.std.specs.Prelude.{not}
use Rattle.httparse.specs.Spans.{header_bytes}
use Rattle.http_model.specs.Fields.{is_named_among}
use Rattle.http_model.specs.Finish.{own_names}
use Rattle.h1_body.proofs.trailers.is_kept.Goals as goal

pub returns : goal.returns
returns c =
    let f = header_bytes c.args.section.now c.args.field.now in
    ap not (c.is_dropped.ensures f.1 ∙ ap (λ (n : List ℕ). is_named_among own_names (n, f.1)) c.of.ensures)
