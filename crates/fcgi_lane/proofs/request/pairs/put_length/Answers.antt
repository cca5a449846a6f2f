use Rattle.std.proofs.Common.{ℕ, List, ap, sym, ◌∙◌, codes}
use Rattle.http_model.specs.declared.Framing.{Framing}
use Rattle.fcgi_model.specs.Pairs.{length_pairs}
use Rattle.fcgi_model.specs.Records.{put, put_all}
use Rattle.fcgi_lane.proofs.request.pairs.put_length.Goals as goal

pub returns-in_ok-put-in-Length : goal.returns-in_ok-put-in-Length
returns-in_ok-put-in-Length c =
    c.in_ok-put-in-Length.ensures
    ∙ ap (λ (t : List ℕ). put c.args.writer.now (codes "CONTENT_LENGTH", t)) c.write_decimal-len.ensures.text
    ∙ ap (λ (f : Framing). put_all c.args.writer.now (length_pairs f)) (sym c.in-Length.is)
