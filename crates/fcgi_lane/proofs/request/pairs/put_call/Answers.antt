use Rattle.std.proofs.Common.{ap, ◌∙◌, codes}
use Rattle.fcgi_model.specs.Records.{Packing, put}
use Rattle.fcgi_lane.proofs.request.pairs.put_call.Goals as goal

pub returns : goal.returns
returns c =
    c.in_ok-put-4.ensures
    ∙ ap (λ (w : Packing). put w (codes "REQUEST_URI", c.args.target.now))
    (c.in_ok-put-3.ensures
    ∙ ap (λ (w : Packing). put w (codes "SERVER_PROTOCOL", codes "HTTP/1.1"))
    (c.in_ok-put-2.ensures ∙ ap (λ (w : Packing). put w (codes "REQUEST_METHOD", c.args.method.now)) c.in_ok-put.ensures))
