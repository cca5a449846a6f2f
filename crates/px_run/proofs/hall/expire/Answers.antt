use Rattle.std.proofs.Common.{rules, ◌≡◌, Some, None, refl, ap}
use Rattle.px_run.proofs.AskedAll.{asked_at_some, asked_at_none}
use Rattle.px_run.proofs.hall.expire.Goals as goal

pub returns-in-Some : goal.returns-in-Some
returns-in-Some g c =
    let e : c.args.at.now ≡ Some c.in-Some.connection = search rules in
    record {
      asked = asked_at_some g.L.Link.seen g.L.Link.wrote g.N.Net.seen c.args.at.now c.in-Some.connection _ e
          (record { number = refl; caller = refl; client = c.expire_call.ensures.client; server = c.expire_call.ensures.server; net = ap g.N.Net.seen c.expire_call.ensures.net; ran = c.expire_call.ensures.ran; core = refl });
    }

pub returns-in-None : goal.returns-in-None
returns-in-None g c =
    let e : c.args.at.now ≡ None = search rules in
    record { asked = asked_at_none g.L.Link.seen g.L.Link.wrote g.N.Net.seen c.args.at.now e }
