use Rattle.std.proofs.Common.{rules, ◌≡◌, Some, None, refl}
use Rattle.px_run.proofs.Asked.{same_link}
use Rattle.px_run.proofs.AskedAll.{asked_at_some, asked_at_none}
use Rattle.px_run.proofs.hall.note_server.Goals as goal

pub returns-in-Some : goal.returns-in-Some
returns-in-Some g c =
    let e : c.args.at.now ≡ Some c.in-Some.connection = search rules in
    record {
      asked = asked_at_some g.L.Link.seen g.L.Link.wrote g.N.Net.seen c.args.at.now c.in-Some.connection _ e
          (record { number = refl; caller = refl; client = same_link g.L.Link.seen g.L.Link.wrote c.in-Some.connection.conn.client; server = c.note_link.ensures.same; net = refl; ran = refl; core = refl });
    }

pub returns-in-None : goal.returns-in-None
returns-in-None g c =
    let e : c.args.at.now ≡ None = search rules in
    record { asked = asked_at_none g.L.Link.seen g.L.Link.wrote g.N.Net.seen c.args.at.now e }
