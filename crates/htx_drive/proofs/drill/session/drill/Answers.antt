use Rattle.std.proofs.Common.{ℕ, ◌≡◌, ◌-◌, ◌<◌, ◌∙◌, map, arith}
use Rattle.rec_format.specs.Read.{servers}
use Rattle.htx_drive.specs.Drill.Drill.{requests_text, server_of}
use Rattle.htx_drive.specs.Drill.Plan.{plans_of}
use Rattle.htx_drive.proofs.DrillLemmas.Behind.{made, request_last, request_more, server_last, server_more}
use Rattle.htx_drive.proofs.drill.session.drill.Goals as goal

pub loop-at-preserved : goal.loop-at-preserved
loop-at-preserved c =
    let l = c.loop-at in
    let n : ℕ = c.args.exchanges in
    let less : l.at < n = omega arith in
    record {
      client = request_more l.client.items c.put_exchange.new.client.items (requests_text 1 (plans_of n c.args.seed)) n l.at l.state c.put_exchange.new.state less c.in_ok-put_exchange.ensures.client c.in_ok-put_exchange.ensures.state l.invariant.client;
      servers = server_more (servers l.servers.items) (servers c.put_exchange.new.others.items) (map server_of (plans_of n c.args.seed)) n l.at l.state c.put_exchange.new.state less c.in_ok-put_exchange.ensures.servers c.in_ok-put_exchange.ensures.state l.invariant.servers;
    }

pub returns : goal.returns
returns c =
    let l = c.loop-at in
    let n : ℕ = c.args.exchanges in
    let none : n - l.at ≡ 0 = omega arith in
    made c.args.seed n c.from.result (servers l.servers.items)
    (c.from.ensures ∙ request_last l.client.items (requests_text 1 (plans_of n c.args.seed)) n l.at l.state none l.invariant.client)
    (server_last (servers l.servers.items) (map server_of (plans_of n c.args.seed)) n l.at l.state none l.invariant.servers)
