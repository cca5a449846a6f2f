use Rattle.std.proofs.Common.{◌≡◌, ◌+◌, ◌-◌, ◌++◌, map}
use Rattle.rec_format.specs.Read.{servers}
use Rattle.htx_drive.specs.Drill.Drill.{requests_text, server_of}
use Rattle.htx_drive.specs.Drill.Plan.{plans_of}
use Rattle.htx_drive.proofs.drill.session.drill.Given as goal

abbrev pub invariant-loop-at : goal.invariant-loop-at
invariant-loop-at l =
    record {
      client : l.client.items ++ requests_text (l.at + 1) (plans_of (l.exchanges - l.at) l.state) ≡ requests_text 1 (plans_of l.exchanges l.seed);
      servers : servers l.servers.items ++ map server_of (plans_of (l.exchanges - l.at) l.state) ≡ map server_of (plans_of l.exchanges l.seed);
    }
