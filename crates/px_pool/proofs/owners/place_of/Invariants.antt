use Rattle.std.proofs.Common.{◌≡◌, ◌+◌, drop}
use Rattle.px_pool.specs.Owners.{place_of, has_one}
use Rattle.px_pool.proofs.owners.place_of.Given as goal

-- none so far is the connection's
abbrev pub invariant-loop-owner : goal.invariant-loop-owner
invariant-loop-owner l =
    record {
      at : l.place ≡ l.owner-index;
      passed : l.owner-index + place_of l.conn (drop l.owner-index l.owners) ≡ place_of l.conn l.owners;
      has : has_one l.conn (drop l.owner-index l.owners) ≡ has_one l.conn l.owners;
    }
