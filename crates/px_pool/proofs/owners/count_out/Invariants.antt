use Rattle.std.proofs.Common.{◌≡◌, ◌+◌, ◌≤◌, drop}
use Rattle.px_pool.specs.Owners.{count_out}
use Rattle.px_pool.proofs.owners.count_out.Given as goal

-- those so far and those of the rest are all
abbrev pub invariant-loop-owner : goal.invariant-loop-owner
invariant-loop-owner l =
    record {
      sum : l.count + count_out (drop l.owner-index l.owners) ≡ count_out l.owners;
      within : l.count ≤ l.owner-index;
    }
