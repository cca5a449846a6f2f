use Rattle.std.proofs.Common.{◌≡◌, ◌+◌, drop}
use Rattle.px_pool.specs.Owners.{first_free, all_out}
use Rattle.px_pool.proofs.owners.first_free.Given as goal

-- none so far is free
abbrev pub invariant-loop-owner : goal.invariant-loop-owner
invariant-loop-owner l =
    record {
      at : l.place ≡ l.owner-index;
      passed : l.owner-index + first_free (drop l.owner-index l.owners) ≡ first_free l.owners;
      out : all_out (drop l.owner-index l.owners) ≡ all_out l.owners;
    }
