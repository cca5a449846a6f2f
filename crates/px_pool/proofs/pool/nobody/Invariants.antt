use Rattle.std.proofs.Common.{◌≡◌, length}
use Rattle.px_pool.specs.Owners.{count_out}
use Rattle.px_pool.proofs.pool.nobody.Given as goal

abbrev pub invariant-loop : goal.invariant-loop
invariant-loop l =
    record {
      len : length l.owners.items ≡ l.counter;
      out : count_out l.owners.items ≡ 0;
    }
