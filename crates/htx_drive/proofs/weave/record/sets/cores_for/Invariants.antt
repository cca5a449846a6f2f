use Rattle.std.proofs.Common.{◌≡◌, length}
use Rattle.std.specs.List.{AllByRecursion}
use Rattle.htx_drive.specs.Weave.State.{IsReady, IsFresh}
use Rattle.htx_drive.proofs.weave.record.sets.cores_for.Given as goal

abbrev pub invariant-loop : goal.invariant-loop
invariant-loop g l =
    record {
      count : length l.all.items ≡ l.counter;
      ready : AllByRecursion (IsReady g.C.Machine.seen g.C.Machine.sound) l.all.items;
      fresh : AllByRecursion (IsFresh (g.C.Machine.stands (g.K.Cores.settings l.cores))) l.all.items;
    }
