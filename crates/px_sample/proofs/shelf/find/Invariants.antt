use Rattle.std.proofs.Common.{◌≡◌, take, drop, sum_by}
use Rattle.px_sample.specs.Entry.{lookup}
use Rattle.px_sample.specs.Slot.{len_of, entries_of}
use Rattle.px_sample.proofs.shelf.find.Given as goal

-- what the names so far were not is what those that are left may be
abbrev pub invariant-loop-index : goal.invariant-loop-index
invariant-loop-index l = record {
  starts : l.at ≡ sum_by len_of (take l.index l.slots);
  rest : lookup l.name (entries_of l.slots l.bytes) ≡ lookup l.name (entries_of (drop l.index l.slots) (drop l.at l.bytes));
}
