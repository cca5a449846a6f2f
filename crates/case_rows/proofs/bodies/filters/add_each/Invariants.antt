use Rattle.std.proofs.Common.{◌≤◌, length}
use Rattle.body_filter.specs.Valid.{AreFilters}
use Rattle.case_rows.proofs.bodies.filters.add_each.Given as goal

abbrev pub invariant-loop-step : goal.invariant-loop-step
invariant-loop-step l = record { few : length l.filters.items ≤ 8; valid : AreFilters l.filters.items }
