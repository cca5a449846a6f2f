use Rattle.std.proofs.Common.{◌≡◌, ◌≢◌, ◌≤◌, ℕ, List, ◌++◌, length}
use Rattle.http_model.specs.declared.Source.TheVariants as source
use Rattle.lane.specs.Direction.Sends.{Keeps, Leads, IsSized, reads_left}
use Rattle.lane.proofs.direction.lane.Lane.carry.Given as goal

abbrev pub invariant-turns : goal.invariant-turns
invariant-turns l = record {
  keeps : Keeps l.fn.self l.self;
  grows : (put : List ℕ) × (l.self.output.items ≡ l.fn.self.output.items ++ put);
  sized : IsSized l.self;
  leads : Leads l.fn.self l.self;
  held : length l.self.input.items ≤ l.self.input.capacity;
  settled : l.fn.self.source ≢ source.Going → l.self.source ≡ l.fn.self.source;
}

abbrev pub decreases-turns : goal.decreases-turns
decreases-turns l = reads_left l.self
