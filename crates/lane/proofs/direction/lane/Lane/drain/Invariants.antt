use Rattle.std.proofs.Common.{◌≡◌, ◌≢◌, ◌≤◌, ℕ, List, ◌++◌}
use Rattle.http_model.specs.declared.Source.TheVariants as source
use Rattle.lane.specs.Direction.Sends.{Keeps, Leads, IsSized, reads_left, brings_left}
use Rattle.lane.proofs.direction.lane.Lane.drain.Given as goal

abbrev pub invariant-parts : goal.invariant-parts
invariant-parts l = record {
  keeps : Keeps l.fn.self l.self;
  grows : (put : List ℕ) × (l.self.output.items ≡ l.fn.self.output.items ++ put);
  input : l.self.input ≡ l.fn.self.input;
  sized : IsSized l.self;
  leads : Leads l.fn.self l.self;
  reads : reads_left l.self ≤ reads_left l.fn.self;
  settled : l.fn.self.source ≢ source.Going → l.self.source ≡ l.fn.self.source;
}

abbrev pub decreases-parts : goal.decreases-parts
decreases-parts l = brings_left l.self
