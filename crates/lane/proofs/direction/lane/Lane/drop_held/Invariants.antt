use Rattle.std.proofs.Common.{◌≡◌, ◌≢◌, ◌≤◌, ◌+◌, [], true}
use Rattle.lane.specs.Direction.Filtering.{held_left}
use Rattle.http_model.specs.declared.Source.TheVariants as source
use Rattle.lane.specs.Direction.Sends.{IsSized, Keeps, Leads, reads_left, is_going}
use Rattle.lane.proofs.direction.lane.Lane.drop_held.Given as goal

abbrev pub invariant-parts : goal.invariant-parts
invariant-parts l = record {
  keeps : Keeps l.fn.self l.self;
  sized : IsSized l.self;
  output : l.self.output ≡ l.fn.self.output;
  out : l.self.out ≡ l.fn.self.out;
  writer : l.self.writer ≡ l.fn.self.writer;
  input : l.self.input ≡ l.fn.self.input;
  empty : l.self.msg.blocks ≡ [];
  leads : l.fn.self.dropped ≡ true → Leads l.fn.self l.self;
  reads : reads_left l.self ≤ reads_left l.fn.self;
  settled : l.fn.self.source ≢ source.Going → l.self.source ≡ l.fn.self.source;
}

abbrev pub decreases-parts : goal.decreases-parts
decreases-parts l = held_left l.self.sieve + is_going l.self.source
