use Rattle.std.proofs.Common.{◌≡◌, ◌≢◌, ◌≤◌, [], true, length}
use Rattle.http_model.specs.declared.Source.TheVariants as source
use Rattle.lane.specs.Direction.Sends.{IsSized, Keeps, Leads, reads_left}
use Rattle.lane.proofs.direction.lane.Lane.drop_body.Given as goal

abbrev pub invariant-parts : goal.invariant-parts
invariant-parts l = record {
  keeps : Keeps l.fn.self l.self;
  sized : IsSized l.self;
  output : l.self.output ≡ l.fn.self.output;
  out : l.self.out ≡ l.fn.self.out;
  writer : l.self.writer ≡ l.fn.self.writer;
  empty : l.self.msg.blocks ≡ [];
  leads : l.fn.self.dropped ≡ true → Leads l.fn.self l.self;
  held : length l.self.input.items ≤ l.self.input.capacity;
  settled : l.fn.self.source ≢ source.Going → l.self.source ≡ l.fn.self.source;
}

abbrev pub decreases-parts : goal.decreases-parts
decreases-parts l = reads_left l.self
