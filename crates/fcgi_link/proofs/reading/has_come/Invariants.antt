use Rattle.std.proofs.Common.{◌≡◌, ℕ, List, length}
use Rattle.fcgi_lane.specs.Answer.Work.{work_left}
use Rattle.fcgi_link.specs.Reading.{IsReading, IsAlike}
use Rattle.fcgi_link.proofs.reading.has_come.Given as goal

abbrev pub invariant-pieces : goal.invariant-pieces
invariant-pieces g l = record {
  reading : IsReading l.translator;
  alike : IsAlike l.fn.translator (g.L.Link.seen l.fn.inner) l.translator (g.L.Link.seen l.inner);
  len : length l.buffer ≡ length l.fn.buffer;
  wrote : (bytes : List ℕ) → g.L.Link.wrote l.fn.inner bytes → g.L.Link.wrote l.inner bytes;
}

abbrev pub decreases-pieces : goal.decreases-pieces
decreases-pieces g l = work_left l.translator
