-- What contracts see of a link over a stream that doesn't block.
use Rattle.std.specs.Prelude.{ℕ, Bool}
use Rattle.px_link.specs.Link.{Seen, untold}

-- how many reads, and how many writes, have failed; whether the time for reads, and for writes, is over
pub record ReadySeen : Type 0 where
  pub read_faults : ℕ
  pub write_faults : ℕ
  pub reads_over : Bool
  pub writes_over : Bool

-- the link in the words of every link
abbrev pub link_of : ReadySeen → Seen
link_of seen = untold seen.read_faults seen.write_faults
