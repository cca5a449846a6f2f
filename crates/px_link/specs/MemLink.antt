-- What contracts see of a link in memory.
use Rattle.std.specs.Prelude.{ℕ, ◌-◌, Bool, true, false, ◌&&◌, ◌||◌, ◌==◌, min, List, length, Option, Some, None, if◌then◌else◌}
use Rattle.http_model.specs.declared.Ending.{Ending}
use Rattle.http_model.specs.declared.Ending.TheVariants.{Closed, Broke}
use Rattle.http_model.specs.declared.Close.{Close}
use Rattle.px_link.specs.Calls.{next_call, is_listed, fails_none}
use Rattle.px_link.specs.Link.{Seen, Takes, Untold, UpTo, All, AsItIs}

-- the bytes still to come, their ending, how many were given; what was written, how much it takes, how it was closed; the
-- numbers of the reads and of the writes that are to fail; how many reads and writes there were and how many of each
-- failed, each up to the last value of a u64
pub record MemLinkSeen : Type 0 where
  pub to_come : List ℕ
  pub ending : Ending
  pub taken : ℕ
  pub written : List ℕ
  pub takes : Option ℕ
  pub closed : Option Close
  pub failing_reads : List ℕ
  pub failing_writes : List ℕ
  pub reads : ℕ
  pub writes : ℕ
  pub read_faults : ℕ
  pub write_faults : ℕ

-- no call is to fail
abbrev pub is_plain : MemLinkSeen → Bool
is_plain seen = fails_none seen.failing_reads && fails_none seen.failing_writes

-- none takes all
abbrev pub limit_of : Option ℕ → Takes
limit_of None = All
limit_of (Some n) = UpTo n

-- the link in the words of every link; how much it takes is told while no call is to fail
abbrev pub link_of : MemLinkSeen → Seen
link_of seen = record {
  to_come = Some seen.to_come;
  ending = Some seen.ending;
  closed = Some seen.closed;
  plain = is_plain seen;
  takes = if is_plain seen then limit_of seen.takes else Untold;
  manner = AsItIs;
  taken = Some seen.taken;
  read_faults = seen.read_faults;
  write_faults = seen.write_faults;
}

-- the stream has broken off: so many bytes are still to come, none
abbrev pub is_broken : Ending → ℕ → Bool
is_broken Broke left = left == 0
is_broken Closed left = false

-- the next read is to fail: its number is listed, or the stream has broken off
abbrev pub fails_read : MemLinkSeen → Bool
fails_read seen = is_listed (next_call seen.reads) seen.failing_reads || is_broken seen.ending (length seen.to_come)

-- so many of these bytes fit, after those that were written
abbrev pub fitting : Option ℕ → List ℕ → List ℕ → ℕ
fitting None written piece = length piece
fitting (Some takes) written piece = min (length piece) (takes - length written)

-- the next write, of this piece, is to fail: its number is listed, or no byte fits
abbrev pub fails_write : MemLinkSeen → List ℕ → Bool
fails_write seen piece = is_listed (next_call seen.writes) seen.failing_writes || (fitting seen.takes seen.written piece == 0)

-- it was not closed
abbrev pub is_open : Option Close → Bool
is_open None = true
is_open (Some how) = false

-- no call was made on it yet
abbrev pub is_unused : MemLinkSeen → Bool
is_unused seen =
    seen.reads == 0
    && (seen.writes == 0 && (is_open seen.closed && (seen.taken == 0 && (length seen.written == 0 && (seen.read_faults == 0 && seen.write_faults == 0)))))

-- no call was made on it yet, where it is a link
abbrev pub is_unused_or_none : Option MemLinkSeen → Bool
is_unused_or_none None = true
is_unused_or_none (Some seen) = is_unused seen
