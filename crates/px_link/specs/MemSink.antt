-- What contracts see of a sink in memory.
use Rattle.std.specs.Prelude.{ℕ, Bool, List}
use Rattle.px_link.specs.Calls.{next_call, is_listed}

-- what was written; the numbers of the writes that are to fail; how many writes there were and how many
-- failed, each up to the last value of a u64
pub record SinkSeen : Type 0 where
  pub bytes : List ℕ
  pub failing : List ℕ
  pub calls : ℕ
  pub faults : ℕ

-- the number of the next write is listed
abbrev pub fails_next : SinkSeen → Bool
fails_next seen = is_listed (next_call seen.calls) seen.failing
