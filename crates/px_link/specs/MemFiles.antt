-- What contracts see of files in memory.
use Rattle.std.specs.Prelude.{ℕ, Bool, ◌||◌, List, is_none}
use Rattle.px_link.specs.Told.{NamedBytes, content_of}
use Rattle.px_link.specs.Calls.{next_call, is_listed}

-- the files, the newest first; the numbers of the reads that are to fail; how many reads there were and how
-- many failed, each up to the last value of a u64; and the name of the last that failed
pub record FilesSeen : Type 0 where
  pub files : List NamedBytes
  pub failing : List ℕ
  pub calls : ℕ
  pub faults : ℕ
  pub last_failed : List ℕ

-- the next read, of this name, is to fail: its number is listed, or there is no such file
abbrev pub fails_next : FilesSeen → List ℕ → Bool
fails_next seen name = is_listed (next_call seen.calls) seen.failing || is_none (content_of seen.files name)

-- so many bytes of a name are kept without memory from elsewhere
abbrev pub name_room : ℕ
name_room = 255
