-- The records of an application, byte by byte: where its stream stands, and which bytes are output (FastCGI 1.0 sections 3.3, 5.3 and 5.5).
use Rattle.std.specs.Prelude.{◌≡◌, ℕ, ◌+◌, ◌-◌, Bool, true, false, not, ◌&&◌, if◌then◌else◌, ◌==◌, nat_le, List, [], ◌∷◌, ◌++◌, length, Option, Some, None}
use Rattle.std.specs.List.{fold}
use Rattle.fcgi_record.specs.Heads.{head_of}
use Rattle.fcgi_record.specs.declared.record_head.RecordHead.{RecordHead}

-- where a stream of records stands
pub data Place : Type 0 where
  -- in the head of a record, behind these bytes of it
  InRecord : (head : List ℕ) → Place
  -- so many bytes of output are to come, and then so many of padding
  InOutput : (left pad : ℕ) → Place
  -- so many bytes are to come that say nothing
  Skipping : (left : ℕ) → Place
  -- in the end of the request, behind so many bytes of it
  InEnd : (behind : ℕ) → Place
  -- the request was ended, and not refused
  Over : Place
  Faulty : Place

-- where it stands; whether its output has ended; how many bytes in a row added none to the output
pub record Flow : Type 0 where
  pub place : Place
  pub shut : Bool
  pub idle : ℕ

-- bytes in a row that may add none to the output
abbrev pub patience : ℕ
patience = 1048576

abbrev pub fresh : Flow
fresh = record { place = InRecord []; shut = false; idle = 0 }

abbrev pub skip : ℕ → Place
skip left = if left == 0 then InRecord [] else Skipping left

-- behind the head of a record of the request: of output, of errors, or of its end, which is 8 bytes
abbrev pub opens_own : Bool → RecordHead → Place × Bool
opens_own shut head =
    if head.kind == 7 then (skip (head.len + head.pad), shut)
    else if head.kind == 6 then (if shut then (Faulty, shut) else if head.len == 0 then (skip head.pad, true) else (InOutput head.len head.pad, false))
    else if head.kind == 3 && head.len == 8 then (InEnd 0, shut)
    else (Faulty, shut)

-- behind a record's head: records of the application itself say nothing, and there are none of another request
abbrev pub opens : Bool → Option RecordHead → Place × Bool
opens shut None = (Faulty, shut)
opens shut (Some head) =
    if head.id == 0 then (skip (head.len + head.pad), shut)
    else if head.id == 1 then opens_own shut head
    else (Faulty, shut)

-- where one more byte leads
abbrev pub leads : Place → Bool → ℕ → Place × Bool
leads (InRecord head) shut b = if length head == 7 then opens shut (head_of (head ++ b ∷ [])) else (InRecord (head ++ b ∷ []), shut)
leads (InOutput left pad) shut b = (if nat_le left 1 then skip pad else InOutput (left - 1) pad, shut)
leads (Skipping left) shut b = (skip (left - 1), shut)
leads (InEnd behind) shut b = (if behind == 4 && not (b == 0) then Faulty else if behind == 7 then Over else InEnd (behind + 1), shut)
leads Over shut b = (Over, shut)
leads Faulty shut b = (Faulty, shut)

-- the next byte is output
abbrev pub adds : Place → Bool
adds (InRecord head) = false
adds (InOutput left pad) = true
adds (Skipping left) = false
adds (InEnd behind) = false
adds Over = false
adds Faulty = false

-- a stream that has added nothing for too long is faulty, unless its end has come
abbrev pub tired : Place → (idle : ℕ) → Place
tired Over idle = Over
tired (InRecord head) idle = if nat_le patience idle then Faulty else InRecord head
tired (InOutput left pad) idle = if nat_le patience idle then Faulty else InOutput left pad
tired (Skipping left) idle = if nat_le patience idle then Faulty else Skipping left
tired (InEnd behind) idle = if nat_le patience idle then Faulty else InEnd behind
tired Faulty idle = Faulty

abbrev pub behind : Place × Bool → (idle : ℕ) → Flow
behind to idle = record { place = tired to.0 idle; shut = to.1; idle = idle }

-- behind one more byte
abbrev pub next : Flow → ℕ → Flow
next flow b = behind (leads flow.place flow.shut b) (if adds flow.place then 0 else flow.idle + 1)

-- the output among the bytes
abbrev pub output_in : Flow → List ℕ → List ℕ
output_in flow [] = []
output_in flow (b ∷ bytes) = (if adds flow.place then b ∷ [] else []) ++ output_in (next flow b) bytes

-- the request was ended, and not refused
abbrev pub is_over : Place → Bool
is_over Over = true
is_over (InRecord head) = false
is_over (InOutput left pad) = false
is_over (Skipping left) = false
is_over (InEnd behind) = false
is_over Faulty = false

-- the request is neither ended nor faulty
abbrev pub is_going : Place → Bool
is_going (InRecord head) = true
is_going (InOutput left pad) = true
is_going (Skipping left) = true
is_going (InEnd behind) = true
is_going Over = false
is_going Faulty = false

-- the bytes lead from one flow to another, and have this output
pub record Goes (from : Flow) (bytes : List ℕ) (to : Flow) (output : List ℕ) : Type 0 where
  pub flow : fold next from bytes ≡ to
  pub found : output_in from bytes ≡ output

-- The bytes lead from one flow to another, and have this output: so it is for the output and the end of all that may follow. Behind the end of a
-- request, and behind a fault, nothing is counted.
pub record Passes (old : Flow) (bytes : List ℕ) (new : Flow) (found : List ℕ) : Type 0 where
  pub output : (rest : List ℕ) → output_in old (bytes ++ rest) ≡ found ++ output_in new rest
  pub place : (rest : List ℕ) → (fold next old (bytes ++ rest)).place ≡ (fold next new rest).place
