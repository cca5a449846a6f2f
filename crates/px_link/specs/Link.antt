-- What contracts see of a link, and what its calls do.
use Rattle.std.specs.Prelude.{◌≡◌, ℕ, Bool, true, false, ◌+◌, ◌-◌, ◌≤◌, ◌<◌, ◌^◌, min, List, [], ◌++◌, length, take, drop, ⊤, Option, Some, None, Result, Ok, Err, IfSome}
use Rattle.http_model.specs.declared.Ending.{Ending}
use Rattle.http_model.specs.declared.Ending.TheVariants.{Closed, Broke}
use Rattle.http_model.specs.declared.Close.{Close}
use Rattle.fcgi_model.specs.Application.{Application}
use Rattle.fcgi_model.specs.Flow.{asked_of, IsSent}
use Rattle.px_link.specs.declared.fault.Failed.{Failed}
use Rattle.px_link.specs.declared.fault.Fault.{Fault}
use Rattle.px_link.specs.declared.fault.Fault.TheVariants as faults
use Rattle.px_link.specs.Told.{Rose}
use Rattle.px_link.specs.Calls.{fault_after}

-- how many bytes a link takes: it isn't told, so many, or as many as there are
pub data Takes : Type 0 where
  Untold : Takes
  UpTo : ℕ → Takes
  All : Takes

-- how what is written to a link is passed on: as it is; behind a header that goes first; or as the records that ask an application
pub data Manner : Type 0 where
  AsItIs : Manner
  Behind : (header : List ℕ) → Manner → Manner
  Asks : Application → Manner

-- A text behind a header, of which so much is out: while some of it isn't, the text is empty. Both are passed on so.
pub record IsBehind (header : List ℕ) (passed : List ℕ → Type 0) (text : List ℕ) : Type 0 where
  pub sent : ℕ
  pub within : sent ≤ length header
  pub first : sent < length header → text ≡ []
  pub whole : passed (take sent header ++ text)

-- These records are a front of those that ask what this text and some more do.
pub record AsksFront (application : Application) (bytes text : List ℕ) : Type 0 where
  pub more : List ℕ
  pub rest : List ℕ
  pub sent : IsSent (asked_of application (text ++ more)) (bytes ++ rest)

-- These records ask what this text does; of a link that has failed, a front of them.
abbrev pub AsksBy : Application → (failed : Bool) → (bytes text : List ℕ) → Type 0
AsksBy application false bytes text = IsSent (asked_of application text) bytes
AsksBy application true bytes text = AsksFront application bytes text

-- these bytes are passed on where this text was written in this manner, to a link of which a write has failed or none
abbrev pub PassesOn : Manner → (failed : Bool) → (bytes text : List ℕ) → Type 0
PassesOn AsItIs failed bytes text = text ≡ bytes
PassesOn (Behind header manner) failed bytes text = IsBehind header (PassesOn manner failed bytes) text
PassesOn (Asks application) failed bytes text = AsksBy application failed bytes text

-- what is left for a text behind so many bytes
abbrev pub takes_behind : ℕ → Takes → Takes
takes_behind len Untold = Untold
takes_behind len (UpTo n) = UpTo (n - len)
takes_behind len All = All

-- how much of a text a link takes that takes so many bytes
abbrev pub takes_in : Manner → Takes → Takes
takes_in AsItIs takes = takes
takes_in (Behind header manner) takes = takes_behind (length header) (takes_in manner takes)
takes_in (Asks application) takes = Untold

-- so many bytes and so many more, as far as a number of 64 bits counts
abbrev pub counted : ℕ → ℕ → ℕ
counted k n = k + min n (2 ^ 64 - 1 - k)

-- the bytes still to come and their ending; whether and how it was closed; whether reads fail at an ending Broke alone;
-- how many bytes of a text it takes, and how it passes them on; how many were given, as far as that is counted; how many reads, and how many writes, have failed
pub record Seen : Type 0 where
  pub to_come : Option (List ℕ)
  pub ending : Option Ending
  pub closed : Option (Option Close)
  pub plain : Bool
  pub takes : Takes
  pub manner : Manner
  pub taken : Option ℕ
  pub read_faults : ℕ
  pub write_faults : ℕ

-- a link of which only the counts are told
abbrev pub untold : ℕ → ℕ → Seen
untold read_faults write_faults = record {
  to_come = None;
  ending = None;
  closed = None;
  plain = false;
  takes = Untold;
  manner = AsItIs;
  taken = None;
  read_faults = read_faults;
  write_faults = write_faults;
}

-- what no call changes
pub record SameKind (old new : Seen) : Type 0 where
  pub ending : new.ending ≡ old.ending
  pub plain : new.plain ≡ old.plain
  pub takes : new.takes ≡ old.takes
  pub manner : new.manner ≡ old.manner

-- A read gave so many bytes: the next that were to come, and none only at a closed end.
pub record Gave (old new : Seen) (into : List ℕ) (n : ℕ) : Type 0 where
  pub within : n ≤ length into
  pub untold : old.to_come ≡ None → new.to_come ≡ None
  pub gives : IfSome old.to_come (λ bytes. (n ≤ length bytes) × (take n into ≡ take n bytes) × (new.to_come ≡ Some (drop n bytes)))
  pub at_end : n ≡ 0 → IfSome old.to_come (λ bytes. bytes ≡ []) × IfSome old.ending (λ ending. ending ≡ Closed)
  pub taken : IfSome old.taken (λ k. new.taken ≡ Some (counted k n))
  pub kind : SameKind old new
  pub closed : new.closed ≡ old.closed
  pub reads : new.read_faults ≡ old.read_faults
  pub writes : new.write_faults ≡ old.write_faults

-- A read failed: its count is the next one, a plain link had come to its broken end, and nothing was given.
pub record ReadFailed (old new : Seen) : Type 0 where
  pub one_more : new.read_faults ≡ fault_after old.read_faults
  pub never_falls : old.read_faults ≤ new.read_faults
  pub fails : old.plain ≡ true → IfSome old.to_come (λ bytes. bytes ≡ []) × IfSome old.ending (λ ending. ending ≡ Broke)
  pub to_come : new.to_come ≡ old.to_come
  pub taken : new.taken ≡ old.taken
  pub kind : SameKind old new
  pub closed : new.closed ≡ old.closed
  pub writes : new.write_faults ≡ old.write_faults

-- what a read does, by its answer; `into` is what the slice then holds
abbrev pub Reads : Seen → Seen → List ℕ → Result ℕ Failed → Type 0
Reads old new into (Ok n) = Gave old new into n
Reads old new into (Err fault) = ReadFailed old new

-- what a write leaves, but for its own count
pub record SameInput (old new : Seen) : Type 0 where
  pub to_come : new.to_come ≡ old.to_come
  pub taken : new.taken ≡ old.taken
  pub kind : SameKind old new
  pub closed : new.closed ≡ old.closed
  pub reads : new.read_faults ≡ old.read_faults

-- a link that takes so many bytes has taken no more
abbrev pub WithinTakes : Takes → ℕ → Type 0
WithinTakes Untold k = ⊤
WithinTakes (UpTo n) k = k ≤ n
WithinTakes All k = ⊤

-- a link that has taken so many bytes may refuse the next
abbrev pub MayRefuse : Takes → ℕ → Type 0
MayRefuse Untold k = ⊤
MayRefuse (UpTo n) k = k ≡ n
MayRefuse All k = ⊥

-- A write took so many bytes of a piece, at least one and within what the link takes, and no count rose.
pub record Took (wrote_old wrote_new : List ℕ → Type 0) (old new : Seen) (piece : List ℕ) (n : ℕ) : Type 0 where
  pub some : 0 < n
  pub within : n ≤ length piece
  pub wrote : (bytes : List ℕ) → wrote_old bytes → wrote_new (bytes ++ take n piece)
  pub limit : (bytes : List ℕ) → wrote_old bytes → WithinTakes old.takes (length (bytes ++ take n piece))
  pub input : SameInput old new
  pub writes : new.write_faults ≡ old.write_faults

-- A write failed: its count rose, the link had taken all that it takes, and nothing was taken.
pub record WriteFailed (wrote_old wrote_new : List ℕ → Type 0) (old new : Seen) : Type 0 where
  pub rose : Rose old.write_faults new.write_faults
  pub never_falls : old.write_faults ≤ new.write_faults
  pub full : (bytes : List ℕ) → wrote_old bytes → MayRefuse old.takes (length bytes)
  pub never : old.takes ≡ All → ⊥
  pub wrote : (bytes : List ℕ) → wrote_old bytes → wrote_new bytes
  pub input : SameInput old new

-- A write wanted memory: nothing was taken, and no count rose.
pub record NoRoom (wrote_old wrote_new : List ℕ → Type 0) (old new : Seen) : Type 0 where
  pub wrote : (bytes : List ℕ) → wrote_old bytes → wrote_new bytes
  pub input : SameInput old new
  pub writes : new.write_faults ≡ old.write_faults

-- what a write does, by its answer
abbrev pub Writes : (wrote_old wrote_new : List ℕ → Type 0) → Seen → Seen → List ℕ → Result ℕ Fault → Type 0
Writes wrote_old wrote_new old new piece (Ok n) = Took wrote_old wrote_new old new piece n
Writes wrote_old wrote_new old new piece (Err faults.Failed) = WriteFailed wrote_old wrote_new old new
Writes wrote_old wrote_new old new piece (Err faults.OutOfMemory) = NoRoom wrote_old wrote_new old new

-- a close is told where closes are told
abbrev pub closed_by : Option (Option Close) → Close → Option (Option Close)
closed_by None how = None
closed_by (Some old) how = Some (Some how)

-- a link that was closed so: nothing else of it changes
abbrev pub with_close : Seen → Close → Seen
with_close old how = record old { closed = closed_by old.closed how }
