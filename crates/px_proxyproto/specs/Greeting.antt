-- What a greeting does to the link that it reads.
use Rattle.std.specs.Prelude.{◌≡◌, ℕ, true, List, [], ◌++◌, length, Option, None, Some, IfSome}
use Rattle.http_model.specs.declared.Ending.{Ending}
use Rattle.http_model.specs.declared.Ending.TheVariants.{Closed, Broke}
use Rattle.px_link.specs.Link.{Seen, SameKind, counted}
use Rattle.px_link.specs.Calls.{fault_after}
use Rattle.px_proxyproto.specs.declared.state.ProxyState.{ProxyState}
use Rattle.px_proxyproto.specs.declared.state.ProxyState.TheVariants.{More, Got, Bad}
use Rattle.px_proxyproto.specs.declared.greeting.Greeting.{Greeting}
use Rattle.px_proxyproto.specs.declared.greeting.Greeting.TheVariants as greetings
use Rattle.px_proxyproto.specs.Headers.{IsHeader, NoHeader, NoneYet}
use Rattle.px_proxyproto.specs.Reading.{Read, HasRead}

-- These bytes were taken from the link: the next that were to come, and no others. Nothing else of it changed but the count of reads.
pub record TakenFrom (old new : Seen) (bytes : List ℕ) : Type 0 where
  pub next : IfSome old.to_come (λ all. (rest : List ℕ) × (all ≡ bytes ++ rest) × (new.to_come ≡ Some rest))
  pub taken : IfSome old.taken (λ k. new.taken ≡ Some (counted k (length bytes)))
  pub kind : SameKind old new
  pub closed : new.closed ≡ old.closed
  pub writes : new.write_faults ≡ old.write_faults

-- these bytes are all that was to come, and it ended so, where that is told
abbrev pub EndsBehind : Seen → List ℕ → Ending → Type 0
EndsBehind seen bytes ending = IfSome seen.to_come (λ all. all ≡ bytes) × IfSome seen.ending (λ end. end ≡ ending)

-- Why there is no header behind these bytes, and the piece that was read: no header begins so, the stream ended, or a read failed.
pub data Refuses (before : List ℕ) (old new : Seen) (piece : List ℕ) : Type 0 where
  never_begins : NoHeader (before ++ piece) → new.read_faults ≡ old.read_faults → Refuses before old new piece
  has_ended : EndsBehind old piece Closed → new.read_faults ≡ old.read_faults → Refuses before old new piece
  has_failed : (old.plain ≡ true → EndsBehind old piece Broke) → new.read_faults ≡ fault_after old.read_faults → Refuses before old new piece

-- what one read does behind these bytes, by what is told
abbrev pub ReadsOn : (before : List ℕ) → (old new : Seen) → (reader : Read) → ProxyState → Type 0
ReadsOn before old new reader More = (piece : List ℕ) × TakenFrom old new piece × (new.read_faults ≡ old.read_faults) × HasRead reader (before ++ piece)
ReadsOn before old new reader (Got pair) = (piece : List ℕ) × TakenFrom old new piece × (new.read_faults ≡ old.read_faults) × IsHeader (before ++ piece) pair
ReadsOn before old new reader Bad = (piece : List ℕ) × TakenFrom old new piece × Refuses before old new piece × NoneYet (before ++ piece)

-- What a greeting does: exactly a header is taken from the link, with this pair; or bytes in which no header ends, and there is a reason.
abbrev pub Greets : (old new : Seen) → Greeting → Type 0
Greets old new (greetings.Got pair) = (header : List ℕ) × TakenFrom old new header × (new.read_faults ≡ old.read_faults) × IsHeader header pair
Greets old new greetings.Bad = (bytes : List ℕ) × TakenFrom old new bytes × Refuses [] old new bytes × NoneYet bytes

-- So far these many bytes were taken from a link that was first seen so: they may become a header, no read failed, and they were read.
abbrev pub GreetsSoFar : Read → (first now : Seen) → Type 0
GreetsSoFar greeter first now = (bytes : List ℕ) × TakenFrom first now bytes × (now.read_faults ≡ first.read_faults) × HasRead greeter bytes

-- what one read more comes to: the header goes on, or the greeting is told
abbrev pub WentOn : Read → (first now : Seen) → Option Greeting → Type 0
WentOn greeter first now None = GreetsSoFar greeter first now
WentOn greeter first now (Some greeting) = Greets first now greeting
