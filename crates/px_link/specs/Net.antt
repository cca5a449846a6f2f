-- What contracts see of a net, and what its calls do.
use Rattle.std.specs.Prelude.{◌≡◌, ℕ, ◌+◌, ◌<◌, ◌≤◌, ◌^◌, Bool, true, not, ◌&&◌, ◌==◌, ◌⊎◌, List, [], ◌∷◌, ◌++◌, Option, Some, None, Result, Ok, Err, if◌then◌else◌, ⊤}
use Rattle.std.specs.List.{list_any}
use Rattle.std.specs.Str.{bytes_eq}
use Rattle.http_model.specs.declared.Ending.{Ending}
use Rattle.http_model.specs.declared.Close.{Close}
use Rattle.px_link.specs.declared.fault.Fault.{Fault}
use Rattle.px_link.specs.declared.fault.Fault.TheVariants as faults
use Rattle.px_link.specs.declared.address.Address.{Address}
use Rattle.px_link.specs.Told.{Rose}
use Rattle.px_link.specs.Link.{Seen, Takes, Manner, AsItIs, PassesOn, takes_in}

-- a link that is still to come: its stream, whether it is plain, and how many bytes it takes
pub record Coming : Type 0 where
  pub bytes : List ℕ
  pub ending : Ending
  pub plain : Bool
  pub takes : Takes

-- the link with this stream that passes on what is written to it in this manner, of which no byte was taken and no call failed
abbrev pub new_link : Manner → Coming → Seen
new_link manner coming = record {
  to_come = Some coming.bytes;
  ending = Some coming.ending;
  closed = Some None;
  plain = coming.plain;
  takes = takes_in manner coming.takes;
  manner = manner;
  taken = Some 0;
  read_faults = 0;
  write_faults = 0;
}

-- a link that was kept: the bytes that it passed on, how many it gave, whether and how it was closed, how many reads, and how many writes, have failed
pub record Kept : Type 0 where
  pub wrote : List ℕ
  pub taken : Option ℕ
  pub closed : Option (Option Close)
  pub read_faults : ℕ
  pub write_faults : ℕ

-- this link, as one that was kept, which passed on these bytes
abbrev pub kept_link : Seen → (wrote : List ℕ) → Kept
kept_link link wrote = record {
  wrote = wrote;
  taken = link.taken;
  closed = link.closed;
  read_faults = link.read_faults;
  write_faults = link.write_faults;
}

-- a write of it has failed
abbrev pub has_failed : Seen → Bool
has_failed link = not (link.write_faults == 0)

-- an address: its host and its port
abbrev pub Place : Type 0
Place = List ℕ × ℕ

-- the links still to be accepted, the answers of the coming connects (a link, or refused) and the links that were kept,
-- each where it is told; in which manner links pass on what is written to them that are connected next, accepted ones do it as it is; whether connects
-- fail at a refused answer alone; how many links are lent; the addresses of all binds, and the different ones of all connects; how many binds and
-- accepts, and how many connects, have failed
pub record NetSeen : Type 0 where
  pub accepts : Option (List Coming)
  pub answers : Option (List (Option Coming))
  pub kept : Option (List Kept)
  pub manner : Manner
  pub plain : Bool
  pub lent : ℕ
  pub bound : List Place
  pub dialled : List Place
  pub bind_faults : ℕ
  pub connect_faults : ℕ

-- an address as contracts see it
abbrev pub address_of : Address → Place
address_of address = (address.host, address.port)

-- both are the same address
abbrev pub same_address : Place → Place → Bool
same_address a b = bytes_eq a.0 b.0 && (a.1 == b.1)

-- an address is among these
abbrev pub is_among : Place → List Place → Bool
is_among one all = list_any (λ other. same_address other one) all

-- an address is added, where it isn't among them
abbrev pub with_address : List Place → Place → List Place
with_address all one = if is_among one all then all else all ++ one ∷ []

-- where links are told there is a first one, this is it, and it is taken away
abbrev pub IsNext : Option (List Coming) → Option (List Coming) → (Coming → Type 0) → Type 0
IsNext None new P = new ≡ None
IsNext (Some []) new P = ⊥
IsNext (Some (coming ∷ later)) new P = (new ≡ Some later) × P coming

-- where answers are told the first is a link, this is it, and it is taken away
abbrev pub IsFirst : Option (List (Option Coming)) → Option (List (Option Coming)) → (Coming → Type 0) → Type 0
IsFirst None new P = new ≡ None
IsFirst (Some []) new P = ⊥
IsFirst (Some (None ∷ later)) new P = ⊥
IsFirst (Some (Some coming ∷ later)) new P = (new ≡ Some later) × P coming

-- a told list stays, or loses a first answer that is refused
abbrev pub LosesRefused : Option (List (Option Coming)) → Option (List (Option Coming)) → Type 0
LosesRefused (Some (None ∷ later)) new = (new ≡ Some later) ⊎ (new ≡ Some (None ∷ later))
LosesRefused old new = new ≡ old

-- the next answer, where it is told, is refused, or there is none
abbrev pub RefusesOnly : Option (List (Option Coming)) → Type 0
RefusesOnly None = ⊤
RefusesOnly (Some []) = ⊤
RefusesOnly (Some (None ∷ later)) = ⊤
RefusesOnly (Some (Some coming ∷ later)) = ⊥

-- a link that was handed out is the one of this stream and in this manner, and nothing was done with it yet
abbrev pub IsNew : Manner → Seen → Type 0 → Coming → Type 0
IsNew manner link unwritten coming = (link ≡ new_link manner coming) × unwritten

-- what a bind leaves, but for the addresses of binds and its count
pub record SameBeside (old new : NetSeen) : Type 0 where
  pub accepts : new.accepts ≡ old.accepts
  pub answers : new.answers ≡ old.answers
  pub kept : new.kept ≡ old.kept
  pub manner : new.manner ≡ old.manner
  pub plain : new.plain ≡ old.plain
  pub lent : new.lent ≡ old.lent
  pub dialled : new.dialled ≡ old.dialled
  pub connects : new.connect_faults ≡ old.connect_faults

-- a bind was done
pub record Bound (old new : NetSeen) (at : Place) : Type 0 where
  pub bound : new.bound ≡ old.bound ++ at ∷ []
  pub binds : new.bind_faults ≡ old.bind_faults
  pub beside : SameBeside old new

-- a bind failed, and its count rose
pub record BindFailed (old new : NetSeen) (at : Place) : Type 0 where
  pub bound : new.bound ≡ old.bound ++ at ∷ []
  pub rose : Rose old.bind_faults new.bind_faults
  pub never_falls : old.bind_faults ≤ new.bind_faults
  pub beside : SameBeside old new

-- a bind wanted memory
pub record BindUnroomed (old new : NetSeen) (at : Place) : Type 0 where
  pub bound : (new.bound ≡ old.bound) ⊎ (new.bound ≡ old.bound ++ at ∷ [])
  pub binds : new.bind_faults ≡ old.bind_faults
  pub beside : SameBeside old new

-- what a bind does, by its answer
abbrev pub Binds : NetSeen → NetSeen → Place → Result (Unit {0}) Fault → Type 0
Binds old new at (Ok done) = Bound old new at
Binds old new at (Err faults.Failed) = BindFailed old new at
Binds old new at (Err faults.OutOfMemory) = BindUnroomed old new at

-- what an accept leaves whatever it answers
pub record SameBehind (old new : NetSeen) : Type 0 where
  pub answers : new.answers ≡ old.answers
  pub kept : new.kept ≡ old.kept
  pub manner : new.manner ≡ old.manner
  pub plain : new.plain ≡ old.plain
  pub bound : new.bound ≡ old.bound
  pub dialled : new.dialled ≡ old.dialled
  pub connects : new.connect_faults ≡ old.connect_faults

-- A link was accepted: the first of those that are to come.
pub record Accepted (old new : NetSeen) (link : Seen) (unwritten : Type 0) : Type 0 where
  pub first : IsNext old.accepts new.accepts (IsNew AsItIs link unwritten)
  pub as_it_is : link.manner ≡ AsItIs
  pub lent : new.lent ≡ old.lent + 1
  pub below : new.lent < 2 ^ 64
  pub binds : new.bind_faults ≡ old.bind_faults
  pub behind : SameBehind old new

-- An accept failed: its count rose, and no link was taken away.
pub record AcceptFailed (old new : NetSeen) : Type 0 where
  pub accepts : new.accepts ≡ old.accepts
  pub lent : new.lent ≡ old.lent
  pub rose : Rose old.bind_faults new.bind_faults
  pub never_falls : old.bind_faults ≤ new.bind_faults
  pub behind : SameBehind old new

-- An accept wanted memory.
pub record AcceptUnroomed (old new : NetSeen) : Type 0 where
  pub accepts : new.accepts ≡ old.accepts
  pub lent : new.lent ≡ old.lent
  pub binds : new.bind_faults ≡ old.bind_faults
  pub behind : SameBehind old new

-- what an accept does, by its answer
abbrev pub Accepts : {L : Type 0} → (seen : L → Seen) → (wrote : L → List ℕ → Type 0) → NetSeen → NetSeen → Result L Fault → Type 0
Accepts seen wrote old new (Ok link) = Accepted old new (seen link) (wrote link [])
Accepts seen wrote old new (Err faults.Failed) = AcceptFailed old new
Accepts seen wrote old new (Err faults.OutOfMemory) = AcceptUnroomed old new

-- A connect was answered by a link: the first answer, and the address counts as dialled.
pub record Connected (old new : NetSeen) (to : Place) (link : Seen) (unwritten : Type 0) : Type 0 where
  pub first : IsFirst old.answers new.answers (IsNew old.manner link unwritten)
  pub passes_on : link.manner ≡ old.manner
  pub accepts : new.accepts ≡ old.accepts
  pub kept : new.kept ≡ old.kept
  pub manner : new.manner ≡ old.manner
  pub plain : new.plain ≡ old.plain
  pub lent : new.lent ≡ old.lent + 1
  pub below : new.lent < 2 ^ 64
  pub bound : new.bound ≡ old.bound
  pub dialled : new.dialled ≡ with_address old.dialled to
  pub binds : new.bind_faults ≡ old.bind_faults
  pub connects : new.connect_faults ≡ old.connect_faults

-- A connect failed: its count rose; a plain net with numbers left had no link to give; at most a refused answer is taken away.
pub record Refused (old new : NetSeen) (to : Place) : Type 0 where
  pub answers : LosesRefused old.answers new.answers
  pub fails : old.plain ≡ true → old.lent + 1 < 2 ^ 64 → RefusesOnly old.answers
  pub accepts : new.accepts ≡ old.accepts
  pub kept : new.kept ≡ old.kept
  pub manner : new.manner ≡ old.manner
  pub plain : new.plain ≡ old.plain
  pub lent : new.lent ≡ old.lent
  pub bound : new.bound ≡ old.bound
  pub dialled : new.dialled ≡ with_address old.dialled to
  pub rose : Rose old.connect_faults new.connect_faults
  pub never_falls : old.connect_faults ≤ new.connect_faults
  pub binds : new.bind_faults ≡ old.bind_faults

-- A connect wanted memory: no answer is taken away.
pub record NoMemory (old new : NetSeen) (to : Place) : Type 0 where
  pub answers : new.answers ≡ old.answers
  pub accepts : new.accepts ≡ old.accepts
  pub kept : new.kept ≡ old.kept
  pub manner : new.manner ≡ old.manner
  pub plain : new.plain ≡ old.plain
  pub lent : new.lent ≡ old.lent
  pub bound : new.bound ≡ old.bound
  pub dialled : (new.dialled ≡ old.dialled) ⊎ (new.dialled ≡ with_address old.dialled to)
  pub binds : new.bind_faults ≡ old.bind_faults
  pub connects : new.connect_faults ≡ old.connect_faults

-- what a connect does, by its answer
abbrev pub Connects : {L : Type 0} → (seen : L → Seen) → (wrote : L → List ℕ → Type 0) → NetSeen → NetSeen → Place → Result L Fault → Type 0
Connects seen wrote old new to (Ok link) = Connected old new to (seen link) (wrote link [])
Connects seen wrote old new to (Err faults.Failed) = Refused old new to
Connects seen wrote old new to (Err faults.OutOfMemory) = NoMemory old new to

-- a link is kept behind the others, where these are told, by the bytes that were passed on of whatever counts as written to it
abbrev pub KeepsMore : Option (List Kept) → Option (List Kept) → (wrote : List ℕ → Type 0) → (link : Seen) → Type 0
KeepsMore None new wrote link = new ≡ None
KeepsMore (Some kept) new wrote link =
    (bytes : List ℕ) × (new ≡ Some (kept ++ kept_link link bytes ∷ [])) × ((text : List ℕ) → wrote text → PassesOn link.manner (has_failed link) bytes text)

-- a link was taken back
pub record Keeps (wrote : List ℕ → Type 0) (old new : NetSeen) (link : Seen) : Type 0 where
  pub kept : KeepsMore old.kept new.kept wrote link
  pub lent : new.lent + 1 ≡ old.lent
  pub accepts : new.accepts ≡ old.accepts
  pub answers : new.answers ≡ old.answers
  pub manner : new.manner ≡ old.manner
  pub plain : new.plain ≡ old.plain
  pub bound : new.bound ≡ old.bound
  pub dialled : new.dialled ≡ old.dialled
  pub binds : new.bind_faults ≡ old.bind_faults
  pub connects : new.connect_faults ≡ old.connect_faults
