-- The connects of a call, as the net told them.
use Rattle.std.specs.Prelude.{◌≡◌, ℕ, ◌+◌, ◌<◌, ◌≤◌, ◌^◌, ◌⊎◌, List, [], ◌∷◌, ◌++◌, length, map, Bool, true, false, Option, Some, None}
use Rattle.std.specs.List.{flat_map, list_all, AllByRecursion}
use Rattle.http_model.specs.declared.Close.{Close}
use Rattle.http_model.specs.declared.Close.TheVariants.{Failed}
use Rattle.session_core.specs.History.{Past, Connect, connected}
use Rattle.px_link.specs.Link.{Seen, Manner, PassesOn, WithinTakes, MayRefuse}
use Rattle.px_link.specs.Told.{Rose}
use Rattle.px_link.specs.Net.{Place, Coming, NetSeen, Kept, kept_link, has_failed, new_link, with_address, LosesRefused, RefusesOnly}
use Rattle.htx_drive.specs.Came.{Came, FailsSo}
use Rattle.htx_drive.specs.Driven.{Idle, moved}

-- a connect, the answers that were to come when it was made and behind it, and its link as it was kept
pub record Dial : Type 0 where
  pub connect : Connect
  pub answers : List (Option Coming)
  pub left : List (Option Coming)
  pub kept : List Kept

-- a link that was never closed by the history was closed behind a fault
abbrev pub closed_how : Option Close → Close
closed_how None = Failed
closed_how (Some how) = how

-- the link as it was kept: what came from it is that of the connect, and it passed on what was written to it, which is that of the connect; it
-- stopped where a write failed, which it did only where it had all that it takes
pub record KeptSo (first : Seen) (c : Connect) (k : Kept) : Type 0 where
  pub last : Seen
  pub is : k ≡ kept_link last k.wrote
  pub came : Came first last c.stream
  pub wrote : PassesOn first.manner (has_failed last) k.wrote c.taken
  pub limit : WithinTakes first.takes (length c.taken)
  pub full : c.stopped ≡ true → MayRefuse first.takes (length c.taken)
  pub fails : FailsSo first last c.stopped
  pub closed : last.closed ≡ Some (Some (closed_how c.closed))

-- the connect gave the first of the answers, as a link that passes on so what is written to it
pub record IsServed (manner : Manner) (d : Dial) : Type 0 where
  pub coming : Coming
  pub link : Kept
  pub first : d.answers ≡ Some coming ∷ d.left
  pub keeps : d.kept ≡ link ∷ []
  pub so : KeptSo (new_link manner coming) d.connect link

-- the connect was refused
pub record IsRefused (plain : Type 0) (d : Dial) : Type 0 where
  pub loses : LosesRefused (Some d.answers) (Some d.left)
  pub only : plain → RefusesOnly (Some d.answers)
  pub so : d.connect ≡ connected false
  pub keeps : d.kept ≡ []

abbrev pub IsDialBy : (there : Bool) → Manner → (plain : Type 0) → Dial → Type 0
IsDialBy true manner plain d = IsServed manner d
IsDialBy false manner plain d = IsRefused plain d

abbrev pub IsDial : Manner → (plain : Type 0) → Dial → Type 0
IsDial manner plain d = IsDialBy d.connect.there manner plain d

-- each takes its answer of what the one before has left
abbrev pub Chain : List (Option Coming) → List Dial → List (Option Coming) → Type 0
Chain answers [] left = answers ≡ left
Chain answers (d ∷ ds) left = (d.answers ≡ answers) × Chain d.left ds left

-- the net is plain and may lend a link more
abbrev pub IsPlain : NetSeen → Type 0
IsPlain net = (net.plain ≡ true) × (net.lent + 1 < 2 ^ 64)

pub record Told (first now : NetSeen) (coming : List (Option Coming)) (ks : List Kept) (cs : List Connect) : Type 0 where
  pub dials : List Dial
  pub left : List (Option Coming)
  pub connects : map (λ d. d.connect) dials ≡ cs
  pub chain : Chain coming dials left
  pub answers : now.answers ≡ Some left
  pub kept : now.kept ≡ Some (ks ++ flat_map (λ d. d.kept) dials)
  pub each : AllByRecursion (IsDial first.manner (IsPlain first)) dials

abbrev pub Dialled : (first now : List Place) → Place → Type 0
Dialled first now to = (now ≡ first) ⊎ (now ≡ with_address first to)

-- nothing but connects and their links changed
pub record SameComing (first now : NetSeen) : Type 0 where
  pub accepts : now.accepts ≡ first.accepts
  pub bound : now.bound ≡ first.bound
  pub binds : now.bind_faults ≡ first.bind_faults

-- each connect found a server
abbrev pub all_there : List Connect → Bool
all_there cs = list_all (λ (c : Connect). c.there) cs

-- the count of connects that failed rose where one of these was refused, and else it is as it was
pub record CountsRefused (cs : List Connect) (before now : ℕ) : Type 0 where
  pub never_falls : before ≤ now
  pub found : all_there cs ≡ true → now ≡ before
  pub refused : all_there cs ≡ false → Rose before now

-- since the net was first seen these connects were made, all to one address
pub record Dials (to : Place) (first now : NetSeen) (cs : List Connect) : Type 0 where
  pub lent : now.lent ≡ first.lent
  pub manner : now.manner ≡ first.manner
  pub plain : now.plain ≡ first.plain
  pub coming : SameComing first now
  pub dialled : Dialled first.dialled now.dialled to
  pub refused : CountsRefused cs first.connect_faults now.connect_faults
  pub told : (answers : List (Option Coming)) (ks : List Kept) → first.answers ≡ Some answers → first.kept ≡ Some ks → Told first now answers ks cs

-- a link that was lent is kept, with the last connect of a past
pub record Returned {L : Type 0} (seen : L → Seen) (wrote : L → List ℕ → Type 0) (link : L) (old now : NetSeen) (c : Connect) : Type 0 where
  pub kept : (ks : List Kept) → wrote link [] → (seen link).closed ≡ Some None → old.kept ≡ Some ks → (k : Kept) × (now.kept ≡ Some (ks ++ k ∷ [])) × KeptSo (seen link) c k
  pub lent : now.lent + 1 ≡ old.lent
  pub answers : now.answers ≡ old.answers
  pub manner : now.manner ≡ old.manner
  pub plain : now.plain ≡ old.plain
  pub coming : SameComing old now
  pub dialled : now.dialled ≡ old.dialled
  pub connects : now.connect_faults ≡ old.connect_faults

-- one more connect was made, and is over
pub record Served {L : Type 0} (S : Past → Type 0) (seen : L → Seen) (wrote : L → List ℕ → Type 0) (first client : L) (failed : Bool) (link : L) (old now : NetSeen) (past : Past) (had has : ℕ) : Type 0 where
  pub behind : Past
  pub c : Connect
  pub idle : Idle S seen wrote first client failed behind
  pub connects : behind.connects ≡ past.connects ++ c ∷ []
  pub there : c.there ≡ true
  pub returned : Returned seen wrote link old now c
  pub more : moved past + had ≤ moved behind + has

-- between exchanges: client and net are tied to the past; of a budget that had so much so much is left
pub record Goes {L : Type 0} (S : Past → Type 0) (seen : L → Seen) (wrote : L → List ℕ → Type 0) (first client : L) (failed : Bool) (to : Place) (first_net net : NetSeen) (past : Past) (had has : ℕ) : Type 0 where
  pub now : Past
  pub idle : Idle S seen wrote first client failed now
  pub dials : Dials to first_net net now.connects
  pub more : moved past + had ≤ moved now + has
