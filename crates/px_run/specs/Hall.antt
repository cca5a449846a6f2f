-- All connections of a loop: what each of their places says, and what all of them say together.
use Rattle.std.specs.Prelude.{◌≡◌, ℕ, ◌+◌, List, ◌++◌, map, length, Option, Some, None, slice_get, Bool, true, ⊤, ◌⊎◌, is_some}
use Rattle.std.specs.List.{AllByRecursion, sum_by}
use Rattle.session_model.specs.Meaning.{Meaning}
use Rattle.session_core.specs.History.{Past}
use Rattle.px_link.specs.Link.{Seen}
use Rattle.px_peer.specs.declared.Peer.{Peer}
use Rattle.px_peer.specs.declared.Pair.{Pair}
use Rattle.px_proxyproto.specs.Meeting.{source_in}
use Rattle.px_link.specs.Net.{Place, NetSeen, Keeps}
use Rattle.htx_drive.specs.Machine.{CoreSeen}
use Rattle.htx_drive.specs.Weave.State.{IsReady}
use Rattle.px_run.specs.Course.{IsSame, IsSameServer}
use Rattle.px_run.specs.Connection.{◌∘◌, IsFreshFor, LookedSo, IsIdle}
use Rattle.px_run.specs.Callers.{IsAtFor, CameBack}
use Rattle.px_run.specs.Lines.{Said, said_of, lines_of, ended_in, ended_by, AllTold, Writes}
use Rattle.px_run.specs.History.{Visit, numbered, change_numbered, came_to, links_back, outcomes_of, count_open, IsVisit, IsLogged, EndsByItself, KeepsEach, Story}
use Rattle.px_run.specs.declared.connection.Connection.{Connection}
use Rattle.px_run.specs.declared.connection.Looked.{Looked}
use Rattle.px_run.specs.declared.connection.Looked.TheVariants as looks
use Rattle.px_run.specs.declared.hall.Hall.{Hall}
use Rattle.px_run.specs.declared.plan.Opening.{Opening}

-- ---- one place

-- The connection is the one of its number: from the link that was accepted and the net that was made for that, it stands here, by who asks.
pub record IsOf {C L N : Type 0} (M : Option Pair → Meaning) (stands : Option Pair → C → Past → Type 0) (sees : C → CoreSeen) (sound rested : C → Type 0) (seen : L → Seen) (wrote : L → List ℕ → Type 0) (tells : L → Option Pair → Type 0) (accepts_header : Bool) (opening : Opening) (sees_net : N → NetSeen) (to : Place) (visits : List (Visit L N)) (c : Connection C L N) : Type 0 where
  pub visit : Visit L N
  pub is : numbered c.number visits ≡ Some visit
  pub here : visit.back ≡ None
  pub came : visit.came ≡ c.conn.ran
  pub at : IsAtFor M stands sees sound rested seen wrote tells accepts_header opening sees_net visit.first c.caller c.conn.client c.conn.server to (sees_net visit.own) (sees_net c.conn.net) c.conn.ran c.core

abbrev pub IsPlaced : {C L N : Type 0} → (M : Option Pair → Meaning) → (stands : Option Pair → C → Past → Type 0) → (sees : C → CoreSeen) → (sound rested : C → Type 0) → (seen : L → Seen) → (wrote : L → List ℕ → Type 0) → (tells : L → Option Pair → Type 0) → (accepts_header : Bool) → (opening : Opening) → (sees_net : N → NetSeen) → Place → List (Visit L N) → Option (Connection C L N) → Type 0
IsPlaced M stands sees sound rested seen wrote tells accepts_header opening sees_net to visits None = ⊤
IsPlaced M stands sees sound rested seen wrote tells accepts_header opening sees_net to visits (Some c) = IsOf M stands sees sound rested seen wrote tells accepts_header opening sees_net to visits c

-- the connection at a place came to what it says
abbrev pub advanced : {C L N : Type 0} → Option (Connection C L N) → List (Visit L N) → List (Visit L N)
advanced None visits = visits
advanced (Some c) visits = change_numbered (came_to c.conn.ran) c.number visits

-- its links were asked, and nothing else was done with it
pub record IsAsked {C L N : Type 0} (seen : L → Seen) (wrote : L → List ℕ → Type 0) (sees_net : N → NetSeen) (old new : Connection C L N) : Type 0 where
  pub number : new.number ≡ old.number
  pub caller : new.caller ≡ old.caller
  pub client : IsSame seen wrote old.conn.client new.conn.client
  pub server : IsSameServer seen wrote old.conn.server new.conn.server
  pub net : sees_net new.conn.net ≡ sees_net old.conn.net
  pub ran : new.conn.ran ≡ old.conn.ran
  pub core : new.core ≡ old.core

abbrev pub IsAskedAt : {C L N : Type 0} → (seen : L → Seen) → (wrote : L → List ℕ → Type 0) → (sees_net : N → NetSeen) → (old new : Option (Connection C L N)) → Type 0
IsAskedAt seen wrote sees_net None None = ⊤
IsAskedAt seen wrote sees_net None (Some new) = ⊥
IsAskedAt seen wrote sees_net (Some old) None = ⊥
IsAskedAt seen wrote sees_net (Some old) (Some new) = IsAsked seen wrote sees_net old new

-- what a look at a place says of the connection there; without one it says nothing
abbrev pub LookedAt : {C L N : Type 0} → Looked → (old new : Option (Connection C L N)) → Type 0
LookedAt looked None None = IsIdle looked
LookedAt looked None (Some new) = ⊥
LookedAt looked (Some old) None = ⊥
LookedAt looked (Some old) (Some new) = (new.number ≡ old.number) × LookedSo looked old.number old.conn.ran new.conn.ran

-- a connection is here that has ended
abbrev pub HasEnded : {C L N : Type 0} → Option (Connection C L N) → Type 0
HasEnded None = ⊥
HasEnded (Some c) = is_some c.conn.ran ≡ true

-- a connection that has ended left its place, and its client's link was given back
pub record GaveBack {C L N : Type 0} (seen : L → Seen) (wrote : L → List ℕ → Type 0) (old_net net : NetSeen) (old new : Option (Connection C L N)) : Type 0 where
  pub connection : Connection C L N
  pub was : old ≡ Some connection
  pub none : new ≡ None
  pub ended : is_some connection.conn.ran ≡ true
  pub keeps : Keeps (wrote connection.conn.client) old_net net (seen connection.conn.client)

-- or nothing was done
abbrev pub MayGiveBack : {C L N : Type 0} → (seen : L → Seen) → (wrote : L → List ℕ → Type 0) → (old_net net : NetSeen) → (old new : Option (Connection C L N)) → Type 0
MayGiveBack seen wrote old_net net old new = GaveBack seen wrote old_net net old new ⊎ ((new ≡ old) × (net ≡ old_net))

-- the connection of a place was given up with the loop, unless it has ended, and its client's link was given back
pub record GaveUp {C L N : Type 0} (M : Option Pair → Meaning) (stands : Option Pair → C → Past → Type 0) (sees : C → CoreSeen) (sound rested : C → Type 0) (seen : L → Seen) (wrote : L → List ℕ → Type 0) (tells : L → Option Pair → Type 0) (accepts_header : Bool) (opening : Opening) (sees_net : N → NetSeen) (to : Place) (old_net net : NetSeen) (c : Connection C L N) : Type 0 where
  pub client : L
  pub own : N
  pub came : (visits : List (Visit L N)) (of : IsOf M stands sees sound rested seen wrote tells accepts_header opening sees_net to visits c) → CameBack M stands sees seen wrote tells accepts_header opening of.visit.first client to (sees_net of.visit.own) (sees_net own) c.conn.ran
  pub keeps : Keeps (wrote client) old_net net (seen client)

abbrev pub GaveUpAt : {C L N : Type 0} → (M : Option Pair → Meaning) → (stands : Option Pair → C → Past → Type 0) → (sees : C → CoreSeen) → (sound rested : C → Type 0) → (seen : L → Seen) → (wrote : L → List ℕ → Type 0) → (tells : L → Option Pair → Type 0) → (accepts_header : Bool) → (opening : Opening) → (sees_net : N → NetSeen) → Place → (old_net net : NetSeen) → Option (Connection C L N) → Type 0
GaveUpAt M stands sees sound rested seen wrote tells accepts_header opening sees_net to old_net net None = net ≡ old_net
GaveUpAt M stands sees sound rested seen wrote tells accepts_header opening sees_net to old_net net (Some c) = GaveUp M stands sees sound rested seen wrote tells accepts_header opening sees_net to old_net net c

-- ---- all places

-- one where a connection is here
abbrev pub taken_at : {C L N : Type 0} → Option (Connection C L N) → ℕ
taken_at None = 0
taken_at (Some c) = 1

-- how many connections are open
abbrev pub count_taken : {C L N : Type 0} → List (Option (Connection C L N)) → ℕ
count_taken {C} {L} {N} places = sum_by (λ (at : Option (Connection C L N)). taken_at at) places

-- it stands at this place
abbrev pub IsHere : {A : Type 0} → (places : List (Option A)) → (place : ℕ) → A → Type 0
IsHere places place one = slice_get places place ≡ Some (Some one)

-- Each connection is the one of its number, no two places have the same, and all that weren't given back are here. Nothing has happened to the cores that are free.
pub record AllStand {C L N : Type 0} (M : Option Pair → Meaning) (stands : Option Pair → C → Past → Type 0) (sees : C → CoreSeen) (sound rested : C → Type 0) (seen : L → Seen) (wrote : L → List ℕ → Type 0) (tells : L → Option Pair → Type 0) (accepts_header : Bool) (opening : Opening) (sees_net : N → NetSeen) (to : Place) (visits : List (Visit L N)) (places : List (Option (Connection C L N))) (sets : List C) : Type 0 where
  pub placed : (place : ℕ) (c : Connection C L N) → IsHere places place c → IsOf M stands sees sound rested seen wrote tells accepts_header opening sees_net to visits c
  pub alone : (place other : ℕ) (c d : Connection C L N) → IsHere places place c → IsHere places other d → c.number ≡ d.number → place ≡ other
  pub each : AllByRecursion (IsVisit M stands sees seen wrote tells accepts_header opening sees_net to) visits
  pub counted : count_open visits ≡ count_taken places
  pub ready : AllByRecursion (IsReady sees sound) sets
  pub fresh : AllByRecursion (IsFreshFor stands) sets

-- links were asked, and nothing else was done
pub record AllAsked {C L N : Type 0} (seen : L → Seen) (wrote : L → List ℕ → Type 0) (sees_net : N → NetSeen) (old new : Hall C L N) : Type 0 where
  pub each : (place : ℕ) (c : Connection C L N) → IsHere new.places.items place c → (b : Connection C L N) × IsHere old.places.items place b × IsAsked seen wrote sees_net b c
  pub taken : count_taken new.places.items ≡ count_taken old.places.items
  pub sets : new.sets.items ≡ old.sets.items
  pub accepted : new.accepted ≡ old.accepted
  pub output : new.output ≡ old.output

-- The connection that was looked at came to what the look says, and nothing else of all is changed.
pub record Advances {L N : Type 0} (looked : Looked) (old new : List (Visit L N)) : Type 0 where
  pub firsts : map (λ (visit : Visit L N). visit.first) new ≡ map (λ (visit : Visit L N). visit.first) old
  pub returned : (number : ℕ) → links_back (numbered number new) ≡ links_back (numbered number old)
  pub said : (number : ℕ) → outcomes_of (numbered number new) ≡ outcomes_of (numbered number old) ++ said_of number (ended_by looked)
  pub fair : (looked ≡ looks.Lost → ⊥) → AllByRecursion EndsByItself old → AllByRecursion EndsByItself new
  pub kept : KeepsEach old new

-- ---- the loop

-- What the loop has done so far, and where all connections stand. `fair`: none was given up for want of memory, or with the loop. `whole`: no memory was wanted for a line.
pub record Goes {C L N : Type 0} (M : Option Pair → Meaning) (stands : Option Pair → C → Past → Type 0) (sees : C → CoreSeen) (sound rested : C → Type 0) (seen : L → Seen) (wrote : L → List ℕ → Type 0) (tells : L → Option Pair → Type 0) (accepts_header logs : Bool) (opening : Opening) (sees_net : N → NetSeen) (to : Place) (fair whole : Bool) (begun now : NetSeen) (writes writes_now : ℕ) (before after : Option (List ℕ)) (hall : Hall C L N) : Type 0 where
  pub visits : List (Visit L N)
  pub said : List Said
  pub all : AllStand M stands sees sound rested seen wrote tells accepts_header opening sees_net to visits hall.places.items hall.sets.items
  pub accepted : hall.accepted ≡ length visits
  pub story : Story seen wrote begun now visits (ended_in said)
  pub itself : fair ≡ true → AllByRecursion EndsByItself visits
  pub written : Writes whole hall.output writes writes_now before after (lines_of said)
  pub told_so : AllTold (IsLogged M stands sees seen wrote tells accepts_header logs opening sees_net to visits) said

-- what the loop has done so far under this configuration
abbrev pub GoesFor : {C L N S : Type 0} → (meaning : S → Meaning) → (stands : S → C → Past → Type 0) → (for_peer : S → Option Peer → S) → (cfg : S) → (sees : C → CoreSeen) → (sound rested : C → Type 0) → (seen : L → Seen) → (wrote : L → List ℕ → Type 0) → (tells : L → Option Pair → Type 0) → (accepts_header logs : Bool) → (opening : Opening) → (sees_net : N → NetSeen) → Place → (fair whole : Bool) → (begun now : NetSeen) → (writes writes_now : ℕ) → (before after : Option (List ℕ)) → Hall C L N → Type 0
GoesFor meaning stands for_peer cfg = Goes (meaning ∘ for_peer cfg ∘ source_in) (stands ∘ for_peer cfg ∘ source_in)

-- Whatever the loop had done, it has done behind this too. `whole`: no memory was wanted.
abbrev pub KeepsGoing : {C L N S K : Type 0} → (meaning : S → Meaning) → (stands : S → C → Past → Type 0) → (for_peer : S → Option Peer → S) → (sees : C → CoreSeen) → (sound rested : C → Type 0) → (seen : L → Seen) → (wrote : L → List ℕ → Type 0) → (tells : L → Option Pair → Type 0) → (accepts_header logs : Bool) → (opening : Opening) → (sees_net : N → NetSeen) → Place → (faults : K → ℕ) → (written : K → Option (List ℕ)) → (whole : Bool) → (old_net net : N) → (old_out out : K) → (old new : Hall C L N) → Type 0
KeepsGoing {C} {L} {N} {S} {K} meaning stands for_peer sees sound rested seen wrote tells accepts_header logs opening sees_net to faults written whole old_net net old_out out old new =
    (cfg : S) (begun : NetSeen) (writes : ℕ) (before : Option (List ℕ)) → GoesFor meaning stands for_peer cfg sees sound rested seen wrote tells accepts_header logs opening sees_net to true true begun (sees_net old_net) writes (faults old_out) before (written old_out) old
    → GoesFor meaning stands for_peer cfg sees sound rested seen wrote tells accepts_header logs opening sees_net to whole whole begun (sees_net net) writes (faults out) before (written out) new

-- the same where nothing is written, wherever the servers are
abbrev pub KeepsAll : {C L N S : Type 0} → (meaning : S → Meaning) → (stands : S → C → Past → Type 0) → (for_peer : S → Option Peer → S) → (sees : C → CoreSeen) → (sound rested : C → Type 0) → (seen : L → Seen) → (wrote : L → List ℕ → Type 0) → (tells : L → Option Pair → Type 0) → (accepts_header logs : Bool) → (opening : Opening) → (sees_net : N → NetSeen) → (old_net net : N) → (old new : Hall C L N) → Type 0
KeepsAll {C} {L} {N} {S} meaning stands for_peer sees sound rested seen wrote tells accepts_header logs opening sees_net old_net net old new =
    (cfg : S) (to : Place) (begun : NetSeen) (writes writes_now : ℕ) (before after : Option (List ℕ)) → GoesFor meaning stands for_peer cfg sees sound rested seen wrote tells accepts_header logs opening sees_net to true true begun (sees_net old_net) writes writes_now before after old
    → GoesFor meaning stands for_peer cfg sees sound rested seen wrote tells accepts_header logs opening sees_net to true true begun (sees_net net) writes writes_now before after new

-- what the loop leaves of a net: it binds and dials nothing more
pub record IsSameNet (old new : NetSeen) : Type 0 where
  pub bound : new.bound ≡ old.bound
  pub dialled : new.dialled ≡ old.dialled

-- each link that was accepted stands at a place, or was given back
abbrev pub IsBalanced : {C L N : Type 0} → (old_net net : NetSeen) → (old_places places : List (Option (Connection C L N))) → Type 0
IsBalanced old_net net old_places places = net.lent + count_taken old_places ≡ old_net.lent + count_taken places

-- the same of one place
abbrev pub IsBalancedAt : {C L N : Type 0} → (old_net net : NetSeen) → (old_at at : Option (Connection C L N)) → Type 0
IsBalancedAt old_net net old_at at = net.lent + taken_at old_at ≡ old_net.lent + taken_at at
