-- What `serve` does with a net, an output and the sessions of its caller.
use Rattle.std.specs.Prelude.{◌≡◌, ℕ, ◌<◌, ◌≤◌, ◌⊎◌, List, [], ◌∷◌, ◌++◌, length, Option, Result, Ok, Err}
use Rattle.htx_drive.specs.declared.Ran.{Ran}
use Rattle.htx_drive.specs.declared.SessionFault.{SessionFault}
use Rattle.htx_drive.specs.declared.SessionFault.TheVariants as session_faults
use Rattle.px_link.specs.declared.fault.Fault.TheVariants as faults
use Rattle.px_link.specs.Told.{Rose, Gains, GainsFront}
use Rattle.px_link.specs.Link.{Seen}
use Rattle.px_link.specs.Net.{Place, NetSeen, Accepted, AcceptFailed, AcceptUnroomed, Keeps, Binds}
use Rattle.serve_run.specs.declared.outcome.Outcome.{Outcome}
use Rattle.serve_run.specs.Lines.{answer_of, lines_from, net_line}
use Rattle.serve_run.specs.Visits.{Visits, Puts}

-- A link was accepted, a session ran over it with this answer, and then it was kept: behind the links of its servers, which the session
-- gave back. It passes on what is written to it as it did when it was accepted: as it is. Where the answer is that a write to the client failed, the link has
-- counted that.
pub record Connection {L N : Type 0} (seen : L → Seen) (wrote : L → List ℕ → Type 0) (net_seen : N → NetSeen) (does : L → L → N → N → Result Ran SessionFault → Type 0) (to : Place) (before after : N) (result : Result Ran SessionFault) : Type 0 where
  pub first : L
  pub client : L
  pub lent_net : N
  pub given_net : N
  pub accepted : Accepted (net_seen before) (net_seen lent_net) (seen first) (wrote first [])
  pub session : does first client lent_net given_net result
  pub visits : Visits to (net_seen lent_net) (net_seen given_net)
  pub puts : Puts (wrote first) (wrote client)
  pub manner : (seen client).manner ≡ (seen first).manner
  pub fault : result ≡ Err session_faults.ClientWrite → Rose (seen first).write_faults (seen client).write_faults
  pub kept : Keeps (wrote client) (net_seen given_net) (net_seen after) (seen client)

-- a connection that has an outcome
abbrev pub ServedOne : {L N : Type 0} (seen : L → Seen) (wrote : L → List ℕ → Type 0) (net_seen : N → NetSeen) (does : L → L → N → N → Result Ran SessionFault → Type 0) (to : Place) → N → N → Outcome → Type 0
ServedOne seen wrote net_seen does to before after outcome = Connection seen wrote net_seen does to before after (answer_of outcome)

-- a connection whose session was given up for want of memory
abbrev pub LostOne : {L N : Type 0} (seen : L → Seen) (wrote : L → List ℕ → Type 0) (net_seen : N → NetSeen) (does : L → L → N → N → Result Ran SessionFault → Type 0) (to : Place) → N → N → Type 0
LostOne seen wrote net_seen does to before after = Connection seen wrote net_seen does to before after (Err session_faults.OutOfMemory)

-- no link was accepted: an accept failed, or wanted memory
abbrev pub NotAccepted : NetSeen → NetSeen → Type 0
NotAccepted old new = AcceptFailed old new ⊎ AcceptUnroomed old new

-- where serving stops behind a connection: nothing more was done, or no further link was accepted, or the session of one wanted memory
abbrev pub StopsAt : {N : Type 0} (net_seen : N → NetSeen) (Lost : N → N → Type 0) (last now : N) → Type 0
StopsAt net_seen Lost last now = (now ≡ last) ⊎ (NotAccepted (net_seen last) (net_seen now) ⊎ Lost last now)

-- connections with these outcomes, one after another
abbrev pub Serves : {N : Type 0} (One : N → N → Outcome → Type 0) (before : N) → List Outcome → (after : N) → Type 0
Serves {N} One before [] after = before ≡ after
Serves {N} One before (outcome ∷ outcomes) after = (next : N) × One before next outcome × Serves One next outcomes after

-- the net was bound at this address, and then connections with these outcomes were served
abbrev pub Reached : {N : Type 0} (net_seen : N → NetSeen) (One : N → N → Outcome → Type 0) (at : Place) (first : N) → List Outcome → (now : N) → Type 0
Reached {N} net_seen One at first outcomes now = (bound : N) × Binds (net_seen first) (net_seen bound) at (Ok tt) × Serves One bound outcomes now

-- the net was bound, so many connections were served, and their lines were written
pub record ServedAll {N : Type 0} (net_seen : N → NetSeen) (One : N → N → Outcome → Type 0) (at : Place) (count : ℕ) (first now : N) (old new : Option (List ℕ)) : Type 0 where
  pub outcomes : List Outcome
  pub all : length outcomes ≡ count
  pub reached : Reached net_seen One at first outcomes now
  pub written : Gains old new (lines_from 1 outcomes)

-- the bind failed; or fewer connections than asked for were served, and then an accept failed
abbrev pub FailsAt : {N : Type 0} (net_seen : N → NetSeen) (One : N → N → Outcome → Type 0) (at : Place) (count : ℕ) (first now : N) → List Outcome → Type 0
FailsAt {N} net_seen One at count first now outcomes =
    (Binds (net_seen first) (net_seen now) at (Err faults.Failed) × (outcomes ≡ []))
    ⊎ ((length outcomes < count) × (last : N) × Reached net_seen One at first outcomes last × AcceptFailed (net_seen last) (net_seen now))

-- a bind or an accept failed; the lines of the connections before it were written, and then this
pub record NetFails {N : Type 0} (net_seen : N → NetSeen) (One : N → N → Outcome → Type 0) (at : Place) (count : ℕ) (tail : List ℕ) (first now : N) (old new : Option (List ℕ)) : Type 0 where
  pub outcomes : List Outcome
  pub fails : FailsAt net_seen One at count first now outcomes
  pub rose : Rose (net_seen first).bind_faults (net_seen now).bind_faults
  pub written : Gains old new (lines_from 1 outcomes ++ tail)

-- At most so many connections were served, and a prefix of their lines was written. Behind them serving stopped: so it is said of each link that was
-- accepted what was done with it.
pub record Front {N : Type 0} (net_seen : N → NetSeen) (One : N → N → Outcome → Type 0) (Lost : N → N → Type 0) (at : Place) (count : ℕ) (first now : N) (old new : Option (List ℕ)) : Type 0 where
  pub outcomes : List Outcome
  pub most : length outcomes ≤ count
  pub last : N
  pub reached : Reached net_seen One at first outcomes last
  pub stops : StopsAt net_seen Lost last now
  pub written : GainsFront old new (lines_from 1 outcomes)

-- a bind or an accept failed, and a front of the lines that are then written was written
pub record NetFront {N : Type 0} (net_seen : N → NetSeen) (One : N → N → Outcome → Type 0) (at : Place) (count : ℕ) (first now : N) (old new : Option (List ℕ)) : Type 0 where
  pub outcomes : List Outcome
  pub fails : FailsAt net_seen One at count first now outcomes
  pub rose : Rose (net_seen first).bind_faults (net_seen now).bind_faults
  pub written : GainsFront old new (lines_from 1 outcomes ++ net_line)

-- a front of what another answer writes was written; or not even the bind was answered
abbrev pub Breaks : {N : Type 0} (net_seen : N → NetSeen) (One : N → N → Outcome → Type 0) (Lost : N → N → Type 0) (at : Place) (count : ℕ) (first now : N) (old new : Option (List ℕ)) → Type 0
Breaks net_seen One Lost at count first now old new =
    Front net_seen One Lost at count first now old new
    ⊎ (NetFront net_seen One at count first now old new
    ⊎ (Binds (net_seen first) (net_seen now) at (Err faults.OutOfMemory) × (new ≡ old)))
