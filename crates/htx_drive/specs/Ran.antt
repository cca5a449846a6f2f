-- What a driven session comes to.
use Rattle.std.specs.Prelude.{◌≡◌, ℕ, ◌≤◌, List, Bool, false}
use Rattle.http_model.specs.declared.Close.TheVariants.{Failed}
use Rattle.session_model.specs.Meaning.{Meaning}
use Rattle.session_model.specs.Session.{close_of}
use Rattle.session_core.specs.History.{Past}
use Rattle.session_core.specs.Consequences.{IsFinal, out_of_past}
use Rattle.px_link.specs.Link.{Seen, closed_by}
use Rattle.px_link.specs.Net.{Place, NetSeen}
use Rattle.htx_drive.specs.Machine.{TookFront}
use Rattle.htx_drive.specs.Came.{Came, Put}
use Rattle.std.specs.List.{AllByRecursion}
use Rattle.htx_drive.specs.Driven.{IsOver, moved, failed_by}
use Rattle.htx_drive.specs.Dialled.{Dials}
use Rattle.htx_drive.specs.Turned.{LedInAtLeast}
use Rattle.htx_drive.specs.declared.Ran.{Ran}
use Rattle.htx_drive.specs.declared.SessionFault.{SessionFault}
use Rattle.htx_drive.specs.declared.SessionFault.TheVariants as faults

-- The session is over. The core stands for a past that is tied to the client's link and to the net, and the past is a
-- session's: with this end, count and bit, with the bytes that were written to each link, and with the closes: each connect is over.
pub record RanSo {L : Type 0} (M : Meaning) (stands : Past → Type 0) (seen : L → Seen) (wrote : L → List ℕ → Type 0) (first client : L) (to : Place) (first_net net : NetSeen) (ran : Ran) : Type 0 where
  pub past : Past
  pub stand : stands past
  pub session : IsFinal M past (out_of_past past past.taken ran.exchanges ran.end)
  pub bit : ran.begun_cut ≡ past.note
  pub came : Came (seen first) (seen client) past.client
  pub put : Put (wrote first) (wrote client) (seen first) (seen client) past.taken false
  pub closed : (seen client).closed ≡ closed_by (seen first).closed (close_of ran.end)
  pub over : AllByRecursion IsOver past.connects
  pub dials : Dials to first_net net past.connects

-- The session was given up. What was written is a front, a core that isn't lost stands for the past, and each link that was
-- still open is closed Failed; a write to the client failed exactly where the fault says so; where it says that the budget is
-- spent, so much was moved, by as many turns.
pub record GaveUp {C L : Type 0} (M : Meaning) (stands : C → Past → Type 0) (core : C) (lost : Bool) (seen : L → Seen) (wrote : L → List ℕ → Type 0) (first client : L) (to : Place) (first_net net : NetSeen) (budget : ℕ) (fault : SessionFault) : Type 0 where
  pub past : Past
  pub front : TookFront M past
  pub stand : lost ≡ false → stands core past
  pub came : Came (seen first) (seen client) past.client
  pub put : Put (wrote first) (wrote client) (seen first) (seen client) past.taken (failed_by fault)
  pub closed : (seen client).closed ≡ closed_by (seen first).closed Failed
  pub dials : Dials to first_net net past.connects
  pub spent : fault ≡ faults.Spent → budget ≤ moved past
  pub spent_in_turns : fault ≡ faults.Spent → LedInAtLeast budget past
