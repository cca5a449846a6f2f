-- How a connection stands behind each of its acts.
use Rattle.std.proofs.Common.{◌≡◌, ℕ, List, Bool, false, Option, Some, None, sym, subst}
use Rattle.session_core.specs.History.{Past, Work, after}
use Rattle.px_link.specs.Link.{Seen}
use Rattle.px_link.specs.Net.{Place, NetSeen}
use Rattle.htx_drive.specs.Driven.{failed_by}
use Rattle.htx_drive.specs.declared.SessionFault.{SessionFault}
use Rattle.htx_drive.specs.Underway.{Runs, Stopped}
use Rattle.htx_drive.specs.Weave.Woven.{Back}
use Rattle.htx_drive.proofs.Steps.{idles_works, idles_stop, opens_works, opens_fault, hand_same}

module _ {L : Type 0} (S T : Past → Type 0) (seen : L → Seen) (wrote : L → List ℕ → Type 0) (first client : L) (to : Place) (first_net : NetSeen) (count : ℕ) where
  -- its core has worked
  pub runs_works : (server : Option L) (net : NetSeen) (note : Option Bool) → ((p : Past) → S p → T (after p (Work note))) → Runs S seen wrote first client server to first_net net count → Runs T seen wrote first client server to first_net net count
  runs_works None net note w r = idles_works S T seen wrote first client to first_net net count note w r
  runs_works (Some link) net note w r = opens_works S T seen wrote first client link to first_net net count note w r

  -- it can't go on, and the link of its server was closed Failed and kept
  pub stops_with : (server : Option L) (old new : NetSeen) → Back seen wrote old new server → ((p : Past) → S p → T p) → Runs S seen wrote first client server to first_net old count → Stopped T seen wrote first client false to first_net new count
  stops_with None old new b w r =
      let P : NetSeen → Type 0 = λ n. Stopped T seen wrote first client false to first_net n count in
      subst P (sym b) (idles_stop S T seen wrote first client to first_net old count w r)
  stops_with (Some link) old new b w r =
      opens_fault S S T seen wrote first client client link link b.shut false to first_net old new count r (λ lent before p k h. hand_same S seen wrote first client lent link before p k h) w b.is_seen b.written b.keeps

-- it wanted memory
pub as_memory : {L : Type 0} (S : Bool → Past → Type 0) (seen : L → Seen) (wrote : L → List ℕ → Type 0) (first client : L) (to : Place) (first_net net : NetSeen) (count : ℕ) (was is : SessionFault) → was ≡ is
    → Stopped (S (failed_by was)) seen wrote first client (failed_by was) to first_net net count → Stopped (S (failed_by is)) seen wrote first client (failed_by is) to first_net net count
as_memory S seen wrote first client to first_net net count was is e h =
    let P : SessionFault → Type 0 = λ f. Stopped (S (failed_by f)) seen wrote first client (failed_by f) to first_net net count in
    subst P e h
