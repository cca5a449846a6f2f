-- How links that were given back pass on what is written to them: as before.
use Rattle.std.proofs.Common.{◌≡◌, ℕ, List, Bool, Option, Some, None, ap, ◌∙◌, inl, inr}
use Rattle.std.specs.Prelude.{Result, Ok, Err}
use Rattle.session_model.specs.Meaning.{Meaning}
use Rattle.session_core.specs.History.{Past}
use Rattle.px_link.specs.Link.{Seen}
use Rattle.px_link.specs.Net.{Place, NetSeen}
use Rattle.px_peer.specs.declared.Pair.{Pair}
use Rattle.px_proxyproto.specs.Nets.{heading_for, introduced}
use Rattle.px_proxyproto.specs.declared.meeting.Met.{Met}
use Rattle.px_proxyproto.specs.declared.meeting.Met.TheVariants as met
use Rattle.htx_drive.specs.Machine.{CoreSeen}
use Rattle.htx_drive.specs.declared.Ran.{Ran}
use Rattle.htx_drive.specs.declared.SessionFault.{SessionFault}
use Rattle.serve_run.proofs.PublicLaws.{met_manner}
use Rattle.px_run.specs.Course.{EndedOrLeft}
use Rattle.px_run.specs.Callers.{CameAsMet, CameBack}
use Rattle.px_run.specs.declared.plan.Opening.{Opening}

ended_manner : {C L : Type 0} (M : Meaning) (stands : C → Past → Type 0) (sees : C → CoreSeen) (seen : L → Seen) (wrote : L → List ℕ → Type 0) (first client : L) (to : Place) (first_net net : NetSeen) (came : Option (Result Ran SessionFault))
    → EndedOrLeft M stands sees seen wrote first client to first_net net came → (seen client).manner ≡ (seen first).manner
ended_manner M stands sees seen wrote first client to first_net net None (inl h) = let g = h.2 in let c = g.came in let k = c.kind in k.manner
ended_manner M stands sees seen wrote first client to first_net net None (inr u) = ap (λ (s : Seen). s.manner) u.closed
ended_manner M stands sees seen wrote first client to first_net net (Some (Ok ran)) h = let e = h.3 in let so = e.so in let c = so.came in let k = c.kind in k.manner
ended_manner M stands sees seen wrote first client to first_net net (Some (Err fault)) h = let g = h.2 in let c = g.came in let k = c.kind in k.manner

module _ {C L : Type 0} (M : Option Pair → Meaning) (stands : Option Pair → C → Past → Type 0) (sees : C → CoreSeen) (seen : L → Seen) (wrote : L → List ℕ → Type 0) (tells : L → Option Pair → Type 0) (accepts_header : Bool) (opening : Opening) (first : L) (to : Place) (first_net : NetSeen) where
  came_manner : (how : Met) (begins client : L) (net : NetSeen) (came : Option (Result Ran SessionFault)) → CameAsMet M stands sees seen wrote opening how begins client to first_net net came → (seen client).manner ≡ (seen begins).manner
  came_manner (met.Caller pair) begins client net came h = ended_manner (M pair) (stands pair) sees seen wrote begins client to (introduced (heading_for opening.sends_header pair) first_net) net came h
  came_manner met.Refused begins client net None h = absurd h
  came_manner met.Refused begins client net (Some (Ok ran)) h = ap (λ (s : Seen). s.manner) h.closed
  came_manner met.Refused begins client net (Some (Err fault)) h = absurd h

  pub back_manner : (client : L) (net : NetSeen) (came : Option (Result Ran SessionFault)) → CameBack M stands sees seen wrote tells accepts_header opening first client to first_net net came → (seen client).manner ≡ (seen first).manner
  back_manner client net came (inl h) = let so = h.so in came_manner h.how h.begins client net came h.came ∙ met_manner tells accepts_header first (seen first) (seen h.begins) h.how so.meets
  back_manner client net came (inr h) = let g = h.greeted in let f = g.so_far in let t = f.1 in let k = t.kind in let u = h.untouched in ap (λ (s : Seen). s.manner) u.closed ∙ k.manner
