-- How a session goes on between exchanges.
use Rattle.std.proofs.Common.{◌≡◌, ℕ, ◌+◌, ◌<◌, ◌≤◌, inl, List, [], Bool, false, Option, Some, None, sym, ap, subst, ◌∙◌, refl, arith}
use Rattle.std.proofs.lemmas.List.{append-nil}
use Rattle.http_model.specs.declared.Close.{Close}
use Rattle.session_core.specs.History.{Past, Connect, Event, after, Work}
use Rattle.px_link.specs.Link.{Seen, closed_by}
use Rattle.px_link.specs.Net.{Place, NetSeen}
use Rattle.htx_drive.specs.Came.{Put}
use Rattle.htx_drive.specs.Turned.{Makes}
use Rattle.htx_drive.specs.declared.act.Act.{Act}
use Rattle.htx_drive.specs.Driven.{Idle, ClientMoves, IdleGoes, moved, client_moved}
use Rattle.htx_drive.specs.Dialled.{Dials, Goes}
use Rattle.htx_drive.proofs.Refusals.{counts_none}
use Rattle.htx_drive.proofs.Writing.{put_still}

pub idle_moves : {L : Type 0} (T U : Past → Type 0) (did : Act) (seen : L → Seen) (wrote : L → List ℕ → Type 0) (first client : L) (past : Past) → ClientMoves did T seen wrote first client past
    → ((now : Past) (event : Event) → Makes did event → after past event ≡ now → T now → U now) → IdleGoes U seen wrote first client false past 1 0
idle_moves T U did seen wrote first client past m w =
    let more : client_moved past.client past.taken < client_moved m.came m.taken = m.more in
    record {
      now = record past { client = m.came; taken = m.taken };
      idle = record { stand = w _ m.event m.makes m.is m.idle.stand; came = m.idle.came; put = m.idle.put; closed = m.idle.closed };
      connects = refl;
      more = omega arith;
    }

pub idle_stays : {L : Type 0} (T U : Past → Type 0) (seen : L → Seen) (wrote : L → List ℕ → Type 0) (first client : L) (failed : Bool) (past : Past) → Idle T seen wrote first client failed past → (T past → U past) → IdleGoes U seen wrote first client failed past 0 0
idle_stays T U seen wrote first client failed past m w =
    record { now = past; idle = record { stand = w m.stand; came = m.came; put = m.put; closed = m.closed }; connects = refl; more = omega arith }

-- the same past, of which something else is said
pub idle_as : {L : Type 0} (S T : Past → Type 0) (seen : L → Seen) (wrote : L → List ℕ → Type 0) (first client : L) (failed : Bool) (past : Past) → (S past → T past) → Idle S seen wrote first client failed past → Idle T seen wrote first client failed past
idle_as S T seen wrote first client failed past w h = record { stand = w h.stand; came = h.came; put = h.put; closed = h.closed }

pub idle_paid : {L : Type 0} (T U : Past → Type 0) (seen : L → Seen) (wrote : L → List ℕ → Type 0) (first client : L) (failed : Bool) (past : Past) (paid had has : ℕ)
    → (had ≤ has + paid → (p : Past) → T p → U p) → IdleGoes T seen wrote first client failed past paid 0 → had ≤ has + paid → IdleGoes U seen wrote first client failed past had has
idle_paid T U seen wrote first client failed past paid had has w g e =
    let more : moved past + paid ≤ moved g.now + 0 = g.more in
    record { now = g.now; idle = record { stand = w e g.now g.idle.stand; came = g.idle.came; put = g.idle.put; closed = g.idle.closed }; connects = g.connects; more = omega arith }

pub idle_goes : {L : Type 0} (S T : Past → Type 0) (seen : L → Seen) (wrote : L → List ℕ → Type 0) (first client : L) (failed : Bool) (to : Place) (first_net net : NetSeen) (past : Past) (had has : ℕ)
    → ((p : Past) → S p → T p) → Dials to first_net net past.connects → IdleGoes S seen wrote first client failed past had has → Goes T seen wrote first client failed to first_net net past had has
idle_goes S T seen wrote first client failed to first_net net past had has w d g =
    let P : List Connect → Type 0 = λ cs. Dials to first_net net cs in
    record { now = g.now; idle = record { stand = w g.now g.idle.stand; came = g.idle.came; put = g.idle.put; closed = g.idle.closed }; dials = subst P (sym g.connects) d; more = g.more }

pub goes_as : {L : Type 0} (S T : Past → Type 0) (seen : L → Seen) (wrote : L → List ℕ → Type 0) (first client : L) (failed : Bool) (to : Place) (first_net net : NetSeen) (past : Past) (had has : ℕ)
    → ((p : Past) → S p → T p) → Goes S seen wrote first client failed to first_net net past had has → Goes T seen wrote first client failed to first_net net past had has
goes_as S T seen wrote first client failed to first_net net past had has w g =
    record { now = g.now; idle = record { stand = w g.now g.idle.stand; came = g.idle.came; put = g.idle.put; closed = g.idle.closed }; dials = g.dials; more = g.more }

works : {L : Type 0} (S T : Past → Type 0) (seen : L → Seen) (wrote : L → List ℕ → Type 0) (first client : L) (to : Place) (first_net net : NetSeen) (past now : Past) (had has : ℕ) (note : Option Bool)
    → ((p : Past) → S p → T (after p (Work note))) → Idle S seen wrote first client false now → Dials to first_net net now.connects → moved past + had ≤ moved now + has → Goes T seen wrote first client false to first_net net past had has
works S T seen wrote first client to first_net net past now had has None w h d m =
    record { now = now; idle = record { stand = w now h.stand; came = h.came; put = h.put; closed = h.closed }; dials = d; more = m }
works S T seen wrote first client to first_net net past now had has (Some begun) w h d m =
    record { now = record now { note = Some begun }; idle = record { stand = w now h.stand; came = h.came; put = h.put; closed = h.closed }; dials = d; more = m }

pub goes_works : {L : Type 0} (S T : Past → Type 0) (seen : L → Seen) (wrote : L → List ℕ → Type 0) (first client : L) (to : Place) (first_net net : NetSeen) (past : Past) (had has : ℕ) (note : Option Bool)
    → ((p : Past) → S p → T (after p (Work note))) → Goes S seen wrote first client false to first_net net past had has → Goes T seen wrote first client false to first_net net past had has
goes_works S T seen wrote first client to first_net net past had has note w g = works S T seen wrote first client to first_net net past g.now had has note w g.idle g.dials g.more

pub goes_then : {L : Type 0} (S T : Past → Type 0) (seen : L → Seen) (wrote : L → List ℕ → Type 0) (first mid client : L) (failed : Bool) (to : Place) (first_net mid_net net : NetSeen) (past : Past) (had has left : ℕ)
    → Goes S seen wrote first mid false to first_net mid_net past had has
    → ((p : Past) → Idle S seen wrote first mid false p → Dials to first_net mid_net p.connects → Goes T seen wrote first client failed to first_net net p has left)
    → Goes T seen wrote first client failed to first_net net past had left
goes_then S T seen wrote first mid client failed to first_net mid_net net past had has left g step =
    let n = step g.now g.idle g.dials in
    let a : moved past + had ≤ moved g.now + has = g.more in
    let b : moved g.now + has ≤ moved n.now + left = n.more in
    record { now = n.now; idle = n.idle; dials = n.dials; more = omega arith }

pub dials_fresh : (to : Place) (net : NetSeen) → Dials to net net []
dials_fresh to net =
    record {
      lent = refl;
      manner = refl;
      plain = refl;
      coming = record { accepts = refl; bound = refl; binds = refl };
      dialled = inl refl;
      refused = counts_none net.connect_faults;
      told = λ coming ks ea ek. record { dials = []; left = coming; connects = refl; chain = refl; answers = ea; kept = ek ∙ ap (λ l. Some l) (sym (append-nil ks)); each = tt };
    }

pub put_shut : (W V U : List ℕ → Type 0) (first old new : Seen) (x : Option (Option Close)) (put : List ℕ) (b : Bool) → new ≡ record old { closed = x } → ((bs : List ℕ) → V bs → U bs) → Put W V first old put b → Put W U first new put b
put_shut W V U first old new x put b e w h = put_still W V U first old new put b w (ap (λ (s : Seen). s.write_faults) e) h

pub shut_closed : (first old new : Seen) (how close : Close) → new ≡ record old { closed = closed_by old.closed how } → old.closed ≡ first.closed → how ≡ close → new.closed ≡ closed_by first.closed close
shut_closed first old new how close e f h = ap (λ (s : Seen). s.closed) e ∙ ap (λ o. closed_by o how) f ∙ ap (λ h. closed_by first.closed h) h

pub all_spent : (budget m left : ℕ) → 0 + budget ≤ m + left → left ≡ 0 → budget ≤ m
all_spent budget m left e z = omega arith

pub turns_spent : (budget turns left : ℕ) → budget ≤ turns + left → left ≡ 0 → budget ≤ turns
turns_spent budget turns left e z = omega arith
