-- How the steps of a session lead from one place between two steps to the next.
use Rattle.std.proofs.Common.{◌≡◌, ℕ, ◌+◌, ◌≤◌, List, [], ◌∷◌, ◌++◌, Bool, true, false, Option, Some, None, refl, sym, ap, subst, arith}
use Rattle.std.specs.List.{AllByRecursion}
use Rattle.std.proofs.lemmas.Bool.{false≢true}
use Rattle.http_model.specs.declared.Close.{Close}
use Rattle.http_model.specs.declared.Close.TheVariants.{Failed}
use Rattle.session_model.specs.Meaning.{Meaning}
use Rattle.px_link.specs.declared.turns.Turn.{Turn}
use Rattle.px_link.specs.Link.{Seen, closed_by}
use Rattle.px_link.specs.Net.{Place, NetSeen, Connected, Refused, NoMemory, Keeps}
use Rattle.session_core.specs.History.{Past, Connect, Work, ServerOpened, ServerClosed, after, connected, closing_by, close_by}
use Rattle.htx_drive.specs.Driven.{Idle, IdleGoes, Hand, HandGoes, IsOver, moved, paid_by, paid_more}
use Rattle.htx_drive.specs.Dialled.{Dials, closed_how}
use Rattle.htx_drive.specs.Machine.{CoreSeen, TookFront}
use Rattle.htx_drive.specs.Turned.{StandsIn, WorkedIn, FailsIn, takes_none, none_failed, turns_in}
use Rattle.htx_drive.specs.Underway.{Idles, Runs, Stopped, LeftSo}
use Rattle.htx_drive.proofs.Dialling.{linked_fresh, returned, dials_served, dials_refused, dials_memory, moved_opened, moved_closed}
use Rattle.htx_drive.proofs.Last.{stand_last}
use Rattle.htx_drive.proofs.Resting.{over_more}

-- ---- what is said of the past

pub opened_in : {C : Type 0} (stands : C → Past → Type 0) (seen : C → CoreSeen) (all ahead : List Turn) (budget : ℕ) (old core : C) (past : Past) (opened : Bool)
    → stands core (after past (ServerOpened opened)) → WorkedIn stands seen all ahead budget 0 old past → StandsIn stands seen all ahead (1 + budget) 0 core (after past (ServerOpened opened))
opened_in stands seen all ahead budget old core past opened k s =
    let paid : 1 + budget ≤ 1 + turns_in s.turned + 0 = omega (arith, s.paid) in
    record { stand = k; worked = false; turned = takes_none true ahead past (ServerOpened opened) refl s.turned; paid = paid }

pub worked_in : {C : Type 0} (stands : C → Past → Type 0) (seen : C → CoreSeen) (all ahead : List Turn) (budget : ℕ) (core : C) (past : Past) → WorkedIn stands seen all ahead budget 0 core past → StandsIn stands seen all ahead budget 0 core past
worked_in stands seen all ahead budget core past s = record { stand = s.stand; worked = true; turned = s.turned; paid = s.paid }

pub closed_in : {C : Type 0} (stands : C → Past → Type 0) (seen : C → CoreSeen) (all ahead : List Turn) (budget : ℕ) (old core : C) (past : Past)
    → stands core (after past ServerClosed) → WorkedIn stands seen all ahead budget 0 old past → StandsIn stands seen all ahead budget 0 core (after past ServerClosed)
closed_in stands seen all ahead budget old core past k s = record { stand = k; worked = false; turned = takes_none true ahead past ServerClosed refl s.turned; paid = s.paid }

-- a core that found no memory
pub lost_so : {C : Type 0} (M : Meaning) (stands : C → Past → Type 0) (seen : C → CoreSeen) (all ahead : List Turn) (budget : ℕ) (old core : C) → ((p : Past) → stands old p → TookFront M p) → ((seen core).lost ≡ false → ⊥)
    → (p : Past) → StandsIn stands seen all ahead budget 0 old p → LeftSo M stands seen all ahead budget core false p
lost_so M stands seen all ahead budget old core front lost p s =
    record { left_core = record { front = front p s.stand; stand = λ e. absurd (lost e); turned = none_failed s.worked s.turned; paid = s.paid }; stand = λ e. absurd (false≢true e) }

-- there was no memory for a link
pub unroomed_so : {C : Type 0} (M : Meaning) (stands : C → Past → Type 0) (seen : C → CoreSeen) (all ahead : List Turn) (budget : ℕ) (core : C) → ((p : Past) → stands core p → TookFront M p)
    → (p : Past) → WorkedIn stands seen all ahead budget 0 core p → LeftSo M stands seen all ahead budget core false p
unroomed_so M stands seen all ahead budget core front p s =
    record { left_core = record { front = front p s.stand; stand = λ e. s.stand; turned = none_failed true s.turned; paid = s.paid }; stand = λ e. absurd (false≢true e) }

-- a write failed
pub fails_so : {C : Type 0} (M : Meaning) (stands : C → Past → Type 0) (seen : C → CoreSeen) (all ahead : List Turn) (budget : ℕ) (core : C) (failed : Bool) → ((p : Past) → stands core p → TookFront M p)
    → (p : Past) → FailsIn stands seen all ahead budget 0 core p → LeftSo M stands seen all ahead budget core failed p
fails_so M stands seen all ahead budget core failed front p s =
    record { left_core = record { front = front p s.stand; stand = λ e. s.stand; turned = s.turned; paid = s.paid }; stand = λ e. s.stand }

-- ---- no server is open

module _ {L : Type 0} (S T : Past → Type 0) (seen : L → Seen) (wrote : L → List ℕ → Type 0) (first client : L) (to : Place) (first_net net : NetSeen) (count : ℕ) where
  pub idles_works : (note : Option Bool) → ((p : Past) → S p → T (after p (Work note))) → Runs S seen wrote first client None to first_net net count → Runs T seen wrote first client None to first_net net count
  idles_works None w r =
      let idle = r.under.idle in
      record { past = r.past; under = record { idle = record { stand = record { stand = w r.past idle.stand.stand; over = idle.stand.over }; came = idle.came; put = idle.put; closed = idle.closed }; dials = r.under.dials }; more = r.more }
  idles_works (Some begun) w r =
      let idle = r.under.idle in
      record { past = record r.past { note = Some begun }; under = record { idle = record { stand = record { stand = w r.past idle.stand.stand; over = idle.stand.over }; came = idle.came; put = idle.put; closed = idle.closed }; dials = r.under.dials }; more = r.more }

  pub idles_as : ((p : Past) → S p → T p) → Runs S seen wrote first client None to first_net net count → Runs T seen wrote first client None to first_net net count
  idles_as w r =
      let idle = r.under.idle in
      record { past = r.past; under = record { idle = record { stand = record { stand = w r.past idle.stand.stand; over = idle.stand.over }; came = idle.came; put = idle.put; closed = idle.closed }; dials = r.under.dials }; more = r.more }

  pub idles_stop : ((p : Past) → S p → T p) → Runs S seen wrote first client None to first_net net count → Stopped T seen wrote first client false to first_net net count
  idles_stop w r =
      let idle = r.under.idle in
      record { past = r.past; idle = record { stand = w r.past idle.stand.stand; came = idle.came; put = idle.put; closed = idle.closed }; dials = r.under.dials; more = r.more }

-- a turn of the client
pub idles_turn : {L : Type 0} (S T : Past → Type 0) (seen : L → Seen) (wrote : L → List ℕ → Type 0) (first was client : L) (to : Place) (first_net net : NetSeen) (paid count next : ℕ)
    → Runs S seen wrote first was None to first_net net count → ((p : Past) → Idle S seen wrote first was false p → IdleGoes T seen wrote first client false p paid 0) → next ≤ paid + count → Runs T seen wrote first client None to first_net net next
idles_turn S T seen wrote first was client to first_net net paid count next r step e =
    let idle = r.under.idle in
    let g = step r.past (record { stand = idle.stand.stand; came = idle.came; put = idle.put; closed = idle.closed }) in
    let P : List Connect → Type 0 = λ cs. Dials to first_net net cs in
    let Q : List Connect → Type 0 = λ cs. AllByRecursion IsOver cs in
    let m : moved r.past + paid ≤ moved g.now + 0 = g.more in
    let n : count ≤ moved r.past = r.more in
    record { past = g.now; under = record { idle = record { stand = record { stand = g.idle.stand; over = subst Q (sym g.connects) idle.stand.over }; came = g.idle.came; put = g.idle.put; closed = g.idle.closed }; dials = subst P (sym g.connects) r.under.dials }; more = omega arith }

pub idles_fault : {L : Type 0} (S T U : Past → Type 0) (seen : L → Seen) (wrote : L → List ℕ → Type 0) (first was client : L) (failed : Bool) (to : Place) (first_net net : NetSeen) (count : ℕ)
    → Runs S seen wrote first was None to first_net net count → ((p : Past) → Idle S seen wrote first was false p → IdleGoes T seen wrote first client failed p 0 0) → ((p : Past) → T p → U p) → Stopped U seen wrote first client failed to first_net net count
idles_fault S T U seen wrote first was client failed to first_net net count r step w =
    let idle = r.under.idle in
    let g = step r.past (record { stand = idle.stand.stand; came = idle.came; put = idle.put; closed = idle.closed }) in
    let m : moved r.past + 0 ≤ moved g.now + 0 = g.more in
    let n : count ≤ moved r.past = r.more in
    let P : List Connect → Type 0 = λ cs. Dials to first_net net cs in
    record { past = g.now; idle = record { stand = w g.now g.idle.stand; came = g.idle.came; put = g.idle.put; closed = g.idle.closed }; dials = subst P (sym g.connects) r.under.dials; more = omega arith }

-- ---- a server is asked for

module _ {L : Type 0} (S T : Past → Type 0) (seen : L → Seen) (wrote : L → List ℕ → Type 0) (first client : L) (to : Place) (first_net old new : NetSeen) (past : Past) (count : ℕ) (h : Idles S seen wrote first client to first_net old past) (most : count ≤ moved past) where
  pub opens : (link : L) → Connected old new to (seen link) (wrote link []) → (S past → T (after past (ServerOpened true))) → Runs T seen wrote first client (Some link) to first_net new (1 + count)
  opens link is w =
      record {
        past = record past { connects = past.connects ++ connected true ∷ [] };
        under = record {
          lent = link;
          before = past.connects;
          c = connected true;
          prior = old;
          hand = record { idle = record { stand = w h.idle.stand.stand; came = h.idle.came; put = h.idle.put; closed = h.idle.closed }; connects = refl; linked = linked_fresh seen wrote link };
          over = h.idle.stand.over;
          dials = h.dials;
          connected = is;
        };
        more = let e = moved_opened past true in omega arith;
      }

  pub refused : Refused old new to → (S past → T (after past (ServerOpened false))) → Runs T seen wrote first client None to first_net new (1 + count)
  refused is w =
      record {
        past = record past { connects = past.connects ++ connected false ∷ [] };
        under = record {
          idle = record { stand = record { stand = w h.idle.stand.stand; over = over_more past.connects (connected false) h.idle.stand.over (λ there. absurd (false≢true there)) }; came = h.idle.came; put = h.idle.put; closed = h.idle.closed };
          dials = dials_refused to first_net old new past.connects h.dials is;
        };
        more = let e = moved_opened past false in omega arith;
      }

  pub unroomed : NoMemory old new to → (S past → T past) → Stopped T seen wrote first client false to first_net new count
  unroomed is w =
      record { past = past; idle = record { stand = w h.idle.stand.stand; came = h.idle.came; put = h.idle.put; closed = h.idle.closed }; dials = dials_memory to first_net old new past.connects h.dials is; more = most }

-- ---- a server is open

module _ {L : Type 0} (S T : Past → Type 0) (seen : L → Seen) (wrote : L → List ℕ → Type 0) (first client link : L) (to : Place) (first_net net : NetSeen) (count : ℕ) where
  pub opens_works : (note : Option Bool) → ((p : Past) → S p → T (after p (Work note))) → Runs S seen wrote first client (Some link) to first_net net count → Runs T seen wrote first client (Some link) to first_net net count
  opens_works None w r =
      let u = r.under in
      let idle = u.hand.idle in
      record { past = r.past; under = record { lent = u.lent; before = u.before; c = u.c; prior = u.prior; hand = record { idle = record { stand = w r.past idle.stand; came = idle.came; put = idle.put; closed = idle.closed }; connects = u.hand.connects; linked = u.hand.linked }; over = u.over; dials = u.dials; connected = u.connected }; more = r.more }
  opens_works (Some begun) w r =
      let u = r.under in
      let idle = u.hand.idle in
      record { past = record r.past { note = Some begun }; under = record { lent = u.lent; before = u.before; c = u.c; prior = u.prior; hand = record { idle = record { stand = w r.past idle.stand; came = idle.came; put = idle.put; closed = idle.closed }; connects = u.hand.connects; linked = u.hand.linked }; over = u.over; dials = u.dials; connected = u.connected }; more = r.more }

pub opens_turn : {L : Type 0} (S T : Past → Type 0) (seen : L → Seen) (wrote : L → List ℕ → Type 0) (first was client before_link link : L) (to : Place) (first_net net : NetSeen) (paid count next : ℕ)
    → Runs S seen wrote first was (Some before_link) to first_net net count
    → ((lent : L) (before : List Connect) (p : Past) (c : Connect) → Hand S seen wrote first was lent before_link false before p c → HandGoes T seen wrote first client lent link false before p paid 0)
    → next ≤ paid + count → Runs T seen wrote first client (Some link) to first_net net next
opens_turn S T seen wrote first was client before_link link to first_net net paid count next r step e =
    let u = r.under in
    let g = step u.lent u.before r.past u.c u.hand in
    let m : moved r.past + paid ≤ moved g.now + 0 = g.more in
    let n : count ≤ moved r.past = r.more in
    record { past = g.now; under = record { lent = u.lent; before = u.before; c = g.c; prior = u.prior; hand = g.hand; over = u.over; dials = u.dials; connected = u.connected }; more = omega arith }

-- its link is closed Failed behind a fault, and kept
pub opens_fault : {L : Type 0} (S T U : Past → Type 0) (seen : L → Seen) (wrote : L → List ℕ → Type 0) (first was client before_link link shut : L) (failed : Bool) (to : Place) (first_net old new : NetSeen) (count : ℕ)
    → Runs S seen wrote first was (Some before_link) to first_net old count
    → ((lent : L) (before : List Connect) (p : Past) (c : Connect) → Hand S seen wrote first was lent before_link false before p c → HandGoes T seen wrote first client lent link failed before p 0 0)
    → ((p : Past) → T p → U p)
    → seen shut ≡ record (seen link) { closed = closed_by (seen link).closed Failed } → ((bs : List ℕ) → wrote link bs → wrote shut bs) → Keeps (wrote shut) old new (seen shut)
    → Stopped U seen wrote first client failed to first_net new count
opens_fault S T U seen wrote first was client before_link link shut failed to first_net old new count r step w e ws k =
    let u = r.under in
    let g = step u.lent u.before r.past u.c u.hand in
    let m : moved r.past + 0 ≤ moved g.now + 0 = g.more in
    let n : count ≤ moved r.past = r.more in
    let back = returned seen wrote u.lent link shut old new g.c Failed g.c.closed g.hand.linked e ws k (ap closed_how g.hand.linked.unclosed) in
    let P : List Connect → Type 0 = λ cs. Dials to first_net new cs in
    record {
      past = g.now;
      idle = record { stand = w g.now g.hand.idle.stand; came = g.hand.idle.came; put = g.hand.idle.put; closed = g.hand.idle.closed };
      dials = subst P (sym g.hand.connects) (dials_served seen wrote u.lent to first_net u.prior old new u.before g.c u.dials u.connected g.hand.linked.there back);
      more = omega arith;
    }

-- it is closed as the core says, and kept
pub opens_close : {L : Type 0} (S T : Past → Type 0) (seen : L → Seen) (wrote : L → List ℕ → Type 0) (first client link shut : L) (to : Place) (first_net old new : NetSeen) (how : Close) (count : ℕ)
    → Runs S seen wrote first client (Some link) to first_net old count → ((p : Past) → S p → (T (after p ServerClosed)) × (how ≡ close_by p.note))
    → seen shut ≡ record (seen link) { closed = closed_by (seen link).closed how } → ((bs : List ℕ) → wrote link bs → wrote shut bs) → Keeps (wrote shut) old new (seen shut)
    → Runs T seen wrote first client None to first_net new count
opens_close S T seen wrote first client link shut to first_net old new how count r w e ws k =
    let u = r.under in
    let idle = u.hand.idle in
    let done = w r.past idle.stand in
    let c : Connect = closing_by r.past.note u.c in
    let back = returned seen wrote u.lent link shut old new u.c how (Some (close_by r.past.note)) u.hand.linked e ws k (sym done.1) in
    record {
      past = record r.past { connects = u.before ++ c ∷ [] };
      under = record {
        idle = record { stand = record { stand = stand_last T r.past u.before u.c (closing_by r.past.note) u.hand.connects done.0; over = over_more u.before c u.over (λ there. refl) }; came = idle.came; put = idle.put; closed = idle.closed };
        dials = dials_served seen wrote u.lent to first_net u.prior old new u.before c u.dials u.connected u.hand.linked.there back;
      };
      more = let m = moved_closed u.before r.past u.c (close_by r.past.note) u.hand.connects u.hand.linked.unclosed in let n : count ≤ moved r.past = r.more in omega arith;
    }

-- nothing happened while it was open
pub hand_same : {L : Type 0} (S : Past → Type 0) (seen : L → Seen) (wrote : L → List ℕ → Type 0) (first client lent link : L) (before : List Connect) (past : Past) (c : Connect) → Hand S seen wrote first client lent link false before past c
    → HandGoes S seen wrote first client lent link false before past 0 0
hand_same S seen wrote first client lent link before past c h = record { now = past; c = c; hand = h; more = omega arith }

-- what a turn paid
pub most_paid : (moved : Bool) (count : ℕ) → paid_more moved count ≤ paid_by moved + count
most_paid true count = omega arith
most_paid false count = omega arith
