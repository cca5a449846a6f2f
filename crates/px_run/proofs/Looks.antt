-- Where a connection stands behind a look at it.
use Rattle.std.proofs.Common.{◌≡◌, ℕ, List, true, false, Option, Some, None, refl, sym, ap, subst, ◌∙◌}
use Rattle.std.specs.Prelude.{Result, Ok, Err, is_some}
use Rattle.std.proofs.lemmas.Bool.{false≢true, true≢false}
use Rattle.session_model.specs.Meaning.{Meaning}
use Rattle.session_core.specs.History.{Past, nothing_yet}
use Rattle.px_link.specs.Link.{Seen}
use Rattle.px_link.specs.Net.{Place, NetSeen}
use Rattle.htx_drive.specs.Came.{Came}
use Rattle.htx_drive.specs.Machine.{CoreSeen}
use Rattle.htx_drive.specs.declared.Ran.{Ran}
use Rattle.htx_drive.specs.declared.SessionFault.{SessionFault}
use Rattle.px_run.specs.Course.{IsSame, IsSameServer, GoesOn, CameTo, MayStep, HasCore, has_core, Resumes, TakesUp}
use Rattle.px_run.specs.Connection.{IsWaiting, IsServing, IsResting, IsAt}
use Rattle.px_run.specs.declared.held.Held.{Held}
use Rattle.px_run.specs.declared.held.Held.TheVariants as helds
use Rattle.px_run.proofs.Asked.{same_then, same_server_by, put_same}
use Rattle.px_run.proofs.Begins.{begins}
use Rattle.px_run.proofs.Courses.{asked_goes, may_asked, goes_as, none_open}

-- it is so of the core that is there
pub has_it : {C : Type 0} (P : C → Type 0) (held : Held C) (core : C) → held ≡ helds.Core core → HasCore held P → P core
has_it P held core e h =
    let same : h.0 ≡ core = cc in
    subst P same h.2

-- no server is open, where none was
pub none_same : {L : Type 0} (seen : L → Seen) (wrote : L → List ℕ → Type 0) (was server : Option L) → IsSameServer seen wrote was server → was ≡ None → server ≡ None
none_same seen wrote None None s e = refl
none_same seen wrote None (Some link) s e = absurd s
none_same seen wrote (Some was) server s e = cc

module _ {C L : Type 0} (M : Meaning) (stands : C → Past → Type 0) (sees : C → CoreSeen) (sound rested : C → Type 0) (seen : L → Seen) (wrote : L → List ℕ → Type 0) (first : L) (to : Place) (first_net : NetSeen) where
  -- ---- by what it has

  pub serving_of : (client : L) (server : Option L) (net : NetSeen) (ran : Option (Result Ran SessionFault)) (held : Held C) → ran ≡ None → has_core held ≡ true → IsAt M stands sees sound rested seen wrote first client server to first_net net ran held
      → HasCore held (λ core. IsServing stands sees sound seen wrote first client server to first_net net core)
  serving_of client server net None helds.Nothing r e h = absurd (false≢true e)
  serving_of client server net None (helds.Rest exchanges) r e h = absurd (false≢true e)
  serving_of client server net None (helds.Core core) r e h = (core, refl, h)
  serving_of client server net (Some ran) held r e h = cc

  pub goes_of : (client : L) (server : Option L) (net : NetSeen) (held : Held C) → HasCore held (λ core. IsServing stands sees sound seen wrote first client server to first_net net core)
      → HasCore held (λ core. GoesOn stands sees core seen wrote first client server to first_net net)
  goes_of client server net held h = (h.0, h.1, h.2.goes)

  pub may_of : (client : L) (server : Option L) (net : NetSeen) (ran : Option (Result Ran SessionFault)) (held : Held C) → ran ≡ None → HasCore held (λ core. IsServing stands sees sound seen wrote first client server to first_net net core)
      → HasCore held (λ core. MayStep sees sound core server net ran)
  may_of client server net ran held e h =
      let m = h.2.may in
      (h.0, h.1, record { is_sound = m.is_sound; serving = m.serving; lent = m.lent; goes_on = e })

  pub serving_at : (client : L) (server : Option L) (net : NetSeen) (ran : Option (Result Ran SessionFault)) (held : Held C)
      → HasCore held (λ core. MayStep sees sound core server net ran) → HasCore held (λ core. GoesOn stands sees core seen wrote first client server to first_net net)
      → IsAt M stands sees sound rested seen wrote first client server to first_net net ran held
  serving_at client server net ran held m g =
      let may = m.2 in
      let goes = has_it (λ core. GoesOn stands sees core seen wrote first client server to first_net net) held m.0 m.1 g in
      let P : Held C → Type 0 = λ o. IsAt M stands sees sound rested seen wrote first client server to first_net net ran o in
      let Q : Option (Result Ran SessionFault) → Type 0 = λ r. IsAt M stands sees sound rested seen wrote first client server to first_net net r (helds.Core m.0) in
      subst P (sym m.1) (subst Q (sym may.goes_on) (record { goes = goes; may = record { is_sound = may.is_sound; serving = may.serving; lent = may.lent; goes_on = refl } }))

  over_held : (client : L) (server : Option L) (net : NetSeen) (ran : Option (Result Ran SessionFault)) → server ≡ None → CameTo M stands sees seen wrote first client to first_net net ran
      → IsAt M stands sees sound rested seen wrote first client server to first_net net ran helds.Nothing
  over_held client server net None n h = absurd h
  over_held client server net (Some ran) n h = record { no_server = n; came = h }

  pub over_at : (client : L) (server : Option L) (net : NetSeen) (ran : Option (Result Ran SessionFault)) (held : Held C) → held ≡ helds.Nothing → server ≡ None → CameTo M stands sees seen wrote first client to first_net net ran
      → IsAt M stands sees sound rested seen wrote first client server to first_net net ran held
  over_at client server net ran held e n h =
      let P : Held C → Type 0 = λ o. IsAt M stands sees sound rested seen wrote first client server to first_net net ran o in
      subst P (sym e) (over_held client server net ran n h)

  -- ---- while it is asked

  came_same : (was client : L) (old net : NetSeen) (ran : Option (Result Ran SessionFault)) → IsSame seen wrote was client → net ≡ old → CameTo M stands sees seen wrote first was to first_net old ran → CameTo M stands sees seen wrote first client to first_net net ran
  came_same was client old net None s e h = absurd h
  came_same was client old net (Some (Ok ran)) s e h =
      let n : NetSeen → Type 0 = λ k. CameTo M stands sees seen wrote first client to first_net k (Some (Ok ran)) in
      let end = h.3 in
      let so = end.so in
      let P : Seen → Type 0 = λ k. Came (seen first) k so.past.client in
      let Q : Seen → Type 0 = λ k. k.closed ≡ (seen was).closed in
      subst n (sym e) (
        h.0,
        h.1,
        h.2,
        record {
          core = end.core;
          so = record {
            past = so.past;
            stand = so.stand;
            session = so.session;
            bit = so.bit;
            came = subst P (sym s.told) so.came;
            put = put_same seen wrote first was client s so.past.taken false so.put;
            closed = ap (λ (k : Seen). k.closed) s.told ∙ so.closed;
            over = so.over;
            dials = so.dials;
          };
          worked = end.worked;
          turned = end.turned;
          paid = end.paid;
          more = end.more;
        },
      )
  came_same was client old net (Some (Err fault)) s e h =
      let n : NetSeen → Type 0 = λ k. CameTo M stands sees seen wrote first client to first_net k (Some (Err fault)) in
      let end = h.2 in
      let P : Seen → Type 0 = λ k. Came (seen first) k end.past.client in
      subst n (sym e) (
        h.0,
        h.1,
        record {
          core = end.core;
          ahead = end.ahead;
          past = end.past;
          so = end.so;
          came = subst P (sym s.told) end.came;
          put = put_same seen wrote first was client s end.past.taken _ end.put;
          closed = ap (λ (k : Seen). k.closed) s.told ∙ end.closed;
          dials = end.dials;
          more = end.more;
        },
      )

  pub asked_at : (was client : L) (before server : Option L) (old net : NetSeen) (ran : Option (Result Ran SessionFault)) (held : Held C) → IsSame seen wrote was client → IsSameServer seen wrote before server → net ≡ old
      → IsAt M stands sees sound rested seen wrote first was before to first_net old ran held → IsAt M stands sees sound rested seen wrote first client server to first_net net ran held
  asked_at was client before server old net None helds.Nothing s t e h = record { same = same_then seen wrote first was client h.same s; no_server = none_same seen wrote before server t h.no_server; same_net = e ∙ h.same_net }
  asked_at was client before server old net None (helds.Rest exchanges) s t e h =
      record { core = h.core; goes = asked_goes M stands sees seen wrote first to first_net h.core was client before server old net s t e h.goes; rests = h.rests; counts = h.counts; no_server = none_same seen wrote before server t h.no_server }
  asked_at was client before server old net None (helds.Core core) s t e h =
      record { goes = asked_goes M stands sees seen wrote first to first_net core was client before server old net s t e h.goes; may = may_asked sees sound seen wrote core before server old net None None t e refl h.may }
  asked_at was client before server old net (Some ran) helds.Nothing s t e h = record { no_server = none_same seen wrote before server t h.no_server; came = came_same was client old net (Some ran) s e h.came }
  asked_at was client before server old net (Some ran) (helds.Rest exchanges) s t e h = absurd h
  asked_at was client before server old net (Some ran) (helds.Core core) s t e h = absurd h

  -- ---- it gets a core

  pub begins_at : (client : L) (server : Option L) (net : NetSeen) (core : C) → sound core → (sees core).serving ≡ false → stands core nothing_yet → IsWaiting seen wrote first client server first_net net
      → IsServing stands sees sound seen wrote first client server to first_net net core
  begins_at client server net core is idle s w =
      let P : Option L → Type 0 = λ o. GoesOn stands sees core seen wrote first client o to first_net net in
      let none : is_some server ≡ false = ap is_some w.no_server in
      record {
        goes = subst P (sym w.no_server) (asked_goes M stands sees seen wrote first to first_net core first client None None first_net net w.same tt w.same_net (begins stands sees core seen wrote first to first_net s));
        may = record { is_sound = is; serving = idle ∙ sym none; lent = λ e. absurd (false≢true (sym none ∙ e)); goes_on = refl };
      }

  -- ---- it takes one up again

  resumes_at : (client : L) (server : Option L) (net : NetSeen) (core : C) (exchanges : ℕ) → sound core → (sees core).serving ≡ false → Resumes stands sees rested exchanges core → IsResting stands sees rested seen wrote first client server to first_net net exchanges
      → IsServing stands sees sound seen wrote first client server to first_net net core
  resumes_at client server net core exchanges is idle up r =
      let none : is_some server ≡ false = ap is_some r.no_server in
      record {
        goes = goes_as M stands sees seen wrote first to first_net r.core core client server net (λ past s. up r.core past s r.rests r.counts) r.goes;
        may = record { is_sound = is; serving = idle ∙ sym none; lent = λ e. absurd (false≢true (sym none ∙ e)); goes_on = refl };
      }

  taken_up : (client : L) (server : Option L) (net : NetSeen) (before : Held C) (core : C) → has_core before ≡ false → sound core → (sees core).serving ≡ false → TakesUp stands sees rested before core
      → IsAt M stands sees sound rested seen wrote first client server to first_net net None before → IsServing stands sees sound seen wrote first client server to first_net net core
  taken_up client server net helds.Nothing core e is idle up h = begins_at client server net core is idle up h
  taken_up client server net (helds.Rest exchanges) core e is idle up h = resumes_at client server net core exchanges is idle up h
  taken_up client server net (helds.Core before) core e is idle up h = absurd (true≢false e)

  -- a look that may have given it a core
  pub seated_at : (was client : L) (before server : Option L) (old net : NetSeen) (ran_before ran : Option (Result Ran SessionFault)) (held_before held : Held C) {T : Type 0} (looked : Option T)
      → has_core held_before ≡ false → ran_before ≡ None → IsSame seen wrote was client → server ≡ before → net ≡ old → ran ≡ ran_before → (is_some looked ≡ true → held ≡ held_before)
      → (looked ≡ None → HasCore held (λ core. sound core × ((sees core).serving ≡ false) × TakesUp stands sees rested held_before core))
      → IsAt M stands sees sound rested seen wrote first was before to first_net old ran_before held_before → IsAt M stands sees sound rested seen wrote first client server to first_net net ran held
  seated_at was client before server old net ran_before ran held_before held None eh er s t e r none took h =
      let k = took refl in
      let B : Option (Result Ran SessionFault) → Type 0 = λ o. IsAt M stands sees sound rested seen wrote first was before to first_net old o held_before in
      let a = asked_at was client before server old net None held_before s (same_server_by seen wrote before server t) e (subst B er h) in
      let P : Held C → Type 0 = λ o. IsAt M stands sees sound rested seen wrote first client server to first_net net ran o in
      let Q : Option (Result Ran SessionFault) → Type 0 = λ o. IsAt M stands sees sound rested seen wrote first client server to first_net net o (helds.Core k.0) in
      subst P (sym k.1) (subst Q (sym (r ∙ er)) (taken_up client server net held_before k.0 eh k.2.0 k.2.1 k.2.2 a))
  seated_at was client before server old net ran_before ran held_before held (Some looked) eh er s t e r none took h =
      let a = asked_at was client before server old net ran_before held_before s (same_server_by seen wrote before server t) e h in
      let P : Held C → Type 0 = λ o. IsAt M stands sees sound rested seen wrote first client server to first_net net ran o in
      let Q : Option (Result Ran SessionFault) → Type 0 = λ o. IsAt M stands sees sound rested seen wrote first client server to first_net net o held_before in
      subst P (sym (none refl)) (subst Q (sym r) a)

  -- ---- it gives its core back

  pub resting_at : (client : L) (server : Option L) (net : NetSeen) (ran : Option (Result Ran SessionFault)) (held : Held C) (core : C) (exchanges : ℕ) → held ≡ helds.Rest exchanges
      → MayStep sees sound core server net ran → (sees core).serving ≡ false → rested core → (sees core).exchanges ≡ exchanges → GoesOn stands sees core seen wrote first client server to first_net net
      → IsAt M stands sees sound rested seen wrote first client server to first_net net ran held
  resting_at client server net ran held core exchanges e may idle rests counts goes =
      let P : Held C → Type 0 = λ o. IsAt M stands sees sound rested seen wrote first client server to first_net net ran o in
      let Q : Option (Result Ran SessionFault) → Type 0 = λ r. IsAt M stands sees sound rested seen wrote first client server to first_net net r (helds.Rest exchanges) in
      let none : server ≡ None = none_open server (sees core).serving may.serving (λ opened. false≢true (sym idle ∙ opened)) in
      subst P (sym e) (subst Q (sym may.goes_on) (record { core = core; goes = goes; rests = rests; counts = counts; no_server = none }))
