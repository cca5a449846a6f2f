-- How a connection's move and its end follow from steps.
use Rattle.std.proofs.Common.{◌≡◌, ℕ, ◌+◌, ◌≤◌, ◌<◌, List, Bool, true, false, Option, Some, None, refl, sym, subst, arith}
use Rattle.std.specs.Prelude.{is_some, Result, Ok, Err}
use Rattle.http_model.specs.declared.Close.TheVariants.{Failed}
use Rattle.session_model.specs.Meaning.{Meaning}
use Rattle.session_model.specs.Session.{close_of}
use Rattle.session_core.specs.History.{Past}
use Rattle.session_core.specs.Consequences.{IsFinal, out_of_past}
use Rattle.px_link.specs.declared.turns.Turn.{Turn}
use Rattle.px_link.specs.Link.{Seen, closed_by}
use Rattle.px_link.specs.Net.{Place, NetSeen, Keeps}
use Rattle.htx_drive.specs.Machine.{CoreSeen, TookFront}
use Rattle.htx_drive.specs.Turned.{StandsIn, none_failed}
use Rattle.htx_drive.specs.Driven.{paid_by, paid_more, failed_by}
use Rattle.htx_drive.specs.declared.SessionFault.{SessionFault}
use Rattle.htx_drive.specs.declared.SessionFault.TheVariants as faults
use Rattle.htx_drive.specs.Underway.{Runs, Stopped, LeftSo, ahead_of, paid_with}
use Rattle.htx_drive.specs.declared.step.Did.{Did}
use Rattle.htx_drive.specs.declared.Ran.{Ran}
use Rattle.htx_drive.proofs.Dialling.{came_shut}
use Rattle.htx_drive.proofs.Running.{put_shut, shut_closed}
use Rattle.htx_drive.proofs.Steps.{idles_stop, opens_fault, hand_same}
use Rattle.htx_drive.specs.Weave.Woven.{Pays, Going, EndedSo, GivenUp, Back, ahead_behind}
use Rattle.htx_drive.specs.Weave.Went.{OverSo}
use Rattle.htx_drive.specs.declared.weave.moves.Moved.{Moved}

-- the same, of a server that is the same
pub at_server : {L : Type 0} (S : Past → Type 0) (seen : L → Seen) (wrote : L → List ℕ → Type 0) (first client : L) (old new : Option L) (to : Place) (first_net net : NetSeen) (count : ℕ) → old ≡ new
    → Runs S seen wrote first client old to first_net net count → Runs S seen wrote first client new to first_net net count
at_server S seen wrote first client old new to first_net net count e r =
    let P : Option _ → Type 0 = λ o. Runs S seen wrote first client o to first_net net count in
    subst P e r

-- no server is open where the core says that the session is over
pub none_open : {L : Type 0} (server : Option L) → (is_some server ≡ true → ⊥) → server ≡ None
none_open None h = refl
none_open (Some link) h = absurd (h refl)

pub not_both : {A : Type 0} (o : Option A) (a : A) → o ≡ Some a → o ≡ None → ⊥
not_both o a e f = cc

pub over_so : {C L : Type 0} (M : Meaning) (stands : C → Past → Type 0) (sees : C → CoreSeen) (all ahead : List Turn) (core : C) (seen : L → Seen) (wrote : L → List ℕ → Type 0) (first old shut : L) (to : Place) (first_net net : NetSeen) (ran : Ran) (count : ℕ)
    → Going stands sees all ahead core seen wrote first old None to first_net net count
    → ((p : Past) → stands core p → IsFinal M p (out_of_past p p.taken ran.exchanges ran.end)) → ((p : Past) → stands core p → ran.begun_cut ≡ p.note)
    → seen shut ≡ record (seen old) { closed = closed_by (seen old).closed (close_of ran.end) } → ((bs : List ℕ) → wrote old bs → wrote shut bs)
    → EndedSo M stands sees all ahead seen wrote first shut to first_net net ran count
over_so M stands sees all ahead core seen wrote first old shut to first_net net ran count r final bit e w =
    let idle = r.under.idle in
    let s = idle.stand.stand in
    record {
      core = core;
      so = record {
        past = r.past;
        stand = s.stand;
        session = final r.past s.stand;
        bit = bit r.past s.stand;
        came = came_shut (seen first) (seen old) (seen shut) _ r.past.client e idle.came;
        put = put_shut _ _ _ (seen first) (seen old) (seen shut) _ r.past.taken false e w idle.put;
        closed = shut_closed (seen first) (seen old) (seen shut) _ _ e idle.closed refl;
        over = idle.stand.over;
        dials = r.under.dials;
      };
      worked = s.worked;
      turned = s.turned;
      paid = s.paid;
      more = r.more;
    }

pub given_up_so : {C L : Type 0} (M : Meaning) (stands : C → Past → Type 0) (sees : C → CoreSeen) (all left : List Turn) (core : C) (seen : L → Seen) (wrote : L → List ℕ → Type 0) (first old shut : L) (failed : Bool) (to : Place) (first_net net : NetSeen) (count : ℕ)
    → Stopped (LeftSo M stands sees all left count core failed) seen wrote first old failed to first_net net count
    → seen shut ≡ record (seen old) { closed = closed_by (seen old).closed Failed } → ((bs : List ℕ) → wrote old bs → wrote shut bs)
    → GivenUp M stands sees all seen wrote first shut failed to first_net net count
given_up_so M stands sees all left core seen wrote first old shut failed to first_net net count s e w =
    record {
      core = core;
      ahead = left;
      past = s.past;
      so = s.idle.stand;
      came = came_shut (seen first) (seen old) (seen shut) _ s.past.client e s.idle.came;
      put = put_shut _ _ _ (seen first) (seen old) (seen shut) _ s.past.taken failed e w s.idle.put;
      closed = shut_closed (seen first) (seen old) (seen shut) _ _ e s.idle.closed refl;
      dials = s.dials;
      more = s.more;
    }

-- a core that stands for the past is left as it is
left_so : {C : Type 0} (M : Meaning) (stands : C → Past → Type 0) (sees : C → CoreSeen) (all ahead : List Turn) (count : ℕ) (core : C) → ((p : Past) → stands core p → TookFront M p)
    → (p : Past) → StandsIn stands sees all ahead count 0 core p → LeftSo M stands sees all ahead count core false p
left_so M stands sees all ahead count core front p s =
    record { left_core = record { front = front p s.stand; stand = λ e. s.stand; turned = none_failed s.worked s.turned; paid = s.paid }; stand = λ e. s.stand }

pub stops_idle : {C L : Type 0} (M : Meaning) (stands : C → Past → Type 0) (sees : C → CoreSeen) (all ahead : List Turn) (core : C) (seen : L → Seen) (wrote : L → List ℕ → Type 0) (first client : L) (to : Place) (first_net net : NetSeen) (count : ℕ)
    → ((p : Past) → stands core p → TookFront M p)
    → Going stands sees all ahead core seen wrote first client None to first_net net count
    → Stopped (LeftSo M stands sees all ahead count core false) seen wrote first client false to first_net net count
stops_idle M stands sees all ahead core seen wrote first client to first_net net count front r =
    idles_stop _ _ seen wrote first client to first_net net count (left_so M stands sees all ahead count core front) r

pub stops_open : {C L : Type 0} (M : Meaning) (stands : C → Past → Type 0) (sees : C → CoreSeen) (all ahead : List Turn) (core : C) (seen : L → Seen) (wrote : L → List ℕ → Type 0) (first client link shut : L) (to : Place) (first_net old new : NetSeen) (count : ℕ)
    → ((p : Past) → stands core p → TookFront M p)
    → Going stands sees all ahead core seen wrote first client (Some link) to first_net old count
    → seen shut ≡ record (seen link) { closed = closed_by (seen link).closed Failed } → ((bs : List ℕ) → wrote link bs → wrote shut bs) → Keeps (wrote shut) old new (seen shut)
    → Stopped (LeftSo M stands sees all ahead count core false) seen wrote first client false to first_net new count
stops_open M stands sees all ahead core seen wrote first client link shut to first_net old new count front r e w k =
    opens_fault _ _ _ seen wrote first client client link link shut false to first_net old new count r (λ lent before p c h. hand_same _ seen wrote first client lent link before p c h)
    (left_so M stands sees all ahead count core front) e w k

pub at_most : (count moved most : ℕ) → count ≤ moved → moved < most → count < most
at_most count moved most a b = omega arith

-- ---- what a move pays

pub as_did : {C L : Type 0} (stands : C → Past → Type 0) (sees : C → CoreSeen) (all ahead : List Turn) (core : C) (seen : L → Seen) (wrote : L → List ℕ → Type 0) (first client : L) (server : Option L) (to : Place) (first_net net : NetSeen) (count : ℕ) (was did : Did) → was ≡ did
    → Going stands sees all (ahead_of was ahead) core seen wrote first client server to first_net net (paid_with was count) → Going stands sees all (ahead_of did ahead) core seen wrote first client server to first_net net (paid_with did count)
as_did stands sees all ahead core seen wrote first client server to first_net net count was did e r =
    let P : Did → Type 0 = λ d. Going stands sees all (ahead_of d ahead) core seen wrote first client server to first_net net (paid_with d count) in
    subst P e r

pub turned_pays : (moved : Bool) (count new left total : ℕ) → paid_by moved + new ≡ left → count + left ≡ total → paid_more moved count + new ≡ total
turned_pays true count new left total e h = omega (arith, e, h)
turned_pays false count new left total e h = omega (arith, e, h)

-- ---- a connection that is given up

pub stops : {C L : Type 0} (M : Meaning) (stands : C → Past → Type 0) (sees : C → CoreSeen) (all ahead : List Turn) (core : C) (seen : L → Seen) (wrote : L → List ℕ → Type 0) (first client : L) (server : Option L) (to : Place) (first_net old new : NetSeen) (count : ℕ)
    → ((p : Past) → stands core p → TookFront M p) → Back seen wrote old new server
    → Going stands sees all ahead core seen wrote first client server to first_net old count
    → Stopped (LeftSo M stands sees all ahead count core false) seen wrote first client false to first_net new count
stops M stands sees all ahead core seen wrote first client None to first_net old new count front b r =
    let P : NetSeen → Type 0 = λ n. Stopped (LeftSo M stands sees all ahead count core false) seen wrote first client false to first_net n count in
    subst P (sym b) (stops_idle M stands sees all ahead core seen wrote first client to first_net old count front r)
stops M stands sees all ahead core seen wrote first client (Some link) to first_net old new count front b r =
    stops_open M stands sees all ahead core seen wrote first client link b.shut to first_net old new count front r b.is_seen b.written b.keeps

-- ---- a connection that has a core

pub as_moved : {C L : Type 0} (stands : C → Past → Type 0) (sees : C → CoreSeen) (all ahead : List Turn) (core : C) (seen : L → Seen) (wrote : L → List ℕ → Type 0) (first client : L) (server : Option L) (to : Place) (first_net net : NetSeen) (total left : ℕ) (was did : Moved) → was ≡ did
    → Pays total left (Going stands sees all (ahead_behind was ahead) core seen wrote first client server to first_net net) → Pays total left (Going stands sees all (ahead_behind did ahead) core seen wrote first client server to first_net net)
as_moved stands sees all ahead core seen wrote first client server to first_net net total left was did e r =
    let P : Moved → Type 0 = λ d. Pays total left (Going stands sees all (ahead_behind d ahead) core seen wrote first client server to first_net net) in
    subst P e r

pub as_fault : {C L : Type 0} (M : Meaning) (stands : C → Past → Type 0) (sees : C → CoreSeen) (all : List Turn) (core : C) (seen : L → Seen) (wrote : L → List ℕ → Type 0) (first client : L) (to : Place) (first_net net : NetSeen) (total left : ℕ) (was fault : SessionFault) → was ≡ fault
    → Pays total left (λ count. (ahead : List Turn) × Stopped (LeftSo M stands sees all ahead count core (failed_by was)) seen wrote first client (failed_by was) to first_net net count)
    → Pays total left (λ count. (ahead : List Turn) × Stopped (LeftSo M stands sees all ahead count core (failed_by fault)) seen wrote first client (failed_by fault) to first_net net count)
as_fault M stands sees all core seen wrote first client to first_net net total left was fault e r =
    let P : SessionFault → Type 0 = λ f. Pays total left (λ count. (ahead : List Turn) × Stopped (LeftSo M stands sees all ahead count core (failed_by f)) seen wrote first client (failed_by f) to first_net net count) in
    subst P e r

pub over_ended : {C L : Type 0} (M : Meaning) (stands : C → Past → Type 0) (sees : C → CoreSeen) (all ahead : List Turn) (seen : L → Seen) (wrote : L → List ℕ → Type 0) (first client : L) (to : Place) (first_net net : NetSeen) (o : Option (Result Ran SessionFault)) (count : ℕ)
    → ((ran : Ran) × (o ≡ Some (Ok ran)) × EndedSo M stands sees all ahead seen wrote first client to first_net net ran count) → OverSo M stands sees all seen wrote first client to first_net net o count
over_ended M stands sees all ahead seen wrote first client to first_net net o count h =
    let P : Option (Result Ran SessionFault) → Type 0 = λ o. OverSo M stands sees all seen wrote first client to first_net net o count in
    subst P (sym h.1) (ahead, h.2)

pub over_given_up : {C L : Type 0} (M : Meaning) (stands : C → Past → Type 0) (sees : C → CoreSeen) (all : List Turn) (seen : L → Seen) (wrote : L → List ℕ → Type 0) (first client : L) (to : Place) (first_net net : NetSeen) (o : Option (Result Ran SessionFault)) (count : ℕ)
    → o ≡ Some (Err faults.ClientWrite) → GivenUp M stands sees all seen wrote first client true to first_net net count → OverSo M stands sees all seen wrote first client to first_net net o count
over_given_up M stands sees all seen wrote first client to first_net net o count e h =
    let P : Option (Result Ran SessionFault) → Type 0 = λ o. OverSo M stands sees all seen wrote first client to first_net net o count in
    subst P (sym e) (refl, h)

-- its core stands for a past
pub stood : {C L : Type 0} (stands : C → Past → Type 0) (sees : C → CoreSeen) (all ahead : List Turn) (core : C) (seen : L → Seen) (wrote : L → List ℕ → Type 0) (first client : L) (server : Option L) (to : Place) (first_net net : NetSeen) (count : ℕ)
    → Going stands sees all ahead core seen wrote first client server to first_net net count → (past : Past) × stands core past
stood stands sees all ahead core seen wrote first client None to first_net net count r = (r.past, r.under.idle.stand.stand.stand)
stood stands sees all ahead core seen wrote first client (Some link) to first_net net count r = (r.past, r.under.hand.idle.stand.stand)
