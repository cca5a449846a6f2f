-- What the driver's clauses say of a session's net and of its client's link.
use Rattle.std.proofs.Common.{◌≡◌, ◌≤◌, ℕ, inl, inr, List, [], Option, Some, None, Result, Ok, Err, sym, ap, subst, ◌∙◌, refl}
use Rattle.std.specs.Prelude.{IfOk, IfErr, IsErrOf}
use Rattle.std.proofs.lemmas.List.{append-nil}
use Rattle.std.specs.List.{flat_map}
use Rattle.session_model.specs.Meaning.{Meaning}
use Rattle.session_core.specs.History.{Past, Connect}
use Rattle.px_link.specs.Link.{Seen, Manner, AsItIs, Behind, Asks}
use Rattle.px_link.specs.Net.{Place, Coming, NetSeen}
use Rattle.px_link.specs.Told.{Rose}
use Rattle.fcgi_link.specs.Asked.{Responder, asked_for, asked_answers, answers_through}
use Rattle.px_peer.specs.declared.Pair.{Pair}
use Rattle.px_peer.specs.declared.Peer.{Peer}
use Rattle.px_proxyproto.specs.Meeting.{source_in}
use Rattle.px_proxyproto.specs.Nets.{heading_for, introduced}
use Rattle.px_proxyproto.specs.declared.heading.Heading.{Heading}
use Rattle.htx_drive.specs.Came.{FailsSo}
use Rattle.htx_drive.specs.Driven.{failed_by}
use Rattle.htx_drive.specs.Machine.{CoreSeen}
use Rattle.htx_drive.specs.Dialled.{Dials}
use Rattle.htx_drive.specs.Ran.{RanSo, GaveUp}
use Rattle.htx_drive.specs.Turned.{UpToAFault, turns_up_to}
use Rattle.htx_drive.specs.declared.Ran.{Ran}
use Rattle.htx_drive.specs.declared.SessionFault.{SessionFault}
use Rattle.htx_drive.specs.declared.SessionFault.TheVariants as faults
use Rattle.serve_run.specs.Visits.{Visits, Puts}
use Rattle.serve_run.specs.Drove.{Drove, AsksFirst, NotBegun, DrivesFor, budget}
use Rattle.serve_run.proofs.Manners.{drove_manner}

dials_visits : (to : Place) (first now : NetSeen) (connects : List Connect) → Dials to first now connects → Visits to first now
dials_visits to first now connects d =
    record {
      lent = d.lent;
      plain = d.plain;
      accepts = d.coming.accepts;
      bound = d.coming.bound;
      binds = d.coming.binds;
      dialled = d.dialled;
      told = λ answers kept a k. let t = d.told answers kept a k in (t.left, flat_map (λ dial. dial.kept) t.dials, t.answers, t.kept);
    }

pub visits_none : (to : Place) (net : NetSeen) → Visits to net net
visits_none to net =
    record {
      lent = refl;
      plain = refl;
      accepts = refl;
      bound = refl;
      binds = refl;
      dialled = inl refl;
      told = λ answers kept a k. (answers, [], a, k ∙ ap (λ l. Some l) (sym (append-nil kept)));
    }

pub drove_visits : {Settings C L : Type 0} (meaning : Settings → Meaning) (stands : Settings → C → Past → Type 0) (core_seen : C → CoreSeen) (seen : L → Seen) (wrote : L → List ℕ → Type 0)
    (cfg : Settings) (to : Place) (first client : L) (first_net net : NetSeen) (result : Result Ran SessionFault)
    → Drove meaning stands core_seen seen wrote cfg to first client first_net net result → Visits to first_net net
drove_visits meaning stands core_seen seen wrote cfg to first client first_net net (Ok ran) h = let so = h.1 in dials_visits to first_net net so.past.connects so.dials
drove_visits meaning stands core_seen seen wrote cfg to first client first_net net (Err fault) (inl h) = let so = h.1 in dials_visits to first_net net so.past.connects so.dials
drove_visits meaning stands core_seen seen wrote cfg to first client first_net net (Err fault) (inr h) =
    let P : NetSeen → Type 0 = λ n. Visits to first_net n in subst P (sym h.untouched) (visits_none to first_net)

pub drove_puts : {Settings C L : Type 0} (meaning : Settings → Meaning) (stands : Settings → C → Past → Type 0) (core_seen : C → CoreSeen) (seen : L → Seen) (wrote : L → List ℕ → Type 0)
    (cfg : Settings) (to : Place) (first client : L) (first_net net : NetSeen) (result : Result Ran SessionFault)
    → Drove meaning stands core_seen seen wrote cfg to first client first_net net result → Puts (wrote first) (wrote client)
drove_puts meaning stands core_seen seen wrote cfg to first client first_net net (Ok ran) h = let so = h.1 in (so.past.taken, so.put.wrote)
drove_puts meaning stands core_seen seen wrote cfg to first client first_net net (Err fault) (inl h) = let so = h.1 in (so.past.taken, so.put.wrote)
drove_puts meaning stands core_seen seen wrote cfg to first client first_net net (Err fault) (inr h) =
    ([], λ bytes w. subst (wrote client) (sym (append-nil bytes)) (h.same bytes w))

rose_by : (fault : SessionFault) (first now : Seen) → FailsSo first now (failed_by fault) → fault ≡ faults.ClientWrite → Rose first.write_faults now.write_faults
rose_by fault first now fails e = subst (λ (f : SessionFault). FailsSo first now (failed_by f)) e fails

pub drove_fault : {Settings C L : Type 0} (meaning : Settings → Meaning) (stands : Settings → C → Past → Type 0) (core_seen : C → CoreSeen) (seen : L → Seen) (wrote : L → List ℕ → Type 0)
    (cfg : Settings) (to : Place) (first client : L) (first_net net : NetSeen) (result : Result Ran SessionFault)
    → Drove meaning stands core_seen seen wrote cfg to first client first_net net result → IsErrOf result faults.ClientWrite → Rose (seen first).write_faults (seen client).write_faults
drove_fault meaning stands core_seen seen wrote cfg to first client first_net net (Ok ran) h e = cc
drove_fault meaning stands core_seen seen wrote cfg to first client first_net net (Err fault) (inl h) e =
    let so = h.1 in
    let is : fault ≡ faults.ClientWrite = cc in
    rose_by fault (seen first) (seen client) so.put.fails is
drove_fault meaning stands core_seen seen wrote cfg to first client first_net net (Err fault) (inr h) e =
    let is : fault ≡ faults.ClientWrite = cc in
    let two : faults.OutOfMemory ≡ faults.ClientWrite = sym h.memory ∙ is in
    cc

-- the driver's clauses, as one
pub drove_by : {Settings C L : Type 0} (meaning : Settings → Meaning) (stands : Settings → C → Past → Type 0) (core_seen : C → CoreSeen) (seen : L → Seen) (wrote : L → List ℕ → Type 0)
    (cfg : Settings) (to : Place) (core : C) (first client : L) (first_net net : NetSeen) (result : Result Ran SessionFault)
    → IfOk result (λ ran. RanSo (meaning cfg) (stands cfg core) seen wrote first client to first_net net ran)
    → IfErr result (λ fault. (so : GaveUp (meaning cfg) (stands cfg) core (core_seen core).lost seen wrote first client to first_net net budget fault)
    × (turned : UpToAFault (stands cfg) core_seen [] [] so.past) × (fault ≡ faults.Spent → budget ≤ turns_up_to turned))
    → Drove meaning stands core_seen seen wrote cfg to first client first_net net result
drove_by meaning stands core_seen seen wrote cfg to core first client first_net net (Ok ran) ran_so gave_up = (core, ran_so)
drove_by meaning stands core_seen seen wrote cfg to core first client first_net net (Err fault) ran_so gave_up = inl (core, gave_up.0, gave_up.1, gave_up.2)

-- ---- of a net that was introduced first

-- an introduction changes nothing of which it is said what a session leaves
pub introduced_visits : (heading : Option Heading) (to : Place) (first told now : NetSeen) → told ≡ introduced heading first → Visits to told now → Visits to first now
introduced_visits heading to first told now e v =
    let P : NetSeen → Type 0 = λ n. Visits to n now in
    let w = subst P e v in
    record { lent = w.lent; plain = w.plain; accepts = w.accepts; bound = w.bound; binds = w.binds; dialled = w.dialled; told = w.told }

-- ---- of a net that was asked first

answers_found : (limit : ℕ) (manner : Manner) (old : Option (List (Option Coming))) (answers : List (Option Coming)) → old ≡ Some answers → (found : List (Option Coming)) × (asked_answers limit manner old ≡ Some found)
answers_found limit AsItIs old answers e = (_, ap (answers_through limit) e)
answers_found limit (Behind header manner) old answers e = (_, ap (answers_through limit) e)
answers_found limit (Asks application) old answers e = (answers, e)

-- an application changes nothing else of which it is said what a session leaves
pub asked_visits : (responder : Option Responder) (to : Place) (first now : NetSeen) → Visits to (asked_for responder first) now → Visits to first now
asked_visits None to first now v = v
asked_visits (Some responder) to first now v =
    record {
      lent = v.lent;
      plain = v.plain;
      accepts = v.accepts;
      bound = v.bound;
      binds = v.binds;
      dialled = v.dialled;
      told = λ answers kept a k. let found = answers_found responder.1 first.manner first.answers answers a in v.told found.0 kept found.1 k;
    }

-- what was kept is as it was
pub asked_kept : (responder : Option Responder) (seen : NetSeen) → (asked_for responder seen).kept ≡ seen.kept
asked_kept None seen = refl
asked_kept (Some responder) seen = refl

-- the answers that an asked net has are those of any net with the same ones and the same manner
pub asked_alike : (responder : Option Responder) (old new : NetSeen) → new.answers ≡ old.answers → new.manner ≡ old.manner → (asked_for responder new).answers ≡ (asked_for responder old).answers
asked_alike None old new same manner = same
asked_alike (Some responder) old new same manner = ap (λ (m : Manner). asked_answers responder.1 m new.answers) manner ∙ ap (asked_answers responder.1 old.manner) same

-- what follows of each net that the session may have begun with follows of all
pub asks_then : {L : Type 0} (responder : Option Responder) (seen : L → Seen) (wrote : L → List ℕ → Type 0) (begins client : L) (first_net net : NetSeen) (does : NetSeen → Type 0) (result : Result Ran SessionFault) (Then : Type 0)
    → AsksFirst responder seen wrote begins client first_net net does result → (does (asked_for responder first_net) → Then)
    → ((fault : SessionFault) → result ≡ Err fault → NotBegun seen wrote begins client first_net net fault → Then) → Then
asks_then None seen wrote begins client first_net net does result Then h did not_begun = did h
asks_then (Some responder) seen wrote begins client first_net net does (Ok ran) Then h did not_begun = did h
asks_then (Some responder) seen wrote begins client first_net net does (Err fault) Then (inl h) did not_begun = did h
asks_then (Some responder) seen wrote begins client first_net net does (Err fault) Then (inr h) did not_begun = not_begun fault refl h

-- a session that came to its end began with the net that was asked
pub asks_ran : {L : Type 0} (responder : Option Responder) (seen : L → Seen) (wrote : L → List ℕ → Type 0) (begins client : L) (first_net net : NetSeen) (does : NetSeen → Type 0) (ran : Ran)
    → AsksFirst responder seen wrote begins client first_net net does (Ok ran) → does (asked_for responder first_net)
asks_ran None seen wrote begins client first_net net does ran h = h
asks_ran (Some responder) seen wrote begins client first_net net does ran h = h

-- ---- what a session of a pair leaves

not_begun_visits : {L : Type 0} (seen : L → Seen) (wrote : L → List ℕ → Type 0) (to : Place) (first client : L) (first_net net : NetSeen) (fault : SessionFault) → NotBegun seen wrote first client first_net net fault → Visits to first_net net
not_begun_visits seen wrote to first client first_net net fault h =
    let P : NetSeen → Type 0 = λ n. Visits to first_net n in subst P (sym h.untouched) (visits_none to first_net)

not_begun_puts : {L : Type 0} (seen : L → Seen) (wrote : L → List ℕ → Type 0) (first client : L) (first_net net : NetSeen) (fault : SessionFault) → NotBegun seen wrote first client first_net net fault → Puts (wrote first) (wrote client)
not_begun_puts seen wrote first client first_net net fault h = ([], λ bytes w. subst (wrote client) (sym (append-nil bytes)) (h.same bytes w))

not_begun_fault : {L : Type 0} (seen : L → Seen) (wrote : L → List ℕ → Type 0) (first client : L) (first_net net : NetSeen) (fault : SessionFault) (result : Result Ran SessionFault) → NotBegun seen wrote first client first_net net fault
    → result ≡ Err fault → IsErrOf result faults.ClientWrite → Rose (seen first).write_faults (seen client).write_faults
not_begun_fault seen wrote first client first_net net fault result h is e =
    let fails : fault ≡ faults.ClientWrite = cc in
    let two : faults.OutOfMemory ≡ faults.ClientWrite = sym h.memory ∙ fails in
    cc

pub drives_visits : {Settings C L : Type 0} (meaning : Settings → Meaning) (stands : Settings → C → Past → Type 0) (core_seen : C → CoreSeen) (seen : L → Seen) (wrote : L → List ℕ → Type 0)
    (cfg_for : Option Peer → Settings) (sends_header : Option ℕ) (responder : Option Responder) (to : Place) (pair : Option Pair) (begins client : L) (first_net net : NetSeen) (result : Result Ran SessionFault)
    → DrivesFor meaning stands core_seen seen wrote cfg_for sends_header responder to pair begins client first_net net result → Visits to first_net net
drives_visits meaning stands core_seen seen wrote cfg_for sends_header responder to pair begins client first_net net result h =
    let heading = heading_for sends_header pair in
    let does : NetSeen → Type 0 = λ n. Drove meaning stands core_seen seen wrote (cfg_for (source_in pair)) to begins client (introduced heading n) net result in
    asks_then responder seen wrote begins client first_net net does result (Visits to first_net net) h
    (λ d. asked_visits responder to first_net net
    (introduced_visits heading to (asked_for responder first_net) (introduced heading (asked_for responder first_net)) net refl
    (drove_visits meaning stands core_seen seen wrote (cfg_for (source_in pair)) to begins client (introduced heading (asked_for responder first_net)) net result d)))
    (λ fault is n. not_begun_visits seen wrote to begins client first_net net fault n)

pub drives_puts : {Settings C L : Type 0} (meaning : Settings → Meaning) (stands : Settings → C → Past → Type 0) (core_seen : C → CoreSeen) (seen : L → Seen) (wrote : L → List ℕ → Type 0)
    (cfg_for : Option Peer → Settings) (sends_header : Option ℕ) (responder : Option Responder) (to : Place) (pair : Option Pair) (begins client : L) (first_net net : NetSeen) (result : Result Ran SessionFault)
    → DrivesFor meaning stands core_seen seen wrote cfg_for sends_header responder to pair begins client first_net net result → Puts (wrote begins) (wrote client)
drives_puts meaning stands core_seen seen wrote cfg_for sends_header responder to pair begins client first_net net result h =
    let heading = heading_for sends_header pair in
    let does : NetSeen → Type 0 = λ n. Drove meaning stands core_seen seen wrote (cfg_for (source_in pair)) to begins client (introduced heading n) net result in
    asks_then responder seen wrote begins client first_net net does result (Puts (wrote begins) (wrote client)) h
    (λ d. drove_puts meaning stands core_seen seen wrote (cfg_for (source_in pair)) to begins client (introduced heading (asked_for responder first_net)) net result d)
    (λ fault is n. not_begun_puts seen wrote begins client first_net net fault n)

pub drives_manner : {Settings C L : Type 0} (meaning : Settings → Meaning) (stands : Settings → C → Past → Type 0) (core_seen : C → CoreSeen) (seen : L → Seen) (wrote : L → List ℕ → Type 0)
    (cfg_for : Option Peer → Settings) (sends_header : Option ℕ) (responder : Option Responder) (to : Place) (pair : Option Pair) (begins client : L) (first_net net : NetSeen) (result : Result Ran SessionFault)
    → DrivesFor meaning stands core_seen seen wrote cfg_for sends_header responder to pair begins client first_net net result → (seen client).manner ≡ (seen begins).manner
drives_manner meaning stands core_seen seen wrote cfg_for sends_header responder to pair begins client first_net net result h =
    let heading = heading_for sends_header pair in
    let does : NetSeen → Type 0 = λ n. Drove meaning stands core_seen seen wrote (cfg_for (source_in pair)) to begins client (introduced heading n) net result in
    asks_then responder seen wrote begins client first_net net does result ((seen client).manner ≡ (seen begins).manner) h
    (λ d. drove_manner meaning stands core_seen seen wrote (cfg_for (source_in pair)) to begins client (introduced heading (asked_for responder first_net)) net result d)
    (λ fault is n. ap (λ (s : Seen). s.manner) n.closed)

pub drives_fault : {Settings C L : Type 0} (meaning : Settings → Meaning) (stands : Settings → C → Past → Type 0) (core_seen : C → CoreSeen) (seen : L → Seen) (wrote : L → List ℕ → Type 0)
    (cfg_for : Option Peer → Settings) (sends_header : Option ℕ) (responder : Option Responder) (to : Place) (pair : Option Pair) (begins client : L) (first_net net : NetSeen) (result : Result Ran SessionFault)
    → DrivesFor meaning stands core_seen seen wrote cfg_for sends_header responder to pair begins client first_net net result
    → IsErrOf result faults.ClientWrite → Rose (seen begins).write_faults (seen client).write_faults
drives_fault meaning stands core_seen seen wrote cfg_for sends_header responder to pair begins client first_net net result h e =
    let heading = heading_for sends_header pair in
    let does : NetSeen → Type 0 = λ n. Drove meaning stands core_seen seen wrote (cfg_for (source_in pair)) to begins client (introduced heading n) net result in
    asks_then responder seen wrote begins client first_net net does result (Rose (seen begins).write_faults (seen client).write_faults) h
    (λ d. drove_fault meaning stands core_seen seen wrote (cfg_for (source_in pair)) to begins client (introduced heading (asked_for responder first_net)) net result d e)
    (λ fault is n. not_begun_fault seen wrote begins client first_net net fault result n is e)
