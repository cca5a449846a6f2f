-- What a meeting leaves of a link, and what is done with one that isn't heard.
use Rattle.std.proofs.Common.{◌≡◌, ℕ, Bool, true, false, List, [], ◌++◌, Option, Some, Result, Ok, sym, ap, subst, ◌∙◌, refl}
use Rattle.std.specs.Prelude.{IfSome}
use Rattle.std.proofs.lemmas.List.{append-nil}
use Rattle.session_model.specs.Meaning.{Meaning}
use Rattle.px_link.specs.Link.{Seen}
use Rattle.px_link.specs.Net.{Place, Coming, Kept, NetSeen}
use Rattle.px_link.specs.Told.{Rose}
use Rattle.px_peer.specs.declared.Pair.{Pair}
use Rattle.px_proxyproto.specs.Meeting.{Meets}
use Rattle.px_proxyproto.specs.Nets.{heading_for, introduced}
use Rattle.fcgi_link.specs.Asked.{Responder, asked_for}
use Rattle.px_proxyproto.specs.declared.meeting.Met.{Met}
use Rattle.px_proxyproto.specs.declared.meeting.Met.TheVariants as met
use Rattle.htx_drive.specs.Headline.{IsSessionOf}
use Rattle.htx_drive.specs.declared.Ran.{Ran}
use Rattle.htx_drive.specs.declared.SessionFault.{SessionFault}
use Rattle.serve_run.specs.Headline.{IsOwn, ServedAsTold}
use Rattle.serve_run.specs.Met.{MetSo, ServedAsMet, TurnedAway}
use Rattle.serve_run.specs.Visits.{Puts}

-- a meeting writes nothing
pub meets_writes : {L : Type 0} (tells : L → Option Pair → Type 0) (accepts_header : Bool) (link : L) (old new : Seen) (how : Met) → Meets tells accepts_header link old new how → new.write_faults ≡ old.write_faults
meets_writes tells true link old new (met.Caller pair) h = h.1.writes
meets_writes tells true link old new met.Refused h = h.1.writes
meets_writes tells false link old new (met.Caller pair) h = ap (λ (s : Seen). s.write_faults) h.1
meets_writes tells false link old new met.Refused h = absurd h

pub rose_behind : {L : Type 0} (tells : L → Option Pair → Type 0) (accepts_header : Bool) (seen : L → Seen) (wrote : L → List ℕ → Type 0) (first begins : L) (how : Met) (now : ℕ)
    → MetSo tells accepts_header seen wrote first begins how → Rose (seen begins).write_faults now → Rose (seen first).write_faults now
rose_behind tells accepts_header seen wrote first begins how now so rose =
    subst (λ (n : ℕ). Rose n now) (meets_writes tells accepts_header first (seen first) (seen begins) how so.meets) rose

pub puts_behind : {L : Type 0} (tells : L → Option Pair → Type 0) (accepts_header : Bool) (seen : L → Seen) (wrote : L → List ℕ → Type 0) (first begins client : L) (how : Met)
    → MetSo tells accepts_header seen wrote first begins how → Puts (wrote begins) (wrote client) → Puts (wrote first) (wrote client)
puts_behind tells accepts_header seen wrote first begins client how so puts = (puts.0, λ bytes w. puts.1 bytes (so.written bytes w))

pub turned_puts : {L : Type 0} (seen : L → Seen) (wrote : L → List ℕ → Type 0) (begins client : L) (first_net net : NetSeen) (ran : Ran)
    → TurnedAway seen wrote begins client first_net net ran → Puts (wrote begins) (wrote client)
turned_puts seen wrote begins client first_net net ran t = ([], λ bytes w. subst (wrote client) (sym (append-nil bytes)) (t.written bytes w))

-- ---- what is told of a link that was met

pub meets_ending : {L : Type 0} (tells : L → Option Pair → Type 0) (accepts_header : Bool) (link : L) (old new : Seen) (how : Met) → Meets tells accepts_header link old new how → new.ending ≡ old.ending
meets_ending tells true link old new (met.Caller pair) h = h.1.kind.ending
meets_ending tells true link old new met.Refused h = h.1.kind.ending
meets_ending tells false link old new (met.Caller pair) h = ap (λ (s : Seen). s.ending) h.1
meets_ending tells false link old new met.Refused h = absurd h

-- of a caller's stream this is its own
own_of : {L : Type 0} (tells : L → Option Pair → Type 0) (accepts_header : Bool) (link : L) (old new : Seen) (pair : Option Pair) (all : List ℕ)
    → Meets tells accepts_header link old new (met.Caller pair) → old.to_come ≡ Some all → (own : List ℕ) × IsOwn accepts_header (tells link) all own pair × (new.to_come ≡ Some own)
own_of tells true link old new pair all h e =
    let next = subst (λ (o : Option (List ℕ)). IfSome o (λ bytes. (rest : List ℕ) × (bytes ≡ h.0 ++ rest) × (new.to_come ≡ Some rest))) e h.1.next in
    (next.0, record { header = h.0; whole = next.1; is = h.3 }, next.2)
own_of tells false link old new pair all h e = (all, (refl, h.0), ap (λ (s : Seen). s.to_come) h.1 ∙ e)

pub served_as_told : {L : Type 0} (M : Option Pair → Meaning) (tells : L → Option Pair → Type 0) (accepts_header : Bool) (sends_header : Option ℕ) (responder : Option Responder) (seen : L → Seen) (wrote : L → List ℕ → Type 0)
    (serves : Option Pair → L → L → NetSeen → NetSeen → Result Ran SessionFault → Type 0) (to : Place) (first begins client : L) (first_net net : NetSeen) (link : Coming) (answers : List (Option Coming)) (kept : List Kept) (ran : Ran) (how : Met)
    → ((pair : Option Pair) (own : List ℕ) → (seen begins).to_come ≡ Some own → serves pair begins client first_net net (Ok ran)
    → IsSessionOf (M pair) seen wrote begins client to (introduced (heading_for sends_header pair) (asked_for responder first_net)) net ran own link.ending answers kept)
    → (seen first).to_come ≡ Some link.bytes → MetSo tells accepts_header seen wrote first begins how → ServedAsMet seen wrote serves how begins client first_net net (Ok ran)
    → ServedAsTold M (tells first) accepts_header sends_header responder seen wrote to begins client first_net net link answers kept ran how
served_as_told M tells accepts_header sends_header responder seen wrote serves to first begins client first_net net link answers kept ran (met.Caller pair) law e so s =
    let o = own_of tells accepts_header first (seen first) (seen begins) pair link.bytes so.meets e in
    record { own = o.0; is_own = o.1; to_come = o.2; session = law pair o.0 o.2 s }
served_as_told M tells accepts_header sends_header responder seen wrote serves to first begins client first_net net link answers kept ran met.Refused law e so t = t
