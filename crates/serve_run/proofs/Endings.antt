-- How serving ends.
use Rattle.std.proofs.Common.{◌≡◌, ℕ, ◌<◌, inl, inr, List, [], ◌++◌, length, Option, Some, Result, Ok, Err, sym, ap, subst, ◌∙◌, refl}
use Rattle.std.proofs.lemmas.List.{append-nil}
use Rattle.px_link.specs.declared.fault.Fault.TheVariants as faults
use Rattle.px_link.specs.Told.{Rose, Gains, GainsFront}
use Rattle.htx_drive.specs.declared.Ran.{Ran}
use Rattle.htx_drive.specs.declared.SessionFault.{SessionFault}
use Rattle.px_link.specs.Link.{Seen}
use Rattle.px_link.specs.Net.{Place, Coming, Kept, NetSeen, AcceptFailed, Binds}
use Rattle.serve_run.specs.declared.outcome.Outcome.{Outcome}
use Rattle.serve_run.specs.Lines.{lines_from, net_line}
use Rattle.serve_run.specs.Served.{ServedOne, Serves, ServedAll, NetFails, Breaks}
use Rattle.serve_run.specs.Told.{Visited}
use Rattle.serve_run.proofs.Chain.{visited}
use Rattle.serve_run.proofs.Outputs.{gains_none, gains_as, front_then, front_as}

pub rose_from : (a b c : ℕ) → b ≡ a → Rose b c → Rose a c
rose_from a b c e h = let P : ℕ → Type 0 = λ n. Rose n c in subst P e h

-- ---- what is written where the net fails

seam : (outcomes : List Outcome) → (lines_from 1 outcomes ++ []) ++ net_line ≡ lines_from 1 outcomes ++ net_line
seam outcomes = ap (λ l. l ++ net_line) (append-nil (lines_from 1 outcomes))

pub net_front : {N : Type 0} (net_seen : N → NetSeen) (One : N → N → Outcome → Type 0) (Lost : N → N → Type 0) (at : Place) (count : ℕ) (first now : N) (old mid new : Option (List ℕ))
    → NetFails net_seen One at count [] first now old mid → GainsFront mid new net_line → Breaks net_seen One Lost at count first now old new
net_front net_seen One Lost at count first now old mid new h g =
    inr (inl (record {
      outcomes = h.outcomes;
      fails = h.fails;
      rose = h.rose;
      written = front_as old new ((lines_from 1 h.outcomes ++ []) ++ net_line) (lines_from 1 h.outcomes ++ net_line) (seam h.outcomes) (front_then old mid new (lines_from 1 h.outcomes ++ []) net_line h.written g);
    }))

-- a connection, or more, and then an accept that failed
pub net_behind : {N : Type 0} (net_seen : N → NetSeen) (One : N → N → Outcome → Type 0) (at : Place) (count : ℕ) (first bound now : N) (old new : Option (List ℕ))
    → Binds (net_seen first) (net_seen bound) at (Ok tt) → Rose (net_seen bound).bind_faults (net_seen now).bind_faults
    → (outcomes : List Outcome) → length outcomes < count → (last : N) → Serves One bound outcomes last → AcceptFailed (net_seen last) (net_seen now)
    → Gains old new (lines_from 1 outcomes) → NetFails net_seen One at count [] first now old new
net_behind net_seen One at count first bound now old new b rose outcomes fewer last serves failed written =
    record {
      outcomes = outcomes;
      fails = inr (fewer, last, (bound, b, serves), failed);
      rose = rose_from (net_seen first).bind_faults (net_seen bound).bind_faults (net_seen now).bind_faults b.binds rose;
      written = gains_as old new (lines_from 1 outcomes) (lines_from 1 outcomes ++ []) (sym (append-nil (lines_from 1 outcomes))) written;
    }

-- a bind that failed, of which nothing was written yet
pub bind_breaks : {N : Type 0} (net_seen : N → NetSeen) (One : N → N → Outcome → Type 0) (Lost : N → N → Type 0) (at : Place) (count : ℕ) (first now : N) (old : Option (List ℕ))
    → Binds (net_seen first) (net_seen now) at (Err faults.Failed) → Breaks net_seen One Lost at count first now old old
bind_breaks net_seen One Lost at count first now old b =
    inr (inl (record { outcomes = []; fails = inl (b, refl); rose = b.rose; written = ([], net_line, refl, gains_none old) }))

-- ---- what a net tells of it

pub all_visited : {L N : Type 0} (seen : L → Seen) (wrote : L → List ℕ → Type 0) (net_seen : N → NetSeen) (does : L → L → N → N → Result Ran SessionFault → Type 0) (to : Place)
    (at : Place) (count : ℕ) (first now : N) (old new : Option (List ℕ)) (coming : List Coming) (answers : List (Option Coming)) (kept : List Kept)
    → ServedAll net_seen (ServedOne seen wrote net_seen does to) at count first now old new
    → (net_seen first).accepts ≡ Some coming → (net_seen first).answers ≡ Some answers → (net_seen first).kept ≡ Some kept → Visited (net_seen now) coming kept count
all_visited seen wrote net_seen does to at count first now old new coming answers kept h a b k =
    let bound = h.reached.0 in
    let beside = h.reached.1.beside in
    let v = visited seen wrote net_seen does to bound h.outcomes now coming answers kept h.reached.2 (beside.accepts ∙ a) (beside.answers ∙ b) (beside.kept ∙ k) in
    let P : ℕ → Type 0 = λ n. Visited (net_seen now) coming kept n in
    subst P h.all v
