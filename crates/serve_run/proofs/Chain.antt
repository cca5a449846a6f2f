-- Connections one after another, and what they leave of a net.
use Rattle.std.proofs.Common.{◌≡◌, ℕ, List, [], ◌∷◌, ◌++◌, length, Option, Some, Result, sym, ap, subst, ◌∙◌, refl, append_assoc, arith}
use Rattle.std.proofs.lemmas.List.{append-nil}
use Rattle.std.specs.List.{flat_map}
use Rattle.htx_drive.specs.declared.Ran.{Ran}
use Rattle.htx_drive.specs.declared.SessionFault.{SessionFault}
use Rattle.px_link.specs.Link.{Seen, AsItIs}
use Rattle.px_link.specs.Net.{Place, Coming, Kept, NetSeen, IsNext, IsNew, KeepsMore, kept_link}
use Rattle.serve_run.specs.declared.outcome.Outcome.{Outcome}
use Rattle.serve_run.specs.Lines.{answer_of}
use Rattle.serve_run.specs.Visits.{Leaves}
use Rattle.serve_run.specs.Served.{Connection, ServedOne, Serves}
use Rattle.serve_run.specs.Told.{Visit, Visited, kept_of}
use Rattle.serve_run.proofs.Addresses.{dialled_then}

pub serves_more : {N : Type 0} (One : N → N → Outcome → Type 0) (first : N) (outcomes : List Outcome) (last now : N) (outcome : Outcome)
    → Serves One first outcomes last → One last now outcome → Serves One first (outcomes ++ outcome ∷ []) now
serves_more {N} One first [] last now outcome h one = let P : N → Type 0 = λ n. One n now outcome in (now, subst P (sym h) one, refl)
serves_more One first (x ∷ outcomes) last now outcome h one = (h.0, h.1, serves_more One h.0 outcomes last now outcome h.2 one)

-- ---- what stays

pub leaves_then : (to : Place) (first old new : NetSeen) → Leaves to first old → Leaves to old new → Leaves to first new
leaves_then to first old new h k =
    record {
      lent = k.lent ∙ h.lent;
      plain = k.plain ∙ h.plain;
      bound = k.bound ∙ h.bound;
      dialled = dialled_then first.dialled old.dialled new.dialled to h.dialled k.dialled;
    }

-- ---- what a net tells

-- what one connection did with a net that tells its links
record Step (after : NetSeen) (coming : List Coming) (before : List Kept) : Type 0 where
  visit : Visit
  later : List Coming
  left : List (Option Coming)
  next : coming ≡ visit.coming ∷ later
  accepts : after.accepts ≡ Some later
  answers : after.answers ≡ Some left
  kept : after.kept ≡ Some (before ++ kept_of visit)

pub next_as : (old new : Option (List Coming)) (coming : List Coming) (P : Coming → Type 0) → old ≡ Some coming → IsNext old new P → IsNext (Some coming) new P
next_as old new coming P e h = let Q : Option (List Coming) → Type 0 = λ o. IsNext o new P in subst Q e h

-- behind the links that were kept so stands one more
keeps_as : (old new : Option (List Kept)) (before : List Kept) (wrote : List ℕ → Type 0) (link : Seen) → old ≡ Some before → KeepsMore old new wrote link
    → (bytes : List ℕ) × (new ≡ Some (before ++ kept_link link bytes ∷ []))
keeps_as old new before wrote link e h =
    let Q : Option (List Kept) → Type 0 = λ o. KeepsMore o new wrote link in let k = subst Q e h in (k.0, k.1)

step_told : {L N : Type 0} (seen : L → Seen) (wrote : L → List ℕ → Type 0) (net_seen : N → NetSeen) (does : L → L → N → N → Result Ran SessionFault → Type 0) (to : Place) (before after : N) (result : Result Ran SessionFault)
    (coming : List Coming) (answers : List (Option Coming)) (kept : List Kept)
    → (c : Connection seen wrote net_seen does to before after result)
    → IsNext (Some coming) (net_seen c.lent_net).accepts (IsNew AsItIs (seen c.first) (wrote c.first []))
    → (net_seen before).answers ≡ Some answers → (net_seen before).kept ≡ Some kept → Step (net_seen after) coming kept
step_told seen wrote net_seen does to before after result [] answers kept c first a k = absurd first
step_told seen wrote net_seen does to before after result (link ∷ later) answers kept c first a k =
    let told = c.visits.told answers kept (c.accepted.behind.answers ∙ a) (c.accepted.behind.kept ∙ k) in
    let servers : List Kept = told.1 in
    let one_more = keeps_as (net_seen c.given_net).kept (net_seen after).kept (kept ++ servers) (wrote c.client) (seen c.client) told.3 c.kept.kept in
    let client : Kept = kept_link (seen c.client) one_more.0 in
    record {
      visit = record { coming = link; servers = servers; client = client };
      later = later;
      left = told.0;
      next = refl;
      accepts = c.kept.accepts ∙ c.visits.accepts ∙ first.0;
      answers = c.kept.answers ∙ told.2;
      kept = one_more.1 ∙ ap (λ l. Some l) (append_assoc kept servers (client ∷ []));
    }

pub visited : {L N : Type 0} (seen : L → Seen) (wrote : L → List ℕ → Type 0) (net_seen : N → NetSeen) (does : L → L → N → N → Result Ran SessionFault → Type 0) (to : Place)
    (before : N) (outcomes : List Outcome) (after : N) (coming : List Coming) (answers : List (Option Coming)) (kept : List Kept)
    → Serves (ServedOne seen wrote net_seen does to) before outcomes after
    → (net_seen before).accepts ≡ Some coming → (net_seen before).answers ≡ Some answers → (net_seen before).kept ≡ Some kept
    → Visited (net_seen after) coming kept (length outcomes)
visited seen wrote net_seen does to before [] after coming answers kept h c a k =
    record {
      visits = [];
      later = coming;
      all = refl;
      accepted = refl;
      accepts = ap (λ n. (net_seen n).accepts) (sym h) ∙ c;
      kept = ap (λ n. (net_seen n).kept) (sym h) ∙ k ∙ ap (λ l. Some l) (sym (append-nil kept));
    }
visited seen wrote net_seen does to before (outcome ∷ outcomes) after coming answers kept h c a k =
    let one = h.1 in
    let s = step_told seen wrote net_seen does to before h.0 (answer_of outcome) coming answers kept one (next_as (net_seen before).accepts (net_seen one.lent_net).accepts coming (IsNew AsItIs (seen one.first) (wrote one.first [])) c one.accepted.first) a k in
    let v = visited seen wrote net_seen does to h.0 outcomes after s.later s.left (kept ++ kept_of s.visit) h.2 s.accepts s.answers s.kept in
    record {
      visits = s.visit ∷ v.visits;
      later = v.later;
      all = omega (v.all, arith);
      accepted = s.next ∙ ap (λ l. s.visit.coming ∷ l) v.accepted;
      accepts = v.accepts;
      kept = v.kept ∙ ap (λ l. Some l) (append_assoc kept (kept_of s.visit) (flat_map kept_of v.visits));
    }
