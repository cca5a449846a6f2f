-- Behind a fault of one move each connection may be left.
use Rattle.std.proofs.Common.{◌≡◌, ◌≢◌, ℕ, suc, ◌+◌, ◌<◌, List, length, Option, Some, None, sym, subst, ◌∙◌, inl, inr, Bool}
use Rattle.std.specs.Prelude.{get_or, set, slice_get, Result}
use Rattle.std.proofs.lemmas.Bool.{cases_eq}
use Rattle.std.proofs.lemmas.List.{get_or-set_same, get_or-set_other}
use Rattle.session_model.specs.Meaning.{Meaning}
use Rattle.session_core.specs.History.{Past}
use Rattle.px_link.specs.declared.turns.Turn.{Turn}
use Rattle.px_link.specs.Link.{Seen}
use Rattle.px_link.specs.Net.{Place, NetSeen}
use Rattle.px_pool.specs.Seats.{Seats, core_of}
use Rattle.htx_drive.specs.Machine.{CoreSeen}
use Rattle.htx_drive.specs.Replay.Memory.{turns_of}
use Rattle.htx_drive.specs.declared.Ran.{Ran}
use Rattle.htx_drive.specs.declared.SessionFault.{SessionFault}
use Rattle.htx_drive.specs.Weave.Woven.{Pays}
use Rattle.htx_drive.specs.Weave.State.{MayMove}
use Rattle.htx_drive.specs.Weave.All.{AllMay, AtPlace, AllAt}
use Rattle.htx_drive.specs.Weave.Halted.{Halted, AllHalted, IsLent, AllLent}
use Rattle.htx_drive.specs.declared.weave.conn.Conn.{Conn}
use Rattle.htx_drive.proofs.WeaveLemmas.Seating.{as_lent}
use Rattle.htx_drive.proofs.WeaveLemmas.All.{some_is, set_at, set_length, set_past, finds, paid_on}
use Rattle.htx_drive.proofs.WeaveLemmas.Halting.{halts}

module _ {C L N : Type 0} (M : Meaning) (stands : C → Past → Type 0) (sees : C → CoreSeen) (sound : C → Type 0) (seen : L → Seen) (wrote : L → List ℕ → Type 0) (sees_net : N → NetSeen) (to : Place) (prompt : Bool) (turns : List (ℕ × Turn)) where
  -- this connection may be left, by its own turns
  abbrev MayLeave : (first conn : Conn L N) → (number count : ℕ) → Type 0
  MayLeave first conn number count = Halted M stands sees (turns_of number turns) seen wrote first.client conn.client conn.server to (sees_net first.net) (sees_net conn.net) conn.ran count

  -- it leads from its place to where it may be left
  abbrev Halts : (left : List (ℕ × Turn)) → (old : Seats C) → (spare next number : ℕ) → (was conn : Conn L N) → Type 0
  Halts left old spare next number was conn = (first : Conn L N) (total : ℕ) → Pays total spare (AtPlace M stands sees sound seen wrote sees_net to prompt turns left first was old number) → Pays total next (MayLeave first conn number)

  same_place : (firsts conns : List (Conn L N)) (counts : List ℕ) (k count : ℕ) (first conn : Conn L N) → k < length conns → k < length counts → slice_get firsts k ≡ Some first → MayLeave first conn (suc k) count
      → (f x : Conn L N) → slice_get firsts k ≡ Some f → slice_get (set conns k conn) k ≡ Some x → MayLeave f x (suc k) (get_or (set counts k count) k 0)
  same_place firsts conns counts k count first conn within counted has so f x hf hx =
      let a : Conn L N → Type 0 = λ z. MayLeave z conn (suc k) count in
      let b : Conn L N → Type 0 = λ z. MayLeave f z (suc k) count in
      let d : ℕ → Type 0 = λ n. MayLeave f x (suc k) n in
      subst d (sym (get_or-set_same counts k count 0 counted)) (subst b (sym (set_at conns k conn x within hx)) (subst a (some_is (slice_get firsts k) first f has hf) so))

  other_place : (left : List (ℕ × Turn)) (old : Seats C) (counts : List ℕ) (k count place : ℕ) (f x : Conn L N) → place ≢ k → AtPlace M stands sees sound seen wrote sees_net to prompt turns left f x old (suc place) (get_or counts place 0)
      → MayLeave f x (suc place) (get_or (set counts k count) place 0)
  other_place left old counts k count place f x ne so =
      let d : ℕ → Type 0 = λ n. MayLeave f x (suc place) n in
      subst d (sym (get_or-set_other counts k place count 0 ne))
      (halts M stands sees (turns_of (suc place) turns) seen wrote f.client to (sees_net f.net) sound prompt (turns_of (suc place) left) x.client x.server (sees_net x.net) x.ran (core_of (suc place) old) (get_or counts place 0) so)

  halts_all : (left : List (ℕ × Turn)) (firsts conns : List (Conn L N)) (old : Seats C) (budget spare next k : ℕ) (was conn : Conn L N) → slice_get conns k ≡ Some was → Halts left old spare next (suc k) was conn
      → AllAt M stands sees sound seen wrote sees_net to prompt turns left firsts conns old budget spare → AllHalted M stands sees seen wrote sees_net to turns firsts (set conns k conn) budget next
  halts_all left firsts conns old budget spare next k was conn is one all =
      let found = finds M stands sees sound seen wrote sees_net to prompt turns left firsts conns old budget spare k was is all in
      let as_counted : length all.counts ≡ length conns = all.counted in
      let p = one found.first (get_or all.counts k 0 + spare) found.at in
      record {
        counts = set all.counts k p.count;
        counted = set_length all.counts k p.count ∙ as_counted ∙ sym (set_length conns k conn);
        each = λ place f x hf hx. elim (cases_eq place k) [
          | inl e ↦ (
              let P : ℕ → Type 0 = λ n. slice_get firsts n ≡ Some f → slice_get (set conns k conn) n ≡ Some x → MayLeave f x (suc n) (get_or (set all.counts k p.count) n 0) in
              subst P (sym e) (same_place firsts conns all.counts k p.count found.first conn found.within found.counted found.has p.so f x) hf hx)
          | inr ne ↦ other_place left old all.counts k p.count place f x ne (all.each place f x hf (set_past conns k place conn x ne hx))
        ];
        paid = paid_on all.counts k p.count spare next budget found.counted p.is all.paid;
      }

  -- of the connection of this number
  pub halts_at : (left : List (ℕ × Turn)) (firsts conns : List (Conn L N)) (old : Seats C) (budget spare next number k : ℕ) (was conn : Conn L N) → number ≡ suc k → slice_get conns k ≡ Some was → Halts left old spare next number was conn
      → AllAt M stands sees sound seen wrote sees_net to prompt turns left firsts conns old budget spare → AllHalted M stands sees seen wrote sees_net to turns firsts (set conns k conn) budget next
  halts_at left firsts conns old budget spare next number k was conn e is =
      let P : ℕ → Type 0 = λ n. Halts left old spare next n was conn → AllAt M stands sees sound seen wrote sees_net to prompt turns left firsts conns old budget spare → AllHalted M stands sees seen wrote sees_net to turns firsts (set conns k conn) budget next in
      subst P (sym e) (halts_all left firsts conns old budget spare next k was conn is)

-- their open servers were lent
module _ {C L N : Type 0} (sees : C → CoreSeen) (sound : C → Type 0) (sees_net : N → NetSeen) where
  may_lent : (conn : Conn L N) (held : Option C) → conn.ran ≡ None → MayMove sees sound conn.server (sees_net conn.net).lent conn.ran held → IsLent conn.server (sees_net conn.net).lent
  may_lent conn held e h =
      let P : Option (Result Ran SessionFault) → Type 0 = λ r. MayMove sees sound conn.server (sees_net conn.net).lent r held in
      as_lent sees sound conn.server (sees_net conn.net).lent held (subst P e h)

  pub lent_all : (old : Seats C) (conns : List (Conn L N)) (k : ℕ) (conn : Conn L N) → k < length conns → IsLent conn.server (sees_net conn.net).lent → AllMay sees sound sees_net old conns → AllLent sees_net (set conns k conn)
  lent_all old conns k conn within one all = λ place x hx none. elim (cases_eq place k) [
    | inl e ↦ (let at : slice_get (set conns k conn) k ≡ Some x = subst (λ (n : ℕ). slice_get (set conns k conn) n ≡ Some x) e hx in
        subst (λ (y : Conn L N). IsLent y.server (sees_net y.net).lent) (sym (set_at conns k conn x within at)) one)
    | inr ne ↦ may_lent x (core_of (suc place) old) none (all place x (set_past conns k place conn x ne hx))
  ]
