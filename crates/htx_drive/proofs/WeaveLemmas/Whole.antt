-- Where all connections stand before the first move, where all have ended, and how all are left.
use Rattle.std.proofs.Common.{◌≡◌, ℕ, zero, suc, ◌+◌, ◌*◌, ◌<◌, ◌≤◌, List, [], ◌∷◌, length, replicate, false, Option, Some, None, refl, sym, ap, subst, ◌∙◌, inl, inr, arith, Bool, true}
use Rattle.std.specs.Prelude.{get_or, set, slice_get, Result}
use Rattle.std.specs.List.{AllByRecursion, sum_by}
use Rattle.std.proofs.lemmas.Bool.{false≢true, cases_eq}
use Rattle.std.proofs.lemmas.List.{get_or-replicate, length-replicate}
use Rattle.std.proofs.lemmas.List.Folds.{sum_by-replicate}
use Rattle.std.proofs.lemmas.Option.{slice_get_within}
use Rattle.session_model.specs.Meaning.{Meaning}
use Rattle.session_core.specs.History.{Past}
use Rattle.px_link.specs.declared.turns.Turn.{Turn}
use Rattle.px_link.specs.Link.{Seen}
use Rattle.px_link.specs.Net.{Place, NetSeen}
use Rattle.px_pool.specs.Owners.{has_one, count_out}
use Rattle.px_pool.specs.Seats.{Seats, core_in, core_of, free_in, free_of}
use Rattle.htx_drive.specs.Machine.{CoreSeen}
use Rattle.htx_drive.specs.Replay.Memory.{turns_of}
use Rattle.htx_drive.specs.declared.Ran.{Ran}
use Rattle.htx_drive.specs.declared.SessionFault.{SessionFault}
use Rattle.htx_drive.specs.Weave.State.{IsAt, IsReady, IsFresh, MayMove}
use Rattle.htx_drive.specs.Weave.Rounds.{still_on, unended}
use Rattle.htx_drive.specs.Weave.All.{MayGoOn, AtPlace, AllAt}
use Rattle.htx_drive.specs.Weave.Halted.{Halted, AllHalted}
use Rattle.htx_drive.specs.Weave.Outcome.{AreNew, HasEnded, AllEnded, EndedAtOnce, AllEndedAtOnce, LeftAt, AllLeft}
use Rattle.htx_drive.specs.declared.weave.conn.Conn.{Conn}
use Rattle.htx_drive.specs.declared.weave.fault.WeaveFault.{WeaveFault}
use Rattle.htx_drive.specs.declared.weave.fault.WeaveFault.TheVariants as faults
use Rattle.htx_drive.proofs.WeaveLemmas.All.{some_is, set_at, set_length, set_past}
use Rattle.htx_drive.proofs.WeaveLemmas.Rounds.{has_ended}
use Rattle.htx_drive.proofs.WeaveLemmas.Counts.{held_none}

-- ---- no core is out

none_has : (number : ℕ) (owners : List (Option ℕ)) → count_out owners ≡ 0 → has_one number owners ≡ false
none_has number [] e = refl
none_has number (None ∷ owners) e = none_has number owners (omega (arith, e))
none_has number (Some owner ∷ owners) e = absurd (omega (arith, e))

none_core : {C : Type 0} (number : ℕ) (owners : List (Option ℕ)) (cores : List C) → count_out owners ≡ 0 → core_in number owners cores ≡ None
none_core number [] cores e = refl
none_core number (None ∷ owners) [] e = refl
none_core number (None ∷ owners) (core ∷ cores) e = none_core number owners cores (omega (arith, e))
none_core number (Some owner ∷ owners) cores e = absurd (omega (arith, e))

some_owner : {C : Type 0} (owners : List (Option ℕ)) (cores : List C) → 0 < length (free_in owners cores) → 0 < length owners
some_owner [] cores h = h
some_owner (owner ∷ owners) cores h = omega arith

-- ---- before the first move

new_at : {L N : Type 0} (conns : List (Conn L N)) (place : ℕ) (conn : Conn L N) → AreNew conns → slice_get conns place ≡ Some conn → (conn.server ≡ None) × (conn.ran ≡ None)
new_at [] place conn all e = absurd (no_some e)
  where
    no_some : None ≡ Some conn → ⊥
    no_some e = cc
new_at {L = L} {N = N} (first ∷ conns) zero conn all e = subst (λ (x : Conn L N). (x.server ≡ None) × (x.ran ≡ None)) (same e) all.0
  where
    same : Some first ≡ Some conn → first ≡ conn
    same e = cc
new_at (first ∷ conns) (suc place) conn all e = new_at conns place conn all.1 e

module _ {C L N : Type 0} (sees : C → CoreSeen) (sound : C → Type 0) (sees_net : N → NetSeen) (pool : Seats C) (conns : List (Conn L N)) where
  pub may_begin : 0 < length (free_of pool) → count_out pool.owners ≡ 0 → AllByRecursion (IsReady sees sound) (free_of pool) → AreNew conns → MayGoOn sees sound sees_net pool conns
  may_begin some none ready new =
      record {
        some = some_owner pool.owners pool.cores some;
        ready = ready;
        counts = none ∙ sym (held_none pool.owners (length conns) (λ number. none_has number pool.owners none));
        seated = λ number has. absurd (false≢true (sym (none_has number pool.owners none) ∙ has));
        may = λ place conn is.
            let n = new_at conns place conn new is in
            let P : Option C → Type 0 = λ o. MayMove sees sound conn.server (sees_net conn.net).lent conn.ran o in
            let Q : Option (Result Ran SessionFault) → Type 0 = λ r. MayMove sees sound conn.server (sees_net conn.net).lent r None in
            subst P (sym (none_core (suc place) pool.owners pool.cores none)) (subst Q (sym n.1) n.0);
      }

module _ {C L N : Type 0} (M : Meaning) (stands : C → Past → Type 0) (sees : C → CoreSeen) (sound : C → Type 0) (seen : L → Seen) (wrote : L → List ℕ → Type 0) (sees_net : N → NetSeen) (to : Place) (prompt : Bool) (turns : List (ℕ × Turn)) where
  begins : (pool : Seats C) (first conn : Conn L N) (number count : ℕ) → first ≡ conn → count ≡ 0 → conn.server ≡ None → conn.ran ≡ None → core_of number pool ≡ None
      → AtPlace M stands sees sound seen wrote sees_net to prompt turns turns first conn pool number count
  begins pool first conn number count same none server ran core =
      let P : Option (Result Ran SessionFault) → Option C → Type 0 = λ r o. IsAt M stands sees sound prompt (turns_of number turns) (turns_of number turns) seen wrote first.client conn.client conn.server to (sees_net first.net) (sees_net conn.net) r o count in
      subst (λ (r : Option (Result Ran SessionFault)). P r (core_of number pool)) (sym ran) (subst (λ (o : Option C). P None o) (sym core) (record {
        waited = 0;
        at_once = λ e. refl;
        left = refl;
        same_client = sym (ap (λ (x : Conn L N). x.client) same);
        same_net = sym (ap (λ (x : Conn L N). sees_net x.net) same);
        no_server = server;
        paid_none = none;
      }))

  pub all_begin : (pool : Seats C) (conns : List (Conn L N)) (budget : ℕ) → (prompt ≡ true → length conns ≤ length pool.owners) → count_out pool.owners ≡ 0 → AreNew conns → AllByRecursion (IsFresh stands) (free_of pool)
      → AllAt M stands sees sound seen wrote sees_net to prompt turns turns conns conns pool budget budget
  all_begin pool conns budget room none new fresh =
      let summed : sum_by (λ (n : ℕ). n) (replicate (length conns) 0) ≡ length conns * 0 = sum_by-replicate (λ (n : ℕ). n) (length conns) 0 in
      record {
        counts = replicate (length conns) 0;
        room = room;
        as_many = refl;
        counted = length-replicate (length conns) 0;
        each = λ place first conn hf hc.
            let n = new_at conns place conn new hc in
            begins pool first conn (suc place) (get_or (replicate (length conns) 0) place 0) (some_is (slice_get conns place) first conn hf hc) (get_or-replicate (length conns) place 0 0 (slice_get_within conns place conn hc)) n.0 n.1
            (none_core (suc place) pool.owners pool.cores none);
        paid = omega (arith, summed);
        fresh = fresh;
      }

  -- ---- all have ended

  is_done : (first conn : Conn L N) (number count : ℕ) (left : List (ℕ × Turn)) (ran : Option (Result Ran SessionFault)) (held : Option C) → conn.ran ≡ ran → still_on ran ≡ 0
      → IsAt M stands sees sound prompt (turns_of number turns) (turns_of number left) seen wrote first.client conn.client conn.server to (sees_net first.net) (sees_net conn.net) ran held count
      → HasEnded M stands sees (turns_of number turns) seen wrote sees_net to first conn
  is_done first conn number count left None held is e at = absurd (omega (arith, e))
  is_done first conn number count left (Some ran) None is e at = record { ran = ran; is = is; count = count; done = at.0 }
  is_done first conn number count left (Some ran) (Some core) is e at = absurd at

  pub all_done : (left : List (ℕ × Turn)) (firsts conns : List (Conn L N)) (pool : Seats C) (budget spare : ℕ) → unended conns ≡ 0 → AllAt M stands sees sound seen wrote sees_net to prompt turns left firsts conns pool budget spare
      → AllEnded M stands sees seen wrote sees_net to turns firsts conns
  all_done left firsts conns pool budget spare none all = λ place first conn hf hc.
      is_done first conn (suc place) (get_or all.counts place 0) left conn.ran (core_of (suc place) pool) refl (has_ended conns place conn none hc) (all.each place first conn hf hc)

  done_at_once : (first conn : Conn L N) (number count : ℕ) (left : List (ℕ × Turn)) (ran : Option (Result Ran SessionFault)) (held : Option C) → prompt ≡ true → conn.ran ≡ ran → still_on ran ≡ 0
      → IsAt M stands sees sound prompt (turns_of number turns) (turns_of number left) seen wrote first.client conn.client conn.server to (sees_net first.net) (sees_net conn.net) ran held count
      → EndedAtOnce M stands sees (turns_of number turns) seen wrote sees_net to first conn
  done_at_once first conn number count left None held once is e at = absurd (omega (arith, e))
  done_at_once first conn number count left (Some ran) None once is e at = record { ended = record { ran = ran; is = is; count = count; done = at.0 }; at_once = at.1 once }
  done_at_once first conn number count left (Some ran) (Some core) once is e at = absurd at

  pub all_at_once : (left : List (ℕ × Turn)) (firsts conns : List (Conn L N)) (pool : Seats C) (budget spare : ℕ) → prompt ≡ true → unended conns ≡ 0 → AllAt M stands sees sound seen wrote sees_net to prompt turns left firsts conns pool budget spare
      → AllEndedAtOnce M stands sees seen wrote sees_net to turns firsts conns
  all_at_once left firsts conns pool budget spare once none all = λ place first conn hf hc.
      done_at_once first conn (suc place) (get_or all.counts place 0) left conn.ran (core_of (suc place) pool) once refl (has_ended conns place conn none hc) (all.each place first conn hf hc)

-- ---- how all are left

module _ {Settings C L N : Type 0} (meaning : Settings → Meaning) (stands : Settings → C → Past → Type 0) (sees : C → CoreSeen) (seen : L → Seen) (wrote : L → List ℕ → Type 0) (sees_net : N → NetSeen) where
  -- whatever it is, it is left
  pub record Leaves (was conn : Conn L N) : Type 0 where
    pub so : (cfg : Settings) (turns : List Turn) (count : ℕ) (first : L) (to : Place) (first_net : N) → Halted (meaning cfg) (stands cfg) sees turns seen wrote first was.client was.server to (sees_net first_net) (sees_net was.net) was.ran count
        → LeftAt (meaning cfg) (stands cfg) sees turns seen wrote first conn.client conn.server to (sees_net first_net) (sees_net conn.net) conn.ran count

  -- those up to this place were left, and the others are as they were
  pub record LeftUpTo (places : ℕ) (were conns : List (Conn L N)) : Type 0 where
    pub as_many : length conns ≡ length were
    pub left : (place : ℕ) (conn : Conn L N) → place < places → slice_get conns place ≡ Some conn → (was : Conn L N) × (slice_get were place ≡ Some was) × Leaves was conn
    pub same : (place : ℕ) (conn : Conn L N) → places ≤ place → slice_get conns place ≡ Some conn → slice_get were place ≡ Some conn

  pub none_left_yet : (conns : List (Conn L N)) → LeftUpTo 0 conns conns
  none_left_yet conns = record { as_many = refl; left = λ place conn h. absurd (omega (arith, h)); same = λ place conn h e. e }

  pub one_more_left : (place : ℕ) (were conns : List (Conn L N)) (was conn : Conn L N) → place < length conns → slice_get conns place ≡ Some was → Leaves was conn → LeftUpTo place were conns → LeftUpTo (place + 1) were (set conns place conn)
  one_more_left place were conns was conn within is one up =
      record {
        as_many = set_length conns place conn ∙ up.as_many;
        left = λ other x h hx. elim (cases_eq other place) [
          | inl e ↦ (
              let hat : slice_get (set conns place conn) place ≡ Some x = subst (λ (n : ℕ). slice_get (set conns place conn) n ≡ Some x) e hx in
              let P : ℕ → Type 0 = λ n. (y : Conn L N) × (slice_get were n ≡ Some y) × Leaves y x in
              let Q : Conn L N → Type 0 = λ z. Leaves was z in
              subst P (sym e) (was, up.same place was (omega arith) is, subst Q (sym (set_at conns place conn x within hat)) one))
          | inr ne ↦ up.left other x (omega (arith, h, ne)) (set_past conns place other conn x ne hx)
        ];
        same = λ other x h hx. up.same other x (omega (arith, h)) (set_past conns place other conn x (λ e. past other e h) hx);
      }
    where
      past : (other : ℕ) → other ≡ place → place + 1 ≤ other → ⊥
      past other e h = omega (arith, e, h)

  pub all_left : (places : ℕ) (were conns : List (Conn L N)) (cfg : Settings) (to : Place) (turns : List (ℕ × Turn)) (firsts : List (Conn L N)) (budget spare : ℕ) (fault : WeaveFault) → places ≡ length conns → LeftUpTo places were conns
      → (fault ≡ faults.Spent → spare ≡ 0) → AllHalted (meaning cfg) (stands cfg) sees seen wrote sees_net to turns firsts were budget spare
      → AllLeft (meaning cfg) (stands cfg) sees seen wrote sees_net to turns firsts conns budget fault
  all_left places were conns cfg to turns firsts budget spare fault e up spent all =
      let paid = all.paid in
      record {
        counts = all.counts;
        counted = all.counted ∙ sym up.as_many;
        each = λ place first conn hf hc.
            let l = up.left place conn (subst (λ (n : ℕ). place < n) (sym e) (slice_get_within conns place conn hc)) hc in
            l.2.so cfg (turns_of (suc place) turns) (get_or all.counts place 0) first.client to first.net (all.each place first l.0 hf l.1);
        within = omega (arith, paid);
        spent = λ f. let none = spent f in omega (arith, paid, none);
      }
