-- Connections over links in memory don't spend a budget that is enough for all.
use Rattle.std.proofs.Common.{◌≡◌, ℕ, suc, ◌<◌, ◌≤◌, List, length, map, true, false, Bool, refl, inl, inr, Option, Some, None, drop, ap, subst, ◌∙◌, arith}
use Rattle.std.specs.Prelude.{get_or, sum_by, Result, Ok, Err}
use Rattle.std.proofs.lemmas.Option.{slice_get_within, get_or_from_slice_get}
use Rattle.std.proofs.lemmas.Slice.Zip.{AllZip-long}
use Rattle.session_model.specs.Meaning.{Meaning}
use Rattle.session_core.specs.History.{Past}
use Rattle.px_link.specs.Link.{Seen}
use Rattle.px_link.specs.Net.{Place, NetSeen}
use Rattle.px_link.specs.MemLink.{link_of}
use Rattle.px_link.specs.declared.turns.Turn.{Turn}
use Rattle.rec_format.specs.Recorded.{Visit}
use Rattle.rec_format.specs.Read.{visits}
use Rattle.rec_format.specs.declared.record.Connection.{Connection}
use Rattle.htx_drive.specs.Machine.{CoreSeen}
use Rattle.htx_drive.specs.declared.Ran.{Ran}
use Rattle.htx_drive.specs.declared.SessionFault.{SessionFault}
use Rattle.htx_drive.specs.declared.weave.fault.WeaveFault.{WeaveFault}
use Rattle.htx_drive.specs.declared.weave.fault.WeaveFault.TheVariants as faults
use Rattle.htx_drive.specs.Budget.{coming_size, enough}
use Rattle.htx_drive.specs.Replay.Memory.{turns_of, answer_of, needed_by}
use Rattle.htx_drive.specs.Replay.Seen.{wrote_by}
use Rattle.htx_drive.specs.Weave.State.{Done}
use Rattle.htx_drive.specs.Weave.Went.{OverSo}
use Rattle.htx_drive.specs.Weave.Woven.{EndedSo, GivenUp}
use Rattle.htx_drive.specs.Weave.Outcome.{LeftAt, AllLeft}
use Rattle.htx_drive.specs.Weave.Memory.{MemConn, IsFreshConn, AreFreshConns, needed_by_all, sees_net}
use Rattle.htx_drive.proofs.ReplayLemmas.Whole.{answers_size}
use Rattle.htx_drive.proofs.RecordLemmas.Zips.{at_place, zip_at, zip_of, sums}

-- ---- each

-- by how it ended
pub by_ran : {C L : Type 0} (M : Meaning) (stands : C → Past → Type 0) (sees : C → CoreSeen) (all : List Turn) (seen : L → Seen) (wrote : L → List ℕ → Type 0) (first client : L) (to : Place) (first_net net : NetSeen) (ran : Result Ran SessionFault) (count : ℕ) (P : Type 0)
    → OverSo M stands sees all seen wrote first client to first_net net (Some ran) count → ((r : Ran) (ahead : List Turn) → EndedSo M stands sees all ahead seen wrote first client to first_net net r count → P)
    → (GivenUp M stands sees all seen wrote first client true to first_net net count → P) → P
by_ran M stands sees all seen wrote first client to first_net net (Ok ran) count P so ended given = ended ran so.0 so.1
by_ran M stands sees all seen wrote first client to first_net net (Err fault) count P so ended given = given so.1

-- a connection's answers give as many bytes as its servers
pub less_by : (visit : Visit) (bufsize count : ℕ) → count < enough (length visit.client.bytes) (sum_by coming_size (map answer_of visit.servers)) (length visit.client.bytes) bufsize → count < needed_by visit bufsize
less_by visit bufsize count less =
    let P : ℕ → Type 0 = λ n. count < enough (length visit.client.bytes) n (length visit.client.bytes) bufsize in
    subst P (answers_size visit.servers) less

-- ---- all

module _ {C : Type 0} (M : Meaning) (stands : C → Past → Type 0) (sees : C → CoreSeen) (to : Place) where
  -- one that ended paid less than it needs
  abbrev pub EndedLess : Type 0
  EndedLess =
      (turns : List Turn) (visit : Visit) (first conn : MemConn) (ran : Result Ran SessionFault) (count : ℕ) → IsFreshConn visit first
      → Done M stands sees turns link_of wrote_by first.client conn.client conn.server to (sees_net first.net) (sees_net conn.net) ran count → count < needed_by visit M.limits.bufsize

  -- so did one that was given up
  abbrev pub GivenLess : Type 0
  GivenLess =
      (turns : List Turn) (visit : Visit) (first conn : MemConn) (failed : Bool) (count : ℕ) → IsFreshConn visit first
      → GivenUp M stands sees turns link_of wrote_by first.client conn.client failed to (sees_net first.net) (sees_net conn.net) count → count < needed_by visit M.limits.bufsize

  one_less : EndedLess → GivenLess → (turns : List Turn) (visit : Visit) (first conn : MemConn) (ran : Option (Result Ran SessionFault)) (count : ℕ) → IsFreshConn visit first
      → LeftAt M stands sees turns link_of wrote_by first.client conn.client conn.server to (sees_net first.net) (sees_net conn.net) ran count → count ≤ needed_by visit M.limits.bufsize
  one_less ended given turns visit first conn (Some ran) count fresh left = let less = ended turns visit first conn ran count fresh left in omega (arith, less)
  one_less ended given turns visit first conn None count fresh left = elim left.1 [
    | inl dropped ↦ (let less = given (drop dropped.waited turns) visit first conn false count fresh dropped.so in omega (arith, less))
    | inr untouched ↦ (let none = untouched.paid_none in omega (arith, none))
  ]

  -- all of them together
  pub never_spent : EndedLess → GivenLess → (turns : List (ℕ × Turn)) (entries : List Visit) (firsts conns : List MemConn) (budget : ℕ) (fault : WeaveFault) → AreFreshConns entries firsts → length conns ≡ length firsts
      → budget ≡ needed_by_all entries M.limits.bufsize → AllLeft M stands sees link_of wrote_by sees_net to turns firsts conns budget fault → fault ≡ faults.Spent → ⊥
  never_spent ended given turns entries firsts conns budget fault fresh long enough left is =
      let need : Visit → ℕ = λ v. needed_by v M.limits.bufsize in
      let as_many = AllZip-long IsFreshConn entries firsts fresh in
      let counted = left.counted in
      let zip = zip_of (λ (v : Visit) (n : ℕ). n ≤ need v) entries left.counts (omega (arith, counted, long, as_many)) (λ k visit n atv atn.
      let within = slice_get_within left.counts k n atn in
      let first = at_place firsts k (omega (arith, within, counted, long)) in
      let conn = at_place conns k (omega (arith, within, counted)) in
      let count : get_or left.counts k 0 ≡ n = get_or_from_slice_get left.counts k n 0 atn in
      let P : ℕ → Type 0 = λ m. m ≤ need visit in
      subst P count (one_less ended given (turns_of (suc k) turns) visit first.0 conn.0 conn.0.ran (get_or left.counts k 0) (zip_at IsFreshConn entries firsts k visit first.0 fresh atv first.1) (left.each k first.0 conn.0 first.1 conn.1))) in
      let most = sums need entries left.counts zip in
      let all = left.spent is in
      omega (arith, most, all, enough)

pub only_memory : (fault : WeaveFault) → (fault ≡ faults.Spent → ⊥) → fault ≡ faults.OutOfMemory
only_memory faults.Spent spent = absurd (spent refl)
only_memory faults.OutOfMemory spent = refl

-- the budget, as the records' own bytes have it
pub budget_is : (budget : ℕ) (conns slice : List Connection) (size bufsize : ℕ) → slice ≡ conns → size ≡ bufsize → budget ≡ needed_by_all (visits slice) size → budget ≡ needed_by_all (visits conns) bufsize
budget_is budget conns slice size bufsize same sized is = is ∙ ap (λ (l : List Connection). needed_by_all (visits l) size) same ∙ ap (λ (n : ℕ). needed_by_all (visits conns) n) sized
