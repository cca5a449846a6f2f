-- From the connections that have ended to the outcomes of a record.
use Rattle.std.proofs.Common.{◌≡◌, ℕ, zero, suc, ◌+◌, ◌<◌, ◌≤◌, ◌^◌, List, [], ◌∷◌, length, map, true, Option, Some, None, drop, refl, sym, ap, subst, ◌∙◌, arith}
use Rattle.std.specs.Prelude.{slice_get, Result, Ok, Err, IfOk}
use Rattle.std.specs.List.{AllZip, AllByRecursion}
use Rattle.std.proofs.lemmas.Option.{slice_get_within}
use Rattle.std.proofs.lemmas.Slice.Zip.{AllZip-long}
use Rattle.session_model.specs.Meaning.{Meaning}
use Rattle.session_model.specs.Session.{Out}
use Rattle.session_core.specs.History.{Past, Work}
use Rattle.px_link.specs.Net.{Place}
use Rattle.px_link.specs.MemLink.{link_of}
use Rattle.px_link.specs.declared.turns.Turn.{Turn}
use Rattle.rec_format.specs.Recorded.{Visit, Recorded}
use Rattle.rec_format.specs.Numbered.{AreNumbered}
use Rattle.rec_format.specs.Read.{visits}
use Rattle.rec_format.specs.declared.record.Connection.{Connection}
use Rattle.rec_format.specs.declared.report.Report.{Report}
use Rattle.rec_format.specs.ReportParts.{out_of}
use Rattle.rec_format.specs.Reports.{report_of_all}
use Rattle.htx_drive.specs.Machine.{CoreSeen}
use Rattle.htx_drive.specs.Turned.{InTurns}
use Rattle.htx_drive.specs.declared.Ran.{Ran}
use Rattle.htx_drive.specs.declared.SessionFault.{SessionFault}
use Rattle.htx_drive.specs.Replay.Memory.{turns_of}
use Rattle.htx_drive.specs.Replay.Replayed.{Replays, ReplaysFrom, ReplaysAll}
use Rattle.htx_drive.specs.Replay.Seen.{wrote_by}
use Rattle.htx_drive.specs.Weave.State.{Done}
use Rattle.htx_drive.specs.Weave.All.{AreWithin}
use Rattle.htx_drive.specs.Weave.Outcome.{AreNew, HasEnded, AllEnded, AllEndedAtOnce}
use Rattle.htx_drive.specs.Weave.Memory.{MemConn, IsFreshConn, AreFreshConns, HasRun, ComesTo, sees_net}
use Rattle.htx_drive.specs.Weave.Recorded.{Weaves, WeavesFrom, WeavesAll, IsWeaveOf}
use Rattle.htx_drive.proofs.ReplayLemmas.Fresh.{untouched, untouched_net}
use Rattle.htx_drive.proofs.ReplayLemmas.Turned.{by_turns}
use Rattle.htx_drive.proofs.ReplayLemmas.Whole.{replays, never_refuses}
use Rattle.htx_drive.proofs.RecordLemmas.Zips.{at_place, zip_at, each_of}

-- a core that has worked may work again, and its history stays
worked_behind : {C : Type 0} (stands : C → Past → Type 0) (seen : C → CoreSeen) (turns : List Turn) (worked : _) (left : List Turn) (past : Past) → InTurns stands seen turns worked left past → InTurns stands seen turns true left past
worked_behind stands seen turns worked left past turned = InTurns.takes_none worked left past (Work None) refl turned

-- no write to a client in memory fails
done_runs : {C : Type 0} (M : Meaning) (stands : C → Past → Type 0) (sees : C → CoreSeen) (turns : List Turn) (visit : Visit) (to : Place) (first conn : MemConn) (ran : Result Ran SessionFault) (count : ℕ) → IsFreshConn visit first → conn.ran ≡ Some ran
    → Done M stands sees turns link_of wrote_by first.client conn.client conn.server to (sees_net first.net) (sees_net conn.net) ran count → HasRun conn
done_runs M stands sees turns visit to first conn (Ok ran) count fresh is done = (ran, is)
done_runs M stands sees turns visit to first conn (Err fault) count fresh is done =
    let g = done.so.1 in absurd (never_refuses link_of wrote_by visit.client first.client (length g.past.taken) (untouched visit.client first.client fresh.client) (g.put.full (sym fresh.client.written) refl))

some_ran : (o : Option (Result Ran SessionFault)) (a b : Result Ran SessionFault) → o ≡ Some a → o ≡ Some b → a ≡ b
some_ran o a b e f = cc

-- what one connection that ended came to, by its turns but those that waited
replays_behind : {C : Type 0} (M : Meaning) (stands : C → Past → Type 0) (sees : C → CoreSeen) (turns : List Turn) (visit : Visit) (to : Place) (first conn : MemConn) (out : Out) → IsFreshConn visit first → (ended : HasEnded M stands sees turns link_of wrote_by sees_net to first conn) → ComesTo conn out
    → Replays M stands sees (drop ended.done.waited turns) visit out
replays_behind M stands sees turns visit to first conn out fresh ended comes =
    let ran = comes.0 in
    let D : Result Ran SessionFault → Type 0 = λ r. (done : Done M stands sees turns link_of wrote_by first.client conn.client conn.server to (sees_net first.net) (sees_net conn.net) r ended.count) → Replays M stands sees (drop done.waited turns) visit out in
    let same : Ok ran ≡ ended.ran = sym (some_ran conn.ran ended.ran (Ok ran) ended.is comes.1) in
    subst D same
    (λ done.
    let left = done.so.0 in
    let e = done.so.1 in
    let own = drop done.waited turns in
    let by = by_turns M stands sees e.core visit link_of wrote_by first.client conn.client to (sees_net first.net) (sees_net conn.net) own left ran (untouched visit.client first.client fresh.client) (untouched_net visit.servers first.net.net first.net.refused fresh.net) e.so (worked_behind stands sees own e.worked left e.so.past e.turned) in
    replays M stands sees own left visit to first.client conn.client first.net.net first.net.refused conn.net.net conn.net.refused ran out fresh.client fresh.net by comes.2)
    ended.done

-- each has an outcome by its own turns, from the one of this number on
numbered_from : {C : Type 0} (M : Meaning) (stands : C → Past → Type 0) (sees : C → CoreSeen) (turns : List (ℕ × Turn)) (number : ℕ) (entries : List Visit) (outs : List Out) → length outs ≡ length entries
    → ((k : ℕ) (visit : Visit) (out : Out) → slice_get entries k ≡ Some visit → slice_get outs k ≡ Some out → Weaves M stands sees (turns_of (number + k) turns) visit out) → WeavesFrom M stands sees turns number entries outs
numbered_from M stands sees turns number [] [] long each = tt
numbered_from M stands sees turns number [] (out ∷ outs) long each = absurd (omega (arith, long))
numbered_from M stands sees turns number (visit ∷ entries) [] long each = absurd (omega (arith, long))
numbered_from M stands sees turns number (visit ∷ entries) (out ∷ outs) long each =
    let none : number + zero ≡ number = omega arith in
    let W : Visit → Out → ℕ → Type 0 = λ v o n. Weaves M stands sees (turns_of n turns) v o in (
      subst (W visit out) none (each zero visit out refl refl),
      numbered_from M stands sees turns (number + 1) entries outs (omega (arith, long)) (λ k v o a b.
          let more : number + suc k ≡ number + 1 + k = omega arith in subst (W v o) more (each (suc k) v o a b)),
    )

-- the same of outcomes by all of its turns
replays_from : {C : Type 0} (M : Meaning) (stands : C → Past → Type 0) (sees : C → CoreSeen) (turns : List (ℕ × Turn)) (number : ℕ) (entries : List Visit) (outs : List Out) → length outs ≡ length entries
    → ((k : ℕ) (visit : Visit) (out : Out) → slice_get entries k ≡ Some visit → slice_get outs k ≡ Some out → Replays M stands sees (turns_of (number + k) turns) visit out) → ReplaysFrom M stands sees turns number entries outs
replays_from M stands sees turns number [] [] long each = tt
replays_from M stands sees turns number [] (out ∷ outs) long each = absurd (omega (arith, long))
replays_from M stands sees turns number (visit ∷ entries) [] long each = absurd (omega (arith, long))
replays_from M stands sees turns number (visit ∷ entries) (out ∷ outs) long each =
    let none : number + zero ≡ number = omega arith in
    let R : Visit → Out → ℕ → Type 0 = λ v o n. Replays M stands sees (turns_of n turns) v o in (
      subst (R visit out) none (each zero visit out refl refl),
      replays_from M stands sees turns (number + 1) entries outs (omega (arith, long)) (λ k v o a b.
          let more : number + suc k ≡ number + 1 + k = omega arith in subst (R v o) more (each (suc k) v o a b)),
    )

module _ {C : Type 0} (M : Meaning) (stands : C → Past → Type 0) (sees : C → CoreSeen) (turns : List (ℕ × Turn)) (to : Place) (entries : List Visit) (firsts conns : List MemConn) (fresh : AreFreshConns entries firsts) (long : length conns ≡ length firsts) (all : AllEnded M stands sees link_of wrote_by sees_net to turns firsts conns) where
  pub as_many : length firsts ≡ length entries
  as_many = AllZip-long IsFreshConn entries firsts fresh

  pub all_run : AllByRecursion HasRun conns
  all_run = each_of HasRun conns (λ k conn at.
      let within = slice_get_within conns k conn at in
      let first = at_place firsts k (omega (arith, within, long)) in
      let visit = at_place entries k (omega (arith, within, long, as_many)) in
      let ended = all k first.0 conn first.1 at in
      done_runs M stands sees (turns_of (suc k) turns) visit.0 to first.0 conn ended.ran ended.count (zip_at IsFreshConn entries firsts k visit.0 first.0 fresh visit.1 first.1) ended.is ended.done)

  -- one that has a report, as it was at first and as it has ended
  record Reported (k : ℕ) (visit : Visit) (out : Out) : Type 0 where
    first : MemConn
    conn : MemConn
    was : slice_get firsts k ≡ Some first
    is : slice_get conns k ≡ Some conn
    fresh_first : IsFreshConn visit first
    comes : ComesTo conn out

  reported : (outs : List Out) → AllZip ComesTo conns outs → (k : ℕ) (visit : Visit) (out : Out) → slice_get entries k ≡ Some visit → slice_get outs k ≡ Some out → Reported k visit out
  reported outs comes k visit out atv ato =
      let as_long = AllZip-long ComesTo conns outs comes in
      let within = slice_get_within outs k out ato in
      let conn = at_place conns k (omega (arith, within, as_long)) in
      let first = at_place firsts k (omega (arith, within, as_long, long)) in
      record {
        first = first.0;
        conn = conn.0;
        was = first.1;
        is = conn.1;
        fresh_first = zip_at IsFreshConn entries firsts k visit first.0 fresh atv first.1;
        comes = zip_at ComesTo conns outs k conn.0 out comes conn.1 ato;
      }

  as_many_outs : (outs : List Out) → AllZip ComesTo conns outs → length outs ≡ length entries
  as_many_outs outs comes = let as_long = AllZip-long ComesTo conns outs comes in omega (arith, as_long, long, as_many)

  pub all_woven : (outs : List Out) → AllZip ComesTo conns outs → WeavesAll M stands sees turns entries outs
  all_woven outs comes = numbered_from M stands sees turns 1 entries outs (as_many_outs outs comes) (λ k visit out atv ato.
      let r = reported outs comes k visit out atv ato in
      let ended = all k r.first r.conn r.was r.is in
      let next : suc k ≡ 1 + k = omega arith in
      let W : ℕ → Type 0 = λ n. Weaves M stands sees (turns_of n turns) visit out in
      subst W next (record { waited = ended.done.waited; replays = replays_behind M stands sees (turns_of (suc k) turns) visit to r.first r.conn out r.fresh_first ended r.comes }))

  -- with a core for each connection no turn waits
  pub all_at_once : AllEndedAtOnce M stands sees link_of wrote_by sees_net to turns firsts conns → (outs : List Out) → AllZip ComesTo conns outs → ReplaysAll M stands sees turns entries outs
  all_at_once each outs comes = replays_from M stands sees turns 1 entries outs (as_many_outs outs comes) (λ k visit out atv ato.
      let r = reported outs comes k visit out atv ato in
      let at = each k r.first r.conn r.was r.is in
      let own = turns_of (suc k) turns in
      let next : suc k ≡ 1 + k = omega arith in
      let W : ℕ → Type 0 = λ n. Replays M stands sees (turns_of n turns) visit out in
      let D : ℕ → Type 0 = λ n. Replays M stands sees (drop n own) visit out in
      let behind : D zero = subst D at.at_once (replays_behind M stands sees own visit to r.first r.conn out r.fresh_first at.ended r.comes) in
      subst W next behind)

-- ---- the connections before the first turn

pub few_conns : (entries : List Visit) (conns : List MemConn) → AreFreshConns entries conns → length entries ≤ 1024 → length conns < 2 ^ 32
few_conns entries conns fresh few = let long = AllZip-long IsFreshConn entries conns fresh in omega (arith, long, few)

pub new_conns : (entries : List Visit) (conns : List MemConn) → AreFreshConns entries conns → AreNew conns
new_conns [] [] fresh = tt
new_conns [] (conn ∷ conns) fresh = absurd fresh
new_conns (visit ∷ entries) [] fresh = absurd fresh
new_conns (visit ∷ entries) (conn ∷ conns) fresh = ((fresh.0.no_server, fresh.0.not_ended), new_conns entries conns fresh.1)

pub within_conns : (entries : List Visit) (conns : List MemConn) (given turns : List (ℕ × Turn)) → AreFreshConns entries conns → given ≡ turns → AreNumbered (length entries) turns → AreWithin (length conns) given
within_conns entries conns given turns fresh same numbered =
    let long : length conns ≡ length entries = AllZip-long IsFreshConn entries conns fresh in
    subst (λ (l : List (ℕ × Turn)). AreWithin (length conns) l) (sym same) (subst (λ (n : ℕ). AreNumbered n turns) (sym long) numbered)

pub fresh_slices : (entries slice : List Connection) (all given : List MemConn) → slice ≡ entries → given ≡ all → AreFreshConns (visits slice) all → AreFreshConns (visits entries) given
fresh_slices entries slice all given same lent fresh =
    subst (λ (l : List MemConn). AreFreshConns (visits entries) l) (sym lent) (subst (λ (l : List Connection). AreFreshConns (visits l) all) same fresh)

-- ---- what is written

pub weave_of : {C E : Type 0} (M : Meaning) (stands : C → Past → Type 0) (seen : C → CoreSeen) (rec : Recorded) (reports slice : List Report) (r : Result (List ℕ) E) → WeavesAll M stands seen rec.turns rec.connections (map out_of reports) → slice ≡ reports
    → IfOk r (λ (text : List ℕ). text ≡ report_of_all 2 (map out_of slice)) → IfOk r (IsWeaveOf M stands seen rec)
weave_of M stands seen rec reports slice (Ok text) all same is = (map out_of reports, all, is ∙ ap (λ (l : List Report). report_of_all 2 (map out_of l)) same)
weave_of M stands seen rec reports slice (Err fault) all same is = tt
