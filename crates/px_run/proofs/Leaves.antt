-- A connection that is given up with the loop.
use Rattle.std.proofs.Common.{◌≡◌, ℕ, List, [], ◌++◌, drop, false, Option, Some, None, refl, sym, ap, subst, ◌∙◌, inl, inr}
use Rattle.std.specs.Prelude.{Result, is_some, ◌⊎◌}
use Rattle.std.proofs.lemmas.Bool.{false≢true}
use Rattle.session_model.specs.Meaning.{Meaning}
use Rattle.session_core.specs.History.{Past}
use Rattle.px_link.specs.declared.turns.Turn.{Turn}
use Rattle.http_model.specs.declared.Close.TheVariants.{Failed}
use Rattle.px_link.specs.Link.{Seen, closed_by, with_close}
use Rattle.px_link.specs.Net.{Place, NetSeen}
use Rattle.htx_drive.specs.Came.{Came, Put}
use Rattle.htx_drive.specs.Dialled.{Dials}
use Rattle.htx_drive.specs.Machine.{CoreSeen}
use Rattle.htx_drive.specs.Weave.Halted.{Halted, IsLent}
use Rattle.htx_drive.specs.Weave.Outcome.{Dropped, Untouched, LeftAt}
use Rattle.htx_drive.specs.Weave.Woven.{GivenUp}
use Rattle.htx_drive.specs.declared.Ran.{Ran}
use Rattle.htx_drive.specs.declared.SessionFault.{SessionFault}
use Rattle.px_run.specs.Course.{IsSame, GoesOn, WasLeft, EndedOrLeft}
use Rattle.px_run.specs.Connection.{IsAt}
use Rattle.px_run.specs.declared.held.Held.{Held}
use Rattle.px_run.specs.declared.held.Held.TheVariants as helds
use Rattle.px_run.proofs.Asked.{same_link}

module _ {C L : Type 0} (M : Meaning) (stands : C → Past → Type 0) (sees : C → CoreSeen) (sound rested : C → Type 0) (seen : L → Seen) (wrote : L → List ℕ → Type 0) (to : Place) where
  -- a server's link that is open was lent
  pub lent_at : (first client : L) (server : Option L) (first_net net : NetSeen) (ran : Option (Result Ran SessionFault)) (held : Held C) → ran ≡ None → IsAt M stands sees sound rested seen wrote first client server to first_net net ran held → IsLent server net.lent
  lent_at first client server first_net net None helds.Nothing e h = λ s. absurd (false≢true (ap is_some (sym h.no_server) ∙ s))
  lent_at first client server first_net net None (helds.Rest exchanges) e h = λ s. absurd (false≢true (ap is_some (sym h.no_server) ∙ s))
  lent_at first client server first_net net None (helds.Core core) e h = h.may.lent
  lent_at first client server first_net net (Some ran) held e h = cc

  -- the same from the link that was accepted, of which nothing was touched
  given_up_from : (first was client : L) (first_net old net : NetSeen) (turns : List Turn) (count : ℕ) → IsSame seen wrote first was → old ≡ first_net → GivenUp M stands sees turns seen wrote was client false to old net count → GivenUp M stands sees turns seen wrote first client false to first_net net count
  given_up_from first was client first_net old net turns count s e g =
      let P : Seen → Type 0 = λ k. Came k (seen client) g.past.client in
      let Q : Seen → Type 0 = λ k. Put (wrote was) (wrote client) k (seen client) g.past.taken false in
      let p = subst Q s.told g.put in
      let put : Put (wrote first) (wrote client) (seen first) (seen client) g.past.taken false = record { wrote = λ bytes w. p.wrote bytes (s.written bytes w); limit = λ w. p.limit (s.written [] w); full = λ w t. p.full (s.written [] w) t; fails = p.fails } in
      let D : NetSeen → Type 0 = λ n. Dials to n net g.past.connects in
      record {
        core = g.core;
        ahead = g.ahead;
        past = g.past;
        so = g.so;
        came = subst P s.told g.came;
        put = put;
        closed = g.closed ∙ ap (λ (k : Seen). closed_by k.closed Failed) s.told;
        dials = subst D e g.dials;
        more = g.more;
      }

  left_from : (first was client : L) (first_net old net : NetSeen) (turns : List Turn) (count : ℕ) → IsSame seen wrote first was → old ≡ first_net → Dropped M stands sees turns seen wrote was client to old net count ⊎ Untouched seen wrote was client old net count → WasLeft M stands sees seen wrote first client to first_net net
  left_from first was client first_net old net turns count s e (inl d) = inl (drop d.waited turns, count, given_up_from first was client first_net old net (drop d.waited turns) count s e d.so)
  left_from first was client first_net old net turns count s e (inr u) =
      inr (record { closed = u.closed ∙ ap (λ k. with_close k Failed) s.told; written = λ bytes w. u.written bytes (s.written bytes w); same_net = u.same_net ∙ e; paid_none = refl })

  -- its session was under way, with this core
  left_going : (first was client : L) (server behind : Option L) (first_net old net : NetSeen) (core : C)
      → ((turns : List Turn) (count : ℕ) → Halted M stands sees turns seen wrote first was server to first_net old None count → LeftAt M stands sees turns seen wrote first client behind to first_net net None count)
      → GoesOn stands sees core seen wrote first was server to first_net old → WasLeft M stands sees seen wrote first client to first_net net
  left_going first was client server behind first_net old net core step g =
      let k = g.1 [] in
      let l = step (g.0 ++ []) k.0 (inr (inl (record { waited = 0; ahead = []; core = core; going = k.1 }))) in
      left_from first first client first_net first_net net (g.0 ++ []) k.0 (same_link seen wrote first) refl l.1

  pub left_at : (first was client : L) (server behind : Option L) (first_net old net : NetSeen) (ran : Option (Result Ran SessionFault)) (held : Held C) → ran ≡ None
      → ((turns : List Turn) (count : ℕ) → Halted M stands sees turns seen wrote first was server to first_net old None count → LeftAt M stands sees turns seen wrote first client behind to first_net net None count)
      → ((turns : List Turn) (count : ℕ) → Halted M stands sees turns seen wrote was was server to old old None count → LeftAt M stands sees turns seen wrote was client behind to old net None count)
      → IsAt M stands sees sound rested seen wrote first was server to first_net old ran held → EndedOrLeft M stands sees seen wrote first client to first_net net ran
  left_at first was client server behind first_net old net None helds.Nothing e step idle h =
      let l = idle [] 0 (inl (record { same_client = refl; same_net = refl; no_server = h.no_server; paid_none = refl })) in
      left_from first was client first_net old net [] 0 h.same h.same_net l.1
  left_at first was client server behind first_net old net None (helds.Rest exchanges) e step idle h = left_going first was client server behind first_net old net h.core step h.goes
  left_at first was client server behind first_net old net None (helds.Core core) e step idle h = left_going first was client server behind first_net old net core step h.goes
  left_at first was client server behind first_net old net (Some ran) held e step idle h = cc
