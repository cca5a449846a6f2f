-- A connection behind a fault, and how it is left.
use Rattle.std.proofs.Common.{◌≡◌, ℕ, List, true, false, Option, Some, None, sym, subst, ◌∙◌, inl, inr, Bool}
use Rattle.std.specs.Prelude.{is_none, drop, Result}
use Rattle.http_model.specs.declared.Close.TheVariants.{Failed}
use Rattle.session_model.specs.Meaning.{Meaning}
use Rattle.session_core.specs.History.{Past}
use Rattle.px_link.specs.declared.turns.Turn.{Turn}
use Rattle.px_link.specs.Link.{Seen, with_close}
use Rattle.px_link.specs.Net.{Place, NetSeen}
use Rattle.htx_drive.specs.Machine.{CoreSeen, TookFront}
use Rattle.htx_drive.specs.Underway.{Stopped, LeftSo}
use Rattle.htx_drive.specs.declared.Ran.{Ran}
use Rattle.htx_drive.specs.declared.SessionFault.{SessionFault}
use Rattle.htx_drive.specs.Weave.Woven.{Pays, Back}
use Rattle.htx_drive.specs.Weave.State.{IsAt}
use Rattle.htx_drive.specs.Weave.Halted.{Halted}
use Rattle.htx_drive.specs.Weave.Outcome.{LeftAt}
use Rattle.htx_drive.proofs.WeaveLemmas.Moving.{stops, given_up_so}

-- with no server nothing is given back
same_net : {L : Type 0} (seen : L → Seen) (wrote : L → List ℕ → Type 0) (old new : NetSeen) (server : Option L) → server ≡ None → Back seen wrote old new server → new ≡ old
same_net seen wrote old new server e b = let P : Option _ → Type 0 = λ o. Back seen wrote old new o in subst P e b

module _ {C L : Type 0} (M : Meaning) (stands : C → Past → Type 0) (sees : C → CoreSeen) (turns : List Turn) (seen : L → Seen) (wrote : L → List ℕ → Type 0) (first : L) (to : Place) (first_net : NetSeen) where
  -- at its place it may be left
  pub halts : (sound : C → Type 0) (prompt : Bool) (ahead : List Turn) (client : L) (server : Option L) (net : NetSeen) (ran : Option (Result Ran SessionFault)) (held : Option C) (count : ℕ) → IsAt M stands sees sound prompt turns ahead seen wrote first client server to first_net net ran held count
      → Halted M stands sees turns seen wrote first client server to first_net net ran count
  halts sound prompt ahead client server net None None count w = inl (record { same_client = w.same_client; same_net = w.same_net; no_server = w.no_server; paid_none = w.paid_none })
  halts sound prompt ahead client server net None (Some core) count h = inr (inl (record { waited = h.waited; ahead = ahead; core = core; going = h.going }))
  halts sound prompt ahead client server net (Some ran) None count d = d.0
  halts sound prompt ahead client server net (Some ran) (Some core) count h = absurd h

  pub pays_halts : (sound : C → Type 0) (prompt : Bool) (ahead : List Turn) (client : L) (server : Option L) (net : NetSeen) (ran : Option (Result Ran SessionFault)) (held : Option C) (total left : ℕ) → Pays total left (IsAt M stands sees sound prompt turns ahead seen wrote first client server to first_net net ran held)
      → Pays total left (Halted M stands sees turns seen wrote first client server to first_net net ran)
  pays_halts sound prompt ahead client server net ran held total left p = record { count = p.count; is = p.is; so = halts sound prompt ahead client server net ran held p.count p.so }

  -- it found no memory
  pub halts_unroomed : (core : C) (client : L) (server : Option L) (net : NetSeen) (ran : Option (Result Ran SessionFault)) (waited total left : ℕ) → server ≡ None → ran ≡ None
      → Pays total left (λ count. (rest : List Turn) × Stopped (LeftSo M stands sees (drop waited turns) rest count core false) seen wrote first client false to first_net net count)
      → Pays total left (Halted M stands sees turns seen wrote first client server to first_net net ran)
  halts_unroomed core client server net ran waited total left n e p =
      let Q : Option (Result Ran SessionFault) → Type 0 = λ r. Pays total left (Halted M stands sees turns seen wrote first client server to first_net net r) in
      subst Q (sym e) (record { count = p.count; is = p.is; so = inr (inr (record { waited = waited; left = p.so.0; core = core; no_server = n; stopped = p.so.1 })) })

  -- and is left
  pub leaves : (client shut : L) (server behind : Option L) (net new : NetSeen) (count : ℕ) → ((core : C) (p : Past) → stands core p → TookFront M p) → Back seen wrote net new server → behind ≡ None
      → seen shut ≡ with_close (seen client) Failed → ((bytes : List ℕ) → wrote client bytes → wrote shut bytes)
      → Halted M stands sees turns seen wrote first client server to first_net net None count → LeftAt M stands sees turns seen wrote first shut behind to first_net new None count
  leaves client shut server behind net new count front b none e w (inl u) =
      let P : L → Type 0 = λ x. (seen shut ≡ with_close (seen x) Failed) × ((bytes : List ℕ) → wrote x bytes → wrote shut bytes) in
      let same : (seen shut ≡ with_close (seen first) Failed) × ((bytes : List ℕ) → wrote first bytes → wrote shut bytes) = subst P u.same_client (e, w) in (
        none,
        inr (record { closed = same.0; written = same.1; same_net = same_net seen wrote net new server u.no_server b ∙ u.same_net; paid_none = u.paid_none }),
      )
  leaves client shut server behind net new count front b none e w (inr (inl g)) = (
    none,
    inl (record {
      waited = g.waited;
      so = given_up_so M stands sees (drop g.waited turns) g.ahead g.core seen wrote first client shut false to first_net new count
          (stops M stands sees (drop g.waited turns) g.ahead g.core seen wrote first client server to first_net net new count (front g.core) b g.going) e w;
    }),
  )
  leaves client shut server behind net new count front b none e w (inr (inr s)) =
      let P : NetSeen → Type 0 = λ n. Stopped (LeftSo M stands sees (drop s.waited turns) s.left count s.core false) seen wrote first client false to first_net n count in (
        none,
        inl (record {
          waited = s.waited;
          so = given_up_so M stands sees (drop s.waited turns) s.left s.core seen wrote first client shut false to first_net new count (subst P (sym (same_net seen wrote net new server s.no_server b)) s.stopped) e w;
        }),
      )

  -- an ended one stays
  pub left_ended : (client : L) (server : Option L) (net : NetSeen) (ran : Option (Result Ran SessionFault)) (count : ℕ) → is_none ran ≡ false → Halted M stands sees turns seen wrote first client server to first_net net ran count
      → LeftAt M stands sees turns seen wrote first client server to first_net net ran count
  left_ended client server net None count e h = absurd (true_is e)
    where
      true_is : true ≡ false → ⊥
      true_is e = cc
  left_ended client server net (Some ran) count e h = h

  pub left_other : (client shut : L) (server behind : Option L) (net new : NetSeen) (was ran : Option (Result Ran SessionFault)) (count : ℕ) → was ≡ None → ran ≡ was
      → (Halted M stands sees turns seen wrote first client server to first_net net None count → LeftAt M stands sees turns seen wrote first shut behind to first_net new None count)
      → Halted M stands sees turns seen wrote first client server to first_net net was count → LeftAt M stands sees turns seen wrote first shut behind to first_net new ran count
  left_other client shut server behind net new was ran count e r f h =
      let P : Option (Result Ran SessionFault) → Type 0 = λ o. Halted M stands sees turns seen wrote first client server to first_net net o count in
      let Q : Option (Result Ran SessionFault) → Type 0 = λ o. LeftAt M stands sees turns seen wrote first shut behind to first_net new o count in
      subst Q (sym (r ∙ e)) (f (subst P e h))
