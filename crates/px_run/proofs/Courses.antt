-- How a connection goes on, step by step, whichever turns come next.
use Rattle.std.proofs.Common.{◌≡◌, ℕ, ◌<◌, List, [], ◌∷◌, ◌++◌, Bool, true, false, Option, Some, None, refl, sym, ap, subst, ◌∙◌}
use Rattle.std.specs.Prelude.{Result, Ok, Err, is_some, ◌||◌}
use Rattle.std.proofs.lemmas.Bool.{false≢true}
use Rattle.session_model.specs.Meaning.{Meaning}
use Rattle.session_core.specs.History.{Past}
use Rattle.session_core.specs.declared.machine.Wants.{Wants}
use Rattle.px_link.specs.declared.turns.Turn.{Turn}
use Rattle.px_link.specs.declared.turns.Turn.TheVariants as turns
use Rattle.px_link.specs.Link.{Seen}
use Rattle.px_link.specs.Net.{Place, NetSeen}
use Rattle.htx_drive.specs.Acts.{TakesTurn, moves_bytes}
use Rattle.htx_drive.specs.Machine.{CoreSeen}
use Rattle.htx_drive.specs.Turned.{StandsIn, WorkedIn}
use Rattle.htx_drive.specs.declared.Ran.{Ran}
use Rattle.htx_drive.specs.declared.SessionFault.{SessionFault}
use Rattle.htx_drive.specs.Weave.Woven.{Going, EndedSo, GivenUp}
use Rattle.htx_drive.specs.Driven.{failed_by}
use Rattle.htx_drive.specs.Underway.{Stopped, LeftSo}
use Rattle.htx_drive.specs.Weave.Single.{Working, GivesUp}
use Rattle.px_run.specs.Course.{IsSame, IsSameServer, GoesOn, WorksOn, CameTo, StandsSomehow, MayStep}
use Rattle.px_run.specs.Next.{IsAllowed, MovesBytes}
use Rattle.px_run.specs.declared.next.Ready.{Ready}
use Rattle.px_run.specs.declared.next.Next.TheVariants as next
use Rattle.px_run.proofs.Asked.{runs_same, runs_as, runs_stands}

-- one turn more was taken
append_one : (taken : List Turn) (turn : Turn) (ahead : List Turn) → (taken ++ turn ∷ []) ++ ahead ≡ taken ++ turn ∷ ahead
append_one [] turn ahead = refl
append_one (other ∷ taken) turn ahead = ap (λ l. other ∷ l) (append_one taken turn ahead)

-- ---- what may be moved

or_one : (a b c d : Bool) → a ≡ true → (a || b || c || d) ≡ true
or_one true b c d e = refl
or_one false b c d e = absurd (false≢true e)

or_two : (a b c d : Bool) → b ≡ true → (a || b || c || d) ≡ true
or_two true b c d e = refl
or_two false true c d e = refl
or_two false false c d e = absurd (false≢true e)

or_three : (a b c d : Bool) → c ≡ true → (a || b || c || d) ≡ true
or_three true b c d e = refl
or_three false true c d e = refl
or_three false false true d e = refl
or_three false false false d e = absurd (false≢true e)

or_four : (a b c d : Bool) → d ≡ true → (a || b || c || d) ≡ true
or_four true b c d e = refl
or_four false true c d e = refl
or_four false false true d e = refl
or_four false false false true e = refl
or_four false false false false e = absurd (false≢true e)

moves_so : (wants : Wants) (wanted ready : Bool) → MovesBytes wants wanted ready → moves_bytes wants ≡ true → TakesTurn wants
moves_so wants wanted ready m e = record { some = e; no_open = m.no_open; no_close = m.no_close; going = m.going }

pub takes_turn : (wants : Wants) (turn : Turn) → ((ready : Ready) × IsAllowed wants ready (next.Move turn)) → TakesTurn wants
takes_turn wants (turns.ClientGives most) a = moves_so wants _ _ a.1 (or_one wants.client_read wants.client_write wants.server_read wants.server_write a.1.is_ready.0)
takes_turn wants (turns.ClientTakes most) a = moves_so wants _ _ a.1 (or_two wants.client_read wants.client_write wants.server_read wants.server_write a.1.is_ready.0)
takes_turn wants (turns.ServerGives most) a = moves_so wants _ _ a.1 (or_three wants.client_read wants.client_write wants.server_read wants.server_write a.1.is_ready.0)
takes_turn wants (turns.ServerTakes most) a = moves_so wants _ _ a.1 (or_four wants.client_read wants.client_write wants.server_read wants.server_write a.1.is_ready.0)

-- a server is open, since its link is to be closed
pub is_open : (serving there : Bool) → serving ≡ there → (serving ≡ false → ⊥) → there ≡ true
is_open true true e h = refl
is_open true false e h = sym e
is_open false there e h = absurd (h refl)

-- it is open where it was
server_there : {L : Type 0} (seen : L → Seen) (wrote : L → List ℕ → Type 0) (was server : Option L) → IsSameServer seen wrote was server → is_some server ≡ is_some was
server_there seen wrote None None s = refl
server_there seen wrote None (Some link) s = absurd s
server_there seen wrote (Some link) None s = absurd s
server_there seen wrote (Some was) (Some link) s = refl

-- none is, since one is wanted
pub none_open : {L : Type 0} (server : Option L) (serving : Bool) → serving ≡ is_some server → (serving ≡ true → ⊥) → server ≡ None
none_open None serving e h = refl
none_open (Some link) serving e h = absurd (h e)

pub not_both : {A : Type 0} (o : Option A) (a : A) → o ≡ Some a → o ≡ None → ⊥
not_both o a e f = cc

pub not_true : (b : Bool) → b ≡ true → b ≡ false → ⊥
not_true b e f = false≢true (sym f ∙ e)

module _ {C L : Type 0} (M : Meaning) (stands : C → Past → Type 0) (sees : C → CoreSeen) (seen : L → Seen) (wrote : L → List ℕ → Type 0) (first : L) (to : Place) (first_net : NetSeen) where
  -- ---- by its core's work

  pub works : (old core : C) (was client : L) (before server : Option L) (prior net : NetSeen)
      → ((all ahead : List Turn) (count : ℕ) → Going stands sees all ahead old seen wrote first was before to first_net prior count → Working stands sees all ahead core seen wrote first client server to first_net net count)
      → GoesOn stands sees old seen wrote first was before to first_net prior → WorksOn stands sees core seen wrote first client server to first_net net
  works old core was client before server prior net step g = (g.0, λ ahead. let h = g.1 ahead in (h.0, step (g.0 ++ ahead) ahead h.0 h.1))

  -- ---- while it is asked

  pub asked_works : (core : C) (was client : L) (before server : Option L) (prior net : NetSeen) → IsSame seen wrote was client → IsSameServer seen wrote before server → net ≡ prior
      → WorksOn stands sees core seen wrote first was before to first_net prior → WorksOn stands sees core seen wrote first client server to first_net net
  asked_works core was client before server prior net s t e g =
      (g.0, λ ahead. let h = g.1 ahead in (h.0, runs_same seen wrote (WorkedIn stands sees (g.0 ++ ahead) ahead h.0 0 core) first was client before server to first_net prior net h.0 s t e h.1))

  pub asked_goes : (core : C) (was client : L) (before server : Option L) (prior net : NetSeen) → IsSame seen wrote was client → IsSameServer seen wrote before server → net ≡ prior
      → GoesOn stands sees core seen wrote first was before to first_net prior → GoesOn stands sees core seen wrote first client server to first_net net
  asked_goes core was client before server prior net s t e g =
      (g.0, λ ahead. let h = g.1 ahead in (h.0, runs_same seen wrote (StandsIn stands sees (g.0 ++ ahead) ahead h.0 0 core) first was client before server to first_net prior net h.0 s t e h.1))

  -- ---- by another core

  -- its session is under way with this core too, since that stands for the same
  pub goes_as : (old core : C) (client : L) (server : Option L) (net : NetSeen) → ((past : Past) → stands old past → stands core past)
      → GoesOn stands sees old seen wrote first client server to first_net net → GoesOn stands sees core seen wrote first client server to first_net net
  goes_as old core client server net f g = (
    g.0,
    λ ahead.
        let h = g.1 ahead in (
          h.0,
          runs_as (StandsIn stands sees (g.0 ++ ahead) ahead h.0 0 old) (StandsIn stands sees (g.0 ++ ahead) ahead h.0 0 core) seen wrote first client server to first_net net h.0
              (λ past s. record { stand = f past s.stand; worked = s.worked; turned = s.turned; paid = s.paid }) h.1,
        ),
  )

  pub goes_stands : (core : C) (client : L) (server : Option L) (net : NetSeen) → GoesOn stands sees core seen wrote first client server to first_net net → StandsSomehow stands core
  goes_stands core client server net g =
      let h = g.1 [] in
      let s = runs_stands (StandsIn stands sees (g.0 ++ []) [] h.0 0 core) seen wrote first client server to first_net net h.0 h.1 in
      (s.0, s.1.stand)

  -- ---- by a step

  stood : (all ahead : List Turn) (count : ℕ) (core : C) (past : Past) → WorkedIn stands sees all ahead count 0 core past → StandsIn stands sees all ahead count 0 core past
  stood all ahead count core past s = record { stand = s.stand; worked = true; turned = s.turned; paid = s.paid }

  pub going : (all ahead : List Turn) (core : C) (client : L) (server : Option L) (net : NetSeen) (count : ℕ) → Working stands sees all ahead core seen wrote first client server to first_net net count → Going stands sees all ahead core seen wrote first client server to first_net net count
  going all ahead core client server net count w = runs_as (WorkedIn stands sees all ahead count 0 core) (StandsIn stands sees all ahead count 0 core) seen wrote first client server to first_net net count (λ past s. stood all ahead count core past s) w

  pub waits : (core : C) (client : L) (server : Option L) (net : NetSeen) → WorksOn stands sees core seen wrote first client server to first_net net → GoesOn stands sees core seen wrote first client server to first_net net
  waits core client server net g = (g.0, λ ahead. let h = g.1 ahead in (h.0, going (g.0 ++ ahead) ahead core client server net h.0 h.1))

  pub stands_so : (core : C) (client : L) (server : Option L) (net : NetSeen) → WorksOn stands sees core seen wrote first client server to first_net net → StandsSomehow stands core
  stands_so core client server net g =
      let h = g.1 [] in
      let s = runs_stands (WorkedIn stands sees (g.0 ++ []) [] h.0 0 core) seen wrote first client server to first_net net h.0 h.1 in
      (s.0, s.1.stand)

  -- one that takes no turn
  pub steps_on : (old core : C) (was client : L) (before server : Option L) (prior net : NetSeen) (next_count : ℕ → ℕ)
      → ((all ahead : List Turn) (count : ℕ) → Working stands sees all ahead old seen wrote first was before to first_net prior count → Going stands sees all ahead core seen wrote first client server to first_net net (next_count count))
      → WorksOn stands sees old seen wrote first was before to first_net prior → GoesOn stands sees core seen wrote first client server to first_net net
  steps_on old core was client before server prior net next_count step g = (g.0, λ ahead. let h = g.1 ahead in (next_count h.0, step (g.0 ++ ahead) ahead h.0 h.1))

  -- one that takes a turn
  pub turns_on : (turn : Turn) (old core : C) (was client : L) (before server : Option L) (prior net : NetSeen) (next_count : ℕ → ℕ)
      → ((all ahead : List Turn) (count : ℕ) → Working stands sees all (turn ∷ ahead) old seen wrote first was before to first_net prior count → Going stands sees all ahead core seen wrote first client server to first_net net (next_count count))
      → WorksOn stands sees old seen wrote first was before to first_net prior → GoesOn stands sees core seen wrote first client server to first_net net
  turns_on turn old core was client before server prior net next_count step g = (
    g.0 ++ turn ∷ [],
    λ ahead.
        let h = g.1 (turn ∷ ahead) in
        let P : List Turn → Type 0 = λ all. Going stands sees all ahead core seen wrote first client server to first_net net (next_count h.0) in
        (next_count h.0, subst P (sym (append_one g.0 turn ahead)) (step (g.0 ++ turn ∷ ahead) ahead h.0 h.1)),
  )

  -- ---- by its end

  pub ends_so : (core : C) (old client : L) (server : Option L) (prior net : NetSeen) (ran : Option (Result Ran SessionFault))
      → ((all ahead : List Turn) (count : ℕ) → Going stands sees all ahead core seen wrote first old server to first_net prior count → (r : Ran) × (ran ≡ Some (Ok r)) × EndedSo M stands sees all ahead seen wrote first client to first_net net r count)
      → WorksOn stands sees core seen wrote first old server to first_net prior → CameTo M stands sees seen wrote first client to first_net net ran
  ends_so core old client server prior net ran step g =
      let h = g.1 [] in
      let k = step (g.0 ++ []) [] h.0 (going (g.0 ++ []) [] core old server prior h.0 h.1) in
      let P : Option (Result Ran SessionFault) → Type 0 = λ o. CameTo M stands sees seen wrote first client to first_net net o in
      subst P (sym k.1) (g.0 ++ [], [], h.0, k.2)

  pub gives_up_so : (core : C) (old client : L) (prior net : NetSeen) (ran : Option (Result Ran SessionFault)) (fault : SessionFault) (all : List Turn) (count : ℕ) → ran ≡ Some (Err fault)
      → ((all left : List Turn) (count : ℕ) → Stopped (LeftSo M stands sees all left count core (failed_by fault)) seen wrote first old (failed_by fault) to first_net prior count → GivenUp M stands sees all seen wrote first client (failed_by fault) to first_net net count)
      → GivesUp M stands sees all core seen wrote first old to first_net prior count (failed_by fault) → CameTo M stands sees seen wrote first client to first_net net ran
  gives_up_so core old client prior net ran fault all count e step h =
      let P : Option (Result Ran SessionFault) → Type 0 = λ o. CameTo M stands sees seen wrote first client to first_net net o in
      subst P (sym e) (all, count, step all h.0 count h.1)

  -- its core stands for what happened, though a write failed
  pub failed_stands : (core : C) (client : L) (net : NetSeen) (all : List Turn) (count : ℕ) → GivesUp M stands sees all core seen wrote first client to first_net net count true → StandsSomehow stands core
  failed_stands core client net all count h = (h.1.past, h.1.idle.stand.stand refl)

-- one that may go on may do so when it was asked
pub may_asked : {C L : Type 0} (sees : C → CoreSeen) (sound : C → Type 0) (seen : L → Seen) (wrote : L → List ℕ → Type 0) (core : C) (was server : Option L) (old net : NetSeen) (before ran : Option (Result Ran SessionFault))
    → IsSameServer seen wrote was server → net ≡ old → ran ≡ before → MayStep sees sound core was old before → MayStep sees sound core server net ran
may_asked sees sound seen wrote core was server old net before ran s e r m =
    let t = server_there seen wrote was server s in
    let P : NetSeen → Type 0 = λ n. 0 < n.lent in
    record { is_sound = m.is_sound; serving = m.serving ∙ sym t; lent = λ is. subst P (sym e) (m.lent (sym t ∙ is)); goes_on = r ∙ m.goes_on }
