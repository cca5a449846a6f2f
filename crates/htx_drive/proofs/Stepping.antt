-- How a turn leads on from where both links stand.
use Rattle.std.proofs.Common.{◌≡◌, ℕ, ◌+◌, List, [], ◌∷◌, ◌++◌, Bool, false, true}
use Rattle.px_link.specs.Link.{Seen}
use Rattle.px_link.specs.declared.turns.Turn.{Turn}
use Rattle.session_core.specs.History.{Past, Connect}
use Rattle.htx_drive.specs.Acts.{is_nothing, is_write}
use Rattle.htx_drive.specs.Driven.{Idle, ClientMoves, IdleGoes, Linked, ServerMoves, Hand, HandGoes}
use Rattle.htx_drive.specs.Machine.{CoreSeen}
use Rattle.htx_drive.specs.Turned.{StandsIn, WorkedIn, FailsIn}
use Rattle.htx_drive.specs.declared.act.Act.{Act}
use Rattle.htx_drive.proofs.Handing.{client_in_hand, client_fails, server_in_hand, server_fails, hand_rests}
use Rattle.htx_drive.proofs.Running.{idle_as, idle_moves, idle_stays}
use Rattle.htx_drive.proofs.Turning.{Taken, turn_moves, turn_rests, turn_fails}

module _ {C L : Type 0} (stands : C → Past → Type 0) (sees : C → CoreSeen) (all left new : List Turn) (budget spare : ℕ) (old core : C) (did : Act) (seen : L → Seen) (wrote : L → List ℕ → Type 0) (t : Taken sees left new old did) where
  -- ---- while no server is open

  pub client_turn : (first was client : L) (past : Past) → Idle (WorkedIn stands sees all left budget spare old) seen wrote first was false past
      → (Idle (stands old) seen wrote first was false past → ClientMoves did (stands core) seen wrote first client past)
      → IdleGoes (StandsIn stands sees all new (1 + budget) spare core) seen wrote first client false past 1 0
  client_turn first was client past h step =
      idle_moves (stands core) (StandsIn stands sees all new (1 + budget) spare core) did seen wrote first client past (step (idle_as _ (stands old) seen wrote first was false past (λ s. s.stand) h))
      (turn_moves stands sees all left new budget spare old core did past t h.stand)

  pub client_fault : is_write did ≡ true → (first was client : L) (failed : Bool) (past : Past) → Idle (WorkedIn stands sees all left budget spare old) seen wrote first was false past
      → (Idle (stands old) seen wrote first was false past → Idle (stands core) seen wrote first client failed past)
      → IdleGoes (FailsIn stands sees all new budget spare core) seen wrote first client failed past 0 0
  client_fault write first was client failed past h step =
      idle_stays (stands core) (FailsIn stands sees all new budget spare core) seen wrote first client failed past (step (idle_as _ (stands old) seen wrote first was false past (λ s. s.stand) h))
      (turn_fails stands sees all left new budget spare old core did past t write h.stand)

  -- ---- while one is open

  pub client_turn_in_hand : (first was client first_link link : L) (before : List Connect) (past : Past) (c : Connect) → Hand (WorkedIn stands sees all left budget spare old) seen wrote first was first_link link false before past c
      → (Idle (stands old) seen wrote first was false past → ClientMoves did (stands core) seen wrote first client past)
      → HandGoes (StandsIn stands sees all new (1 + budget) spare core) seen wrote first client first_link link false before past 1 0
  client_turn_in_hand first was client first_link link before past c h step =
      client_in_hand (WorkedIn stands sees all left budget spare old) (stands core) (StandsIn stands sees all new (1 + budget) spare core) did seen wrote first was client first_link link before past c h
      (step (idle_as _ (stands old) seen wrote first was false past (λ s. s.stand) h.idle)) (turn_moves stands sees all left new budget spare old core did past t h.idle.stand)

  pub client_fault_in_hand : is_write did ≡ true → (first was client first_link link : L) (failed : Bool) (before : List Connect) (past : Past) (c : Connect) → Hand (WorkedIn stands sees all left budget spare old) seen wrote first was first_link link false before past c
      → (Idle (stands old) seen wrote first was false past → Idle (stands core) seen wrote first client failed past)
      → HandGoes (FailsIn stands sees all new budget spare core) seen wrote first client first_link link failed before past 0 0
  client_fault_in_hand write first was client first_link link failed before past c h step =
      client_fails (WorkedIn stands sees all left budget spare old) (stands core) (FailsIn stands sees all new budget spare core) seen wrote first was client first_link link failed before past c h
      (step (idle_as _ (stands old) seen wrote first was false past (λ s. s.stand) h.idle)) (turn_fails stands sees all left new budget spare old core did past t write h.idle.stand)

  pub server_turn_in_hand : (first client first_link was link : L) (before : List Connect) (past : Past) (c : Connect) → Hand (WorkedIn stands sees all left budget spare old) seen wrote first client first_link was false before past c
      → (stands old past → past.connects ≡ before ++ c ∷ [] → Linked seen wrote first_link was c → ServerMoves did (stands core) seen wrote first_link link before past c)
      → HandGoes (StandsIn stands sees all new (1 + budget) spare core) seen wrote first client first_link link false before past 1 0
  server_turn_in_hand first client first_link was link before past c h step =
      server_in_hand (WorkedIn stands sees all left budget spare old) (stands core) (StandsIn stands sees all new (1 + budget) spare core) did seen wrote first client first_link was link before past c h
      (step h.idle.stand.stand h.connects h.linked) (turn_moves stands sees all left new budget spare old core did past t h.idle.stand)

  pub server_fault_in_hand : is_write did ≡ true → (first client first_link was link : L) (failed : Bool) (before : List Connect) (past : Past) (c : Connect) → Hand (WorkedIn stands sees all left budget spare old) seen wrote first client first_link was false before past c
      → (stands old past → past.connects ≡ before ++ c ∷ [] → Linked seen wrote first_link was c → (failed ≡ false) × stands core past × Linked seen wrote first_link link c)
      → HandGoes (FailsIn stands sees all new budget spare core) seen wrote first client first_link link failed before past 0 0
  server_fault_in_hand write first client first_link was link failed before past c h step =
      server_fails (WorkedIn stands sees all left budget spare old) (stands core) (FailsIn stands sees all new budget spare core) seen wrote first client first_link was link failed before past c h
      (step h.idle.stand.stand h.connects h.linked) (turn_fails stands sees all left new budget spare old core did past t write h.idle.stand)

-- ---- a turn that moves nothing

module _ {C L : Type 0} (stands : C → Past → Type 0) (sees : C → CoreSeen) (all left new : List Turn) (budget spare : ℕ) (core : C) (did : Act) (seen : L → Seen) (wrote : L → List ℕ → Type 0) (t : Taken sees left new core did) (none : is_nothing did ≡ true) where
  pub rest : (first client : L) (past : Past) → Idle (WorkedIn stands sees all left budget spare core) seen wrote first client false past → IdleGoes (StandsIn stands sees all new budget spare core) seen wrote first client false past 0 0
  rest first client past h =
      idle_stays (WorkedIn stands sees all left budget spare core) (StandsIn stands sees all new budget spare core) seen wrote first client false past h (turn_rests stands sees all left new budget spare core did past t none)

  pub rest_in_hand : (first client first_link link : L) (before : List Connect) (past : Past) (c : Connect) → Hand (WorkedIn stands sees all left budget spare core) seen wrote first client first_link link false before past c
      → HandGoes (StandsIn stands sees all new budget spare core) seen wrote first client first_link link false before past 0 0
  rest_in_hand first client first_link link before past c h =
      hand_rests (WorkedIn stands sees all left budget spare core) (StandsIn stands sees all new budget spare core) seen wrote first client first_link link before past c h (turn_rests stands sees all left new budget spare core did past t none)
