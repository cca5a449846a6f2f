-- What `run` did with its net, its output and each connection, by its answer.
use Rattle.std.specs.Prelude.{◌≡◌, ℕ, ◌+◌, ◌==◌, ◌≤◌, ◌⊎◌, if◌then◌else◌, List, [], ◌∷◌, ◌++◌, map, length, Bool, true, false, is_some, Option, Some, Result, Ok, Err, OnOk, IfSome}
use Rattle.std.specs.List.{AllByRecursion}
use Rattle.session_model.specs.Meaning.{Meaning}
use Rattle.session_core.specs.History.{Past}
use Rattle.px_link.specs.Link.{Seen, AsItIs, PassesOn}
use Rattle.px_peer.specs.declared.Pair.{Pair}
use Rattle.px_link.specs.Net.{Place, Coming, Kept, NetSeen, new_link, kept_link, has_failed}
use Rattle.px_link.specs.Told.{Rose, Gains, GainsFront}
use Rattle.htx_drive.specs.Machine.{CoreSeen}
use Rattle.serve_run.specs.declared.outcome.Outcome.{Outcome}
use Rattle.serve_run.specs.Lines.{answer_of}
use Rattle.px_run.specs.Lines.{Said, lines_of, ended_in, AllTold}
use Rattle.px_run.specs.History.{Visit, numbered, links_back, IsVisit, IsLogged, Story}
use Rattle.px_run.specs.declared.plan.RunFault.{RunFault}
use Rattle.px_run.specs.declared.plan.RunFault.TheVariants as faults
use Rattle.px_run.specs.declared.plan.Opening.{Opening}

-- no memory was wanted
abbrev pub had_memory : {T : Type 0} → Result T RunFault → Bool
had_memory (Ok done) = true
had_memory (Err faults.Net) = true
had_memory (Err faults.OutOfMemory) = false
had_memory (Err faults.Spent) = true

-- Since the count of failed writes was `writes` and `old` was written, the text was written and no write failed; or a write failed, and a front of it was written. Where
-- memory was wanted, a front of it was written.
abbrev pub WritesLines : (had_memory : Bool) → (writes writes_now : ℕ) → (old new : Option (List ℕ)) → (text : List ℕ) → Type 0
WritesLines true writes writes_now old new text = ((writes_now ≡ writes) × Gains old new text) ⊎ (Rose writes writes_now × GainsFront old new text)
WritesLines false writes writes_now old new text = GainsFront old new text

-- it came to an outcome, by its own turns
abbrev pub HasOutcome : {L N : Type 0} → Visit L N → Type 0
HasOutcome visit = (outcome : Outcome) × (visit.came ≡ Some (answer_of outcome))

-- A link that was kept is that of the connection of its number, as it was given back: it passed on what was written to it, as it is.
pub record IsKeptOf {L N : Type 0} (seen : L → Seen) (wrote : L → List ℕ → Type 0) (visits : List (Visit L N)) (one : ℕ × Kept) : Type 0 where
  pub link : L
  pub back : links_back (numbered one.0 visits) ≡ link ∷ []
  pub is : one.1 ≡ kept_link (seen link) one.1.wrote
  pub as_it_is : (seen link).manner ≡ AsItIs
  pub written : (text : List ℕ) → wrote link text → PassesOn (seen link).manner (has_failed (seen link)) one.1.wrote text

-- how many of them are of this number
abbrev pub times_in : (number : ℕ) → List (ℕ × Kept) → ℕ
times_in number [] = 0
times_in number (one ∷ more) = if one.0 == number then 1 + times_in number more else times_in number more

-- Where the net tells its links: those that were accepted are a front of those that were to come, in their order, and behind what was kept before stand their links, each that
-- was given back once.
pub record TellsMany {L N : Type 0} (seen : L → Seen) (wrote : L → List ℕ → Type 0) (now : NetSeen) (coming : List Coming) (before : List Kept) (visits : List (Visit L N)) : Type 0 where
  pub accepted : List Coming
  pub later : List Coming
  pub front : coming ≡ accepted ++ later
  pub accepts : now.accepts ≡ Some later
  pub firsts : map (λ (visit : Visit L N). seen visit.first) visits ≡ map (new_link AsItIs) accepted
  pub unwritten : AllByRecursion (λ (visit : Visit L N). wrote visit.first []) visits
  pub links : List (ℕ × Kept)
  pub kept : now.kept ≡ Some (before ++ map (λ (one : ℕ × Kept). one.1) links)
  pub each : AllByRecursion (IsKeptOf seen wrote visits) links
  pub once : (number : ℕ) → times_in number links ≡ length (links_back (numbered number visits))

-- From the one net to the other these connections were accepted. Each was met and then served or turned away, or was given up, and was given back. The lines of those that came to an outcome
-- were written, each once, and between them those of exchanges. Behind `Ok` each has an outcome, and they are as many as were asked for, unless the caller accepts no more.
pub record ServedMany {C L N : Type 0} (M : Option Pair → Meaning) (stands : Option Pair → C → Past → Type 0) (sees : C → CoreSeen) (seen : L → Seen) (wrote : L → List ℕ → Type 0) (tells : L → Option Pair → Type 0) (accepts_header logs : Bool) (opening : Opening) (sees_net : N → NetSeen) (to : Place) (most : Option ℕ) (accepts_none : Type 0) (begun now : NetSeen) (writes writes_now : ℕ) (old new : Option (List ℕ)) (answer : Result (Unit {0}) RunFault) : Type 0 where
  pub visits : List (Visit L N)
  -- what its lines are of, in their order
  pub said : List Said
  pub story : Story seen wrote begun now visits (ended_in said)
  pub each : AllByRecursion (IsVisit M stands sees seen wrote tells accepts_header opening sees_net to) visits
  pub all_back : AllByRecursion (λ (visit : Visit L N). is_some visit.back ≡ true) visits
  pub outcomes : OnOk answer (AllByRecursion HasOutcome visits)
  pub within : IfSome most (λ count. length visits ≤ count)
  pub as_many : OnOk answer (IfSome most (λ count. (length visits ≡ count) ⊎ accepts_none))
  pub told : (coming : List Coming) (before : List Kept) → begun.accepts ≡ Some coming → begun.kept ≡ Some before → TellsMany seen wrote now coming before visits
  pub written : WritesLines (had_memory answer) writes writes_now old new (lines_of said)
  -- each exchange that is told was so, of a connection that was accepted; without a log there is none
  pub told_so : AllTold (IsLogged M stands sees seen wrote tells accepts_header logs opening sees_net to visits) said
