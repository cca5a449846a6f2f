-- What the connections of a record come to over cores that they share.
use Rattle.std.specs.Prelude.{◌≡◌, ℕ, ◌+◌, List, [], ◌∷◌, drop, ⊤}
use Rattle.session_model.specs.Meaning.{Meaning}
use Rattle.session_model.specs.Session.{Out}
use Rattle.session_core.specs.History.{Past}
use Rattle.px_link.specs.declared.turns.Turn.{Turn}
use Rattle.rec_format.specs.Recorded.{Visit, Recorded}
use Rattle.rec_format.specs.Reports.{report_of_all}
use Rattle.htx_drive.specs.Machine.{CoreSeen}
use Rattle.htx_drive.specs.Replay.Memory.{turns_of}
use Rattle.htx_drive.specs.Replay.Replayed.{Replays}

-- So many of its first turns moved nothing, as a turn does that finds all cores out. The others led to its outcome, just as they do where it runs by itself.
pub record Weaves {C : Type 0} (M : Meaning) (stands : C → Past → Type 0) (seen : C → CoreSeen) (turns : List Turn) (visit : Visit) (out : Out) : Type 0 where
  pub waited : ℕ
  pub replays : Replays M stands seen (drop waited turns) visit out

-- each connection from the one of this number on has such an outcome, in their order, by just the turns of its own number
abbrev pub WeavesFrom : {C : Type 0} → Meaning → (C → Past → Type 0) → (C → CoreSeen) → List (ℕ × Turn) → (owner : ℕ) → List Visit → List Out → Type 0
WeavesFrom M stands seen turns owner [] [] = ⊤
WeavesFrom M stands seen turns owner (visit ∷ visits) (out ∷ outs) =
    Weaves M stands seen (turns_of owner turns) visit out × WeavesFrom M stands seen turns (owner + 1) visits outs
WeavesFrom M stands seen turns owner [] (out ∷ outs) = ⊥
WeavesFrom M stands seen turns owner (visit ∷ visits) [] = ⊥

-- each connection has, the first of which is number 1
abbrev pub WeavesAll : {C : Type 0} → Meaning → (C → Past → Type 0) → (C → CoreSeen) → List (ℕ × Turn) → List Visit → List Out → Type 0
WeavesAll M stands seen turns visits outs = WeavesFrom M stands seen turns 1 visits outs

-- the text is the report, always in the second format, of what the record's connections came to by its turns
abbrev pub IsWeaveOf : {C : Type 0} → Meaning → (C → Past → Type 0) → (C → CoreSeen) → Recorded → (text : List ℕ) → Type 0
IsWeaveOf M stands seen rec text = (outs : List Out) × WeavesAll M stands seen rec.turns rec.connections outs × (text ≡ report_of_all 2 outs)
