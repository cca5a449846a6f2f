-- What is written of the sessions of a record, and of a generated session.
use Rattle.std.specs.Prelude.{◌≡◌, ℕ, List, []}
use Rattle.session_model.specs.Meaning.{Meaning}
use Rattle.session_model.specs.Session.{Out}
use Rattle.session_core.specs.History.{Past}
use Rattle.htx_drive.specs.Machine.{CoreSeen}
use Rattle.px_link.specs.declared.turns.Turn.{Turn}
use Rattle.rec_format.specs.Recorded.{Visit, Recorded}
use Rattle.rec_format.specs.Reports.{report_of_all}
use Rattle.htx_drive.specs.Drill.Drill.{drill_of}
use Rattle.htx_drive.specs.Drill.Lines.{drill_text}
use Rattle.htx_drive.specs.Replay.Replayed.{Replays, EachFrom}

-- the text is the report, in the record's format, of what its connections came to, each by just its own turns
abbrev pub IsReportOf : (one : List Turn → Visit → Out → Type 0) → Recorded → (text : List ℕ) → Type 0
IsReportOf one rec text = (outs : List Out) × EachFrom one rec.turns 1 rec.connections outs × (text ≡ report_of_all rec.version outs)

-- the same of what the sessions of its connections came to
abbrev pub IsReplayOf : {C : Type 0} → Meaning → (C → Past → Type 0) → (C → CoreSeen) → Recorded → (text : List ℕ) → Type 0
IsReplayOf M stands seen = IsReportOf (Replays M stands seen)

-- the text is the lines of what the generated session came to, without turns of its own
abbrev pub IsDrillOf : {C : Type 0} → Meaning → (C → Past → Type 0) → (C → CoreSeen) → (seed exchanges : ℕ) → (text : List ℕ) → Type 0
IsDrillOf M stands seen seed exchanges text = (out : Out) × Replays M stands seen [] (drill_of seed exchanges) out × (text ≡ drill_text out)
