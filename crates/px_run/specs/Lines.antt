-- The lines of connections that have ended, and of exchanges.
use Rattle.std.specs.Prelude.{◌≡◌, ℕ, ◌==◌, if◌then◌else◌, Bool, true, false, List, [], ◌∷◌, map, Option, Some, None, Result, Ok, Err, ⊤}
use Rattle.std.specs.List.{flat_map}
use Rattle.px_link.specs.Told.{Rose, Gains, GainsFront}
use Rattle.htx_drive.specs.declared.Ran.{Ran}
use Rattle.htx_drive.specs.declared.SessionFault.{SessionFault}
use Rattle.htx_drive.specs.declared.SessionFault.TheVariants as faults
use Rattle.serve_run.specs.declared.outcome.Outcome.{Outcome}
use Rattle.serve_run.specs.declared.outcome.Outcome.TheVariants as outcome
use Rattle.serve_run.specs.Lines.{line_of}
use Rattle.px_run.specs.Log.{Entry, entry_line}
use Rattle.px_run.specs.declared.connection.Looked.{Looked}
use Rattle.px_run.specs.declared.connection.Looked.TheVariants as looks
use Rattle.px_run.specs.declared.lines.Output.{Output}
use Rattle.px_run.specs.declared.lines.Output.TheVariants as outputs

-- the number of a connection that has ended, and its outcome
abbrev pub Ended : Type 0
Ended = ℕ × Outcome

-- what a line is of: a connection that has ended, or an exchange
pub data Said : Type 0 where
  Ends : Ended → Said
  Tells : Entry → Said

-- The outcome of what a connection came to, which its line says. There is none before its end, and none where it was given up since it found no memory.
abbrev pub outcomes_in : Option (Result Ran SessionFault) → List Outcome
outcomes_in None = []
outcomes_in (Some (Ok ran)) = outcome.Ended ran ∷ []
outcomes_in (Some (Err faults.ClientWrite)) = outcome.ClientWrite ∷ []
outcomes_in (Some (Err faults.Spent)) = []
outcomes_in (Some (Err faults.OutOfMemory)) = []

-- the outcomes that are told of the connection of this number
abbrev pub said_of : (number : ℕ) → List Ended → List Outcome
said_of number [] = []
said_of number (one ∷ more) = if one.0 == number then one.1 ∷ said_of number more else said_of number more

abbrev pub said_line : Said → List ℕ
said_line (Ends one) = line_of one.0 one.1
said_line (Tells entry) = entry_line entry

-- their lines
abbrev pub lines_of : List Said → List ℕ
lines_of said = flat_map said_line said

-- the connections among them that have ended
abbrev pub ended_in : List Said → List Ended
ended_in [] = []
ended_in (Ends one ∷ more) = one ∷ ended_in more
ended_in (Tells entry ∷ more) = ended_in more

-- this is so of each exchange among them
abbrev pub AllTold : (Entry → Type 0) → List Said → Type 0
AllTold so [] = ⊤
AllTold so (Ends one ∷ more) = AllTold so more
AllTold so (Tells entry ∷ more) = so entry × AllTold so more

-- what is said of connections that ended, and of exchanges
abbrev pub says_of : List Ended → List Said
says_of ended = map Ends ended

abbrev pub tells_of : List Entry → List Said
tells_of entries = map Tells entries

-- the connection that ended in a look
abbrev pub ended_by : Looked → List Ended
ended_by looks.Waits = []
ended_by looks.GoesOn = []
ended_by looks.Rests = []
ended_by looks.Hungry = []
ended_by (looks.Ended number outcome) = (number, outcome) ∷ []
ended_by looks.Lost = []
ended_by looks.Leaves = []

-- What became of a text that is to be written, since the count of failed writes was `writes` and `old` was written: it was written, and no write failed; or a
-- write failed, and a front of the text was written. Where it isn't whole, a front of it was written.
abbrev pub Writes : (whole : Bool) → Output → (writes writes_now : ℕ) → (old new : Option (List ℕ)) → (text : List ℕ) → Type 0
Writes true outputs.Open writes writes_now old new text = (writes_now ≡ writes) × Gains old new text
Writes true outputs.Gone writes writes_now old new text = Rose writes writes_now × GainsFront old new text
Writes false output writes writes_now old new text = GainsFront old new text
