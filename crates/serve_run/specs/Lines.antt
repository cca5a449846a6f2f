-- The lines of `serve`.
use Rattle.std.specs.Prelude.{ℕ, ◌+◌, List, [], ◌∷◌, ◌++◌, codes, decimal, Result, Ok, Err}
use Rattle.http_model.specs.declared.End.{End}
use Rattle.http_model.specs.declared.End.TheVariants.{Done, Closed, Cut}
use Rattle.htx_drive.specs.declared.Ran.{Ran}
use Rattle.htx_drive.specs.declared.SessionFault.{SessionFault}
use Rattle.htx_drive.specs.declared.SessionFault.TheVariants as faults
use Rattle.serve_run.specs.declared.outcome.Outcome.{Outcome}
use Rattle.serve_run.specs.declared.outcome.Outcome.TheVariants as outcome

-- what the session of a connection with this outcome answered
abbrev pub answer_of : Outcome → Result Ran SessionFault
answer_of (outcome.Ended ran) = Ok ran
answer_of outcome.ClientWrite = Err faults.ClientWrite
answer_of outcome.Spent = Err faults.Spent

abbrev pub end_word : End → List ℕ
end_word Done = codes "done"
end_word Closed = codes "closed"
end_word Cut = codes "cut"

unfoldable pub outcome_words : Outcome → List ℕ
outcome_words (outcome.Ended ran) = codes "end " ++ end_word ran.end ++ codes " exchanges " ++ decimal ran.exchanges
outcome_words outcome.ClientWrite = codes "client write fault"
outcome_words outcome.Spent = codes "spent"

-- the line of the connection of this number
unfoldable pub line_of : ℕ → Outcome → List ℕ
line_of number outcome = codes "connection " ++ decimal number ++ codes ": " ++ outcome_words outcome ++ codes "\n"

-- the lines of connections that are numbered from here on
abbrev pub lines_from : ℕ → List Outcome → List ℕ
lines_from number [] = []
lines_from number (outcome ∷ outcomes) = line_of number outcome ++ lines_from (number + 1) outcomes

-- the line where a bind or an accept failed
abbrev pub net_line : List ℕ
net_line = codes "net\n"
