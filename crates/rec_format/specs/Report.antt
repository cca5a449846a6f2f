-- The report of a session: what it was, and what each side was sent.
use Rattle.std.specs.Prelude.{ℕ, ◌+◌, Bool, true, false, List, [], ◌∷◌, ◌++◌, Option, Some, None, codes, decimal, length}
use Rattle.http_model.specs.declared.Close.{Close}
use Rattle.http_model.specs.declared.Close.TheVariants.{Clean, Failed}
use Rattle.http_model.specs.declared.End.{End}
use Rattle.http_model.specs.declared.End.TheVariants.{Done, Closed, Cut}
use Rattle.session_model.specs.Stream.{Sent}
use Rattle.session_model.specs.Session.{Out}
use Rattle.rec_format.specs.Lines.{text_of_lines}

-- the word for how a link was closed
abbrev pub close_word : Close → List ℕ
close_word Clean = codes "clean"
close_word Failed = codes "failed"

-- the word for how a session ended
abbrev pub end_word : End → List ℕ
end_word Done = codes "done"
end_word Closed = codes "closed"
end_word Cut = codes "cut"

-- the word for a cut request
abbrev pub cut_word : Option Bool → List ℕ
cut_word None = codes "none"
cut_word (Some false) = codes "before"
cut_word (Some true) = codes "begun"

-- how many bytes were sent and how the link was closed
abbrev pub sent_words : Sent → List ℕ
sent_words sent = decimal (length sent.bytes) ++ codes " " ++ close_word sent.close

-- the lines of the servers, which are numbered on from this number
abbrev pub server_lines : ℕ → List (Option Sent) → List (List ℕ)
server_lines number [] = []
server_lines number (None ∷ servers) = (codes "server " ++ decimal number ++ codes " refused") ∷ server_lines (number + 1) servers
server_lines number (Some sent ∷ servers) =
    (codes "server " ++ decimal number ++ codes " " ++ sent_words sent) ∷ sent.bytes ∷ server_lines (number + 1) servers

-- the lines in front of the sides
abbrev pub session_lines : Out → List (List ℕ)
session_lines out =
    codes "PXREP 1"
    ∷ (codes "exchanges " ++ decimal out.exchanges)
    ∷ (codes "end " ++ end_word out.how)
    ∷ (codes "cut " ++ cut_word out.cut)
    ∷ []

-- the report
unfoldable pub report_of : Out → List ℕ
report_of out =
    text_of_lines (session_lines out ++ ((codes "client " ++ sent_words out.client) ∷ out.client.bytes ∷ server_lines 1 out.servers))
