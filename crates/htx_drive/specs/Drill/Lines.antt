-- The lines that are written of a generated session.
use Rattle.std.specs.Prelude.{ℕ, List, [], ◌∷◌, ◌++◌, codes, decimal, length, sum_by, Option, Some, None}
use Rattle.session_model.specs.Stream.{Sent}
use Rattle.session_model.specs.Session.{Out}
use Rattle.rec_format.specs.Lines.{text_of_lines}
use Rattle.rec_format.specs.Report.{end_word}

-- how many bytes a server was sent; none for a refused one
abbrev pub sent_size : Option Sent → ℕ
sent_size None = 0
sent_size (Some sent) = length sent.bytes

-- how many bytes servers were sent together
abbrev pub sent_total : List (Option Sent) → ℕ
sent_total servers = sum_by sent_size servers

-- the number of exchanges, how many bytes servers and client were sent, and how the session ended
unfoldable pub drill_text : Out → List ℕ
drill_text out =
    text_of_lines (
    (codes "exchanges " ++ decimal out.exchanges)
    ∷ (codes "server bytes " ++ decimal (sent_total out.servers))
    ∷ (codes "client bytes " ++ decimal (length out.client.bytes))
    ∷ (codes "end " ++ end_word out.how)
    ∷ [])
