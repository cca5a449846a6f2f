-- The reports of several sessions, in both formats.
use Rattle.std.specs.Prelude.{◌≡◌, ◌⊎◌, ℕ, ◌+◌, ◌==◌, List, [], ◌∷◌, ◌++◌, codes, decimal, length, if◌then◌else◌}
use Rattle.session_model.specs.Session.{Out}
use Rattle.rec_format.specs.Lines.{text_of_lines}
use Rattle.rec_format.specs.Report.{cut_word, end_word, sent_words, server_lines}

-- how many exchanges there were, how the session ended, and whether it was cut
abbrev pub summary_lines : Out → List (List ℕ)
summary_lines out =
    (codes "exchanges " ++ decimal out.exchanges) ∷ (codes "end " ++ end_word out.how) ∷ (codes "cut " ++ cut_word out.cut) ∷ []

-- the lines of a session, from `exchanges` on
abbrev pub out_lines : Out → List (List ℕ)
out_lines out = summary_lines out ++ ((codes "client " ++ sent_words out.client) ∷ out.client.bytes ∷ server_lines 1 out.servers)

-- the text of the first session, if there is one
abbrev pub first_text : List Out → List ℕ
first_text [] = []
first_text (out ∷ outs) = text_of_lines (out_lines out)

-- the texts of sessions, each behind a line with its number, from this one on
abbrev pub connections_text : ℕ → List Out → List ℕ
connections_text number [] = []
connections_text number (out ∷ outs) =
    (codes "connection " ++ (decimal number ++ 10 ∷ [])) ++ (text_of_lines (out_lines out) ++ connections_text (number + 1) outs)

-- The report of sessions in this format: the first is of one session, which has no number; the second is of any number.
unfoldable pub report_of_all : ℕ → List Out → List ℕ
report_of_all version outs =
    if version == 1 then codes "PXREP 1\n" ++ first_text outs else codes "PXREP 2\n" ++ ((codes "connections " ++ (decimal (length outs) ++ 10 ∷ [])) ++ connections_text 1 outs)

-- a report can be of so many sessions in this format
abbrev pub Reportable : ℕ → ℕ → Type 0
Reportable version count = ((version ≡ 1) × (count ≡ 1)) ⊎ (version ≡ 2)
