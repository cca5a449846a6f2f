-- Lines of reports that are written one after another.
use Rattle.std.proofs.Common.{◌≡◌, ℕ, ◌+◌, List, [], ◌∷◌, ◌++◌, ◌∙◌, sym, ap, codes, decimal, append_assoc}
use Rattle.std.proofs.lemmas.List.{length-map}
use Rattle.rec_format.specs.Lines.{text_of_lines}
use Rattle.session_model.specs.Session.{Out}
use Rattle.rec_format.specs.Report.{server_lines, sent_words}
use Rattle.rec_format.specs.Reports.{summary_lines, out_lines, connections_text}
use Rattle.rec_format.proofs.Reports.{text_of_lines-append, grouped}

-- the three lines in front of the sides
pub summary_text : (text one two three exchanges end cut : List ℕ)
    → one ≡ text ++ (codes "exchanges " ++ (exchanges ++ 10 ∷ []))
    → two ≡ one ++ (codes "end " ++ (end ++ 10 ∷ []))
    → three ≡ two ++ (codes "cut " ++ (cut ++ 10 ∷ []))
    → three ≡ text ++ text_of_lines ((codes "exchanges " ++ exchanges) ∷ (codes "end " ++ end) ∷ (codes "cut " ++ cut) ∷ [])
summary_text text one two three exchanges end cut a b c =
    c
    ∙ ap (λ t. t ++ (codes "cut " ++ (cut ++ 10 ∷ []))) (b ∙ ap (λ t. t ++ (codes "end " ++ (end ++ 10 ∷ []))) a)
    ∙ simp append_assoc

-- and the sides behind them
pub sides_text : (out : Out) (text one two three four : List ℕ)
    → one ≡ text ++ text_of_lines (summary_lines out)
    → two ≡ one ++ codes "client "
    → three ≡ two ++ (sent_words out.client ++ 10 ∷ (out.client.bytes ++ 10 ∷ []))
    → four ≡ three ++ text_of_lines (server_lines 1 out.servers)
    → four ≡ text ++ text_of_lines (out_lines out)
sides_text out text one two three four a b c d =
    let servers = text_of_lines (server_lines 1 out.servers) in
    let front = text_of_lines (summary_lines out) in
    let sides : List (List ℕ) = (codes "client " ++ sent_words out.client) ∷ out.client.bytes ∷ server_lines 1 out.servers in
    d
    ∙ ap (λ t. t ++ servers) (c ∙ ap (λ t. t ++ (sent_words out.client ++ 10 ∷ (out.client.bytes ++ 10 ∷ []))) (b ∙ ap (λ t. t ++ codes "client ") a))
    ∙ grouped (text ++ front) (codes "client ") (sent_words out.client) out.client.bytes servers
    ∙ append_assoc text front (text_of_lines sides)
    ∙ ap (λ t. text ++ t) (sym (text_of_lines-append (summary_lines out) sides))

-- pieces that are grouped from the left, and from the right
four : (text line session rest : List ℕ) → (text ++ (line ++ (session ++ []))) ++ rest ≡ text ++ (line ++ (session ++ rest))
four text line session rest = simp append_assoc

-- one more connection behind those that were written
pub one_more : (text new : List ℕ) (number : ℕ) (out : Out) (outs : List Out) → new ≡ text ++ connections_text number (out ∷ []) → new ++ connections_text (number + 1) outs ≡ text ++ connections_text number (out ∷ outs)
one_more text new number out outs is =
    ap (λ t. t ++ connections_text (number + 1) outs) is ∙ four text (codes "connection " ++ (decimal number ++ 10 ∷ [])) (text_of_lines (out_lines out)) (connections_text (number + 1) outs)

-- three pieces one after another
three : (text front line rest : List ℕ) → ((text ++ front) ++ line) ++ rest ≡ text ++ (front ++ (line ++ rest))
three text front line rest = simp append_assoc

-- the report's first lines, and its connections behind them
pub several_text : (text one two three_of front line rest : List ℕ) → one ≡ text ++ front → two ≡ one ++ line → three_of ≡ two ++ rest → three_of ≡ text ++ (front ++ (line ++ rest))
several_text text one two three_of front line rest a b c =
    c ∙ ap (λ t. t ++ rest) (b ∙ ap (λ t. t ++ line) a) ∙ three text front line rest

pub ruleset counted_all = (length-map)
