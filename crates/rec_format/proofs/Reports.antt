-- Lines that are written one after another.
use Rattle.std.proofs.Common.{◌≡◌, ℕ, List, [], ◌∷◌, ◌++◌, ◌∙◌, sym, refl, ap, codes, append_assoc}
use Rattle.rec_format.specs.Lines.{text_of_lines}
use Rattle.session_model.specs.Session.{Out}
use Rattle.rec_format.specs.Report.{report_of, session_lines, server_lines, sent_words}

-- the four lines in front of the sides
pub session_text : (text one two three four exchanges end cut : List ℕ)
    → one ≡ text ++ (codes "PXREP " ++ (codes "1" ++ 10 ∷ []))
    → two ≡ one ++ (codes "exchanges " ++ (exchanges ++ 10 ∷ []))
    → three ≡ two ++ (codes "end " ++ (end ++ 10 ∷ []))
    → four ≡ three ++ (codes "cut " ++ (cut ++ 10 ∷ []))
    → four ≡ text ++ text_of_lines (codes "PXREP 1" ∷ (codes "exchanges " ++ exchanges) ∷ (codes "end " ++ end) ∷ (codes "cut " ++ cut) ∷ [])
session_text text one two three four exchanges end cut a b c d =
    d
    ∙ ap (λ t. t ++ (codes "cut " ++ (cut ++ 10 ∷ []))) (c ∙ ap (λ t. t ++ (codes "end " ++ (end ++ 10 ∷ []))) (b ∙ ap (λ t. t ++ (codes "exchanges " ++ (exchanges ++ 10 ∷ []))) a))
    ∙ simp append_assoc

-- texts of lines one after another
pub text_of_lines-append : (a b : List (List ℕ)) → text_of_lines (a ++ b) ≡ text_of_lines a ++ text_of_lines b
text_of_lines-append [] b = refl
text_of_lines-append (line ∷ a) b =
    ap (λ t. line ++ 10 ∷ t) (text_of_lines-append a b) ∙ sym (append_assoc line (10 ∷ text_of_lines a) (text_of_lines b))

-- pieces that are grouped from the left, and from the right
pub grouped : (session client words bytes servers : List ℕ) → ((session ++ client) ++ (words ++ 10 ∷ (bytes ++ 10 ∷ []))) ++ servers ≡ session ++ ((client ++ words) ++ 10 ∷ (bytes ++ 10 ∷ servers))
grouped session client words bytes servers = simp append_assoc

-- and the sides behind them
pub report_text : (out : Out) (one two three four : List ℕ)
    → one ≡ text_of_lines (session_lines out)
    → two ≡ one ++ codes "client "
    → three ≡ two ++ (sent_words out.client ++ 10 ∷ (out.client.bytes ++ 10 ∷ []))
    → four ≡ three ++ text_of_lines (server_lines 1 out.servers)
    → four ≡ report_of out
unfolding report_of
report_text out one two three four a b c d =
    let servers = text_of_lines (server_lines 1 out.servers) in
    let sides : List (List ℕ) = (codes "client " ++ sent_words out.client) ∷ out.client.bytes ∷ server_lines 1 out.servers in
    d
    ∙ ap (λ t. t ++ servers) (c ∙ ap (λ t. t ++ (sent_words out.client ++ 10 ∷ (out.client.bytes ++ 10 ∷ []))) (b ∙ ap (λ t. t ++ codes "client ") a))
    ∙ grouped (text_of_lines (session_lines out)) (codes "client ") (sent_words out.client) out.client.bytes servers
    ∙ sym (text_of_lines-append (session_lines out) sides)
