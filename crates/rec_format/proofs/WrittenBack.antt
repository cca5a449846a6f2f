-- A record that was written, read back.
use Rattle.std.proofs.Common.{◌≡◌, ℕ, zero, suc, ◌-◌, ◌<◌, ◌≤◌, ◌^◌, Bool, true, false, ◌&&◌, cond, List, [], ◌∷◌, ◌++◌, length, refl, sym, ap, ◌∙◌, arith, append_assoc, decimal, Some, None, Option}
use Rattle.std.specs.Prelude.{Result, Ok, Err, All, codes, option_map, nat_le, sum_by}
use Rattle.std.specs.Option.{option_and_then}
use Rattle.std.specs.List.{flat_map}
use Rattle.std.specs.Str.{bytes_eq}
use Rattle.std.proofs.lemmas.Bool.{le-leb}
use Rattle.std.proofs.lemmas.List.{append-nil}
use Rattle.std.proofs.lemmas.List.Elements.{All-head, All-tail}
use Rattle.std.proofs.lemmas.List.Sums.{sum_by-cons}
use Rattle.px_link.specs.declared.turns.Turn.{Turn}
use Rattle.px_link.specs.declared.turns.Turn.TheVariants.{ClientGives, ClientTakes, ServerGives, ServerTakes}
use Rattle.session_model.specs.Stream.{Stream}
use Rattle.rec_format.specs.declared.record.RecKind.TheVariants as kinds
use Rattle.rec_format.specs.Pieces.{before, behind, number_of}
use Rattle.rec_format.specs.Entries.{ServerEntry, turn_by, up_to, moved, turn_entry}
use Rattle.rec_format.specs.Recorded.{Visit, Refusal, Servers, Visited, and_then, or_refuse, word_of, is_server, server_of, with_server, servers_of, visit_of, with_visit, next_client, last_visit, visits_of, turn_count, within_turns, with_turn, turns_of, within_connections, some_number, connection_count}
use Rattle.rec_format.specs.Written.{client_text, server_text, visit_text, letter_of, moved_of, turn_text, IsSmallServer, IsSmallVisit, IsTurnOf}
use Rattle.rec_format.proofs.Digits.{and_true}
use Rattle.rec_format.proofs.WordsBack.{before_word, behind_word, free, free_both, number_free, number_back, client_back, server_back}

-- ---- turns

up_back : (most n : ℕ) → 1 ≤ n → n ≤ most → n < 2 ^ 64 → up_to most (decimal n) ≡ Some n
up_back most n some within fits =
    ap (option_and_then (λ (n : ℕ). cond (nat_le 1 n && nat_le n most) (Some n) None)) (number_back n fits)
    ∙ ap (λ (t : Bool). cond t (Some n) None) (and_true (nat_le 1 n) (nat_le n most) (le-leb 1 n some) (le-leb n most within))

moved_back : (t : Turn) → 1 ≤ moved_of t → moved_of t ≤ 262144 → moved (letter_of t ++ 32 ∷ decimal (moved_of t)) ≡ Some t
moved_back (ClientGives n) some most = ap (option_and_then (turn_by (codes "c"))) (up_back 262144 n some most (omega arith))
moved_back (ClientTakes n) some most = ap (option_and_then (turn_by (codes "C"))) (up_back 262144 n some most (omega arith))
moved_back (ServerGives n) some most = ap (option_and_then (turn_by (codes "s"))) (up_back 262144 n some most (omega arith))
moved_back (ServerTakes n) some most = ap (option_and_then (turn_by (codes "S"))) (up_back 262144 n some most (omega arith))

letter_free : (t : Turn) → free 10 (letter_of t) ≡ true
letter_free (ClientGives n) = refl
letter_free (ClientTakes n) = refl
letter_free (ServerGives n) = refl
letter_free (ServerTakes n) = refl

turn_line : (d l m rest : List ℕ) → (d ++ 32 ∷ (l ++ 32 ∷ (m ++ 10 ∷ []))) ++ rest ≡ (d ++ 32 ∷ (l ++ 32 ∷ m)) ++ 10 ∷ rest
turn_line d l m rest =
    append_assoc d (32 ∷ (l ++ 32 ∷ (m ++ 10 ∷ []))) rest
    ∙ ap (λ (x : List ℕ). d ++ 32 ∷ x) (append_assoc l (32 ∷ (m ++ 10 ∷ [])) rest ∙ ap (λ (x : List ℕ). l ++ 32 ∷ x) (append_assoc m (10 ∷ []) rest) ∙ sym (append_assoc l (32 ∷ m) (10 ∷ rest)))
    ∙ sym (append_assoc d (32 ∷ (l ++ 32 ∷ m)) (10 ∷ rest))

turn_back : (connections : ℕ) (turn : ℕ × Turn) (rest : List ℕ) → connections ≤ 1024 → IsTurnOf connections turn → turn_entry true connections (before 10 (turn_text turn ++ rest)) (behind 10 (turn_text turn ++ rest)) ≡ Some (turn, rest)
turn_back connections turn rest few is =
    let d = decimal turn.0 in
    let l = letter_of turn.1 in
    let m = decimal (moved_of turn.1) in
    let last = is.last in
    let most = is.most in
    let words : List ℕ = l ++ 32 ∷ m in
    let line : List ℕ = d ++ 32 ∷ words in
    let text : turn_text turn ++ rest ≡ line ++ 10 ∷ rest = turn_line d l m rest in
    let whole : free 10 line ≡ true = free_both 10 d (32 ∷ words) (number_free 10 turn.0 (omega arith) (omega arith)) (free_both 10 l (32 ∷ m) (letter_free turn.1) (number_free 10 (moved_of turn.1) (omega arith) (omega arith))) in
    let one : free 32 d ≡ true = number_free 32 turn.0 (omega arith) (omega arith) in
    (λ i. turn_entry true connections (before 10 (text i)) (behind 10 (text i)))
    ∙ (λ i. turn_entry true connections (before_word 10 line rest refl whole i) (behind_word 10 line rest refl whole i))
    ∙ (λ i. option_map (λ (t : ℕ × Turn). (t, rest)) (option_and_then (λ (w : List ℕ). option_and_then (λ (owner : ℕ). option_map (λ (t : Turn). (owner, t)) (moved w)) (up_to connections (before_word 32 d words refl one i))) (behind_word 32 d words refl one i)))
    ∙ (λ i. option_map (λ (t : ℕ × Turn). (t, rest)) (option_and_then (λ (owner : ℕ). option_map (λ (t : Turn). (owner, t)) (moved words)) (up_back connections turn.0 is.first is.last (omega arith) i)))
    ∙ (λ i. option_map (λ (t : ℕ × Turn). (t, rest)) (option_map (λ (t : Turn). (turn.0, t)) (moved_back turn.1 is.some is.most i)))

pub turns_back : (total connections : ℕ) (turns : List (ℕ × Turn)) (rest : List ℕ) → connections ≤ 1024 → All (IsTurnOf connections) turns → turns_of total true connections (length turns) (flat_map turn_text turns ++ rest) ≡ Ok (turns, rest)
turns_back total connections [] rest few each = refl
turns_back total connections (t ∷ ts) rest few each =
    let more : List ℕ = flat_map turn_text ts ++ rest in
    let text : flat_map turn_text (t ∷ ts) ++ rest ≡ turn_text t ++ more = append_assoc (turn_text t) (flat_map turn_text ts) rest in
    ap (turns_of total true connections (suc (length ts))) text
    ∙ ap (λ (o : Option ((ℕ × Turn) × List ℕ)). and_then (λ (entry : (ℕ × Turn) × List ℕ). and_then (with_turn entry.0) (turns_of total true connections (length ts) entry.1)) (or_refuse total (turn_text t ++ more) kinds.Turn o))
    (turn_back connections t more few (All-head (IsTurnOf connections) t ts each))
    ∙ ap (and_then (with_turn t)) (turns_back total connections ts rest few (All-tail (IsTurnOf connections) t ts each))

-- ---- connections

server_word : (s : Option ServerEntry) (rest : List ℕ) → is_server (server_text s ++ rest) ≡ true
server_word None rest = refl
server_word (Some s) rest = refl

servers_back : (total room : ℕ) (servers : List (Option ServerEntry)) (rest : List ℕ) → length servers ≤ room → All IsSmallServer servers → is_server rest ≡ false
    → servers_of total room (flat_map server_text servers ++ rest) ≡ Ok (record { servers = servers; room = room - length servers; rest = rest })
servers_back total zero [] rest fits small none = ap (λ (b : Bool). cond b (Err (record { place = total - length rest; kind = kinds.Limit })) (Ok (record { servers = []; room = 0; rest = rest }))) none
servers_back total (suc room) [] rest fits small none =
    let all : suc room ≡ suc room - 0 = omega arith in
    ap (λ (b : Bool). cond b (and_then (λ (entry : Option ServerEntry × List ℕ). and_then (with_server entry.0) (servers_of total room entry.1)) (server_of total rest)) (Ok (record { servers = []; room = suc room; rest = rest }))) none
    ∙ ap (λ (n : ℕ). Ok (record { servers = []; room = n; rest = rest })) all
servers_back total zero (s ∷ ss) rest fits small none = absurd (omega arith)
servers_back total (suc room) (s ∷ ss) rest fits small none =
    let more : List ℕ = flat_map server_text ss ++ rest in
    let text : flat_map server_text (s ∷ ss) ++ rest ≡ server_text s ++ more = append_assoc (server_text s) (flat_map server_text ss) rest in
    let left : room - length ss ≡ suc room - suc (length ss) = omega arith in
    ap (servers_of total (suc room)) text
    ∙ ap (λ (b : Bool). cond b (and_then (λ (entry : Option ServerEntry × List ℕ). and_then (with_server entry.0) (servers_of total room entry.1)) (server_of total (server_text s ++ more))) (Ok (record { servers = []; room = suc room; rest = server_text s ++ more }))) (server_word s more)
    ∙ ap (λ (o : Option (Option ServerEntry × List ℕ)). and_then (λ (entry : Option ServerEntry × List ℕ). and_then (with_server entry.0) (servers_of total room entry.1)) (or_refuse total (server_text s ++ more) kinds.Length o))
    (server_back s more (All-head IsSmallServer s ss small))
    ∙ ap (and_then (with_server s)) (servers_back total room ss rest (omega arith) (All-tail IsSmallServer s ss small) none)
    ∙ ap (λ (n : ℕ). Ok (record { servers = s ∷ ss; room = n; rest = rest })) left

abbrev behind_client : ℕ → ℕ → Stream × List ℕ → Result Visited Refusal
behind_client total room client = and_then (λ (servers : Servers). Ok (record { visit = record { client = client.0; servers = servers.servers }; room = servers.room; rest = servers.rest })) (servers_of total room client.1)

visit_back : (total room : ℕ) (v : Visit) (rest : List ℕ) → length v.servers ≤ room → IsSmallVisit v → is_server rest ≡ false
    → visit_of total room (visit_text v ++ rest) ≡ Ok (record { visit = v; room = room - length v.servers; rest = rest })
visit_back total room v rest fits small none =
    let more : List ℕ = flat_map server_text v.servers ++ rest in
    let text : visit_text v ++ rest ≡ client_text v.client ++ more = append_assoc (client_text v.client) (flat_map server_text v.servers) rest in
    ap (visit_of total room) text
    ∙ ap (λ (o : Option (Stream × List ℕ)). and_then (behind_client total room) (or_refuse total (client_text v.client ++ more) kinds.Length o)) (client_back v.client more small.client)
    ∙ ap (and_then (λ (servers : Servers). Ok (record { visit = record { client = v.client; servers = servers.servers }; room = servers.room; rest = servers.rest }))) (servers_back total room v.servers rest fits small.servers none)

pub visits_back : (total room : ℕ) (v : Visit) (vs : List Visit) (rest : List ℕ) → sum_by (λ (w : Visit). length w.servers) (v ∷ vs) ≤ room → All IsSmallVisit (v ∷ vs) → word_of rest ≡ codes "turns"
    → visits_of total true (length vs) room (flat_map visit_text (v ∷ vs) ++ rest) ≡ Ok (v ∷ vs, rest)
visits_back total room v [] rest fits small word =
    let text : (visit_text v ++ []) ++ rest ≡ visit_text v ++ rest = ap (λ (l : List ℕ). l ++ rest) (append-nil (visit_text v)) in
    let none : is_server rest ≡ false = ap (λ (w : List ℕ). bytes_eq w (codes "server")) word in
    let sum = sum_by-cons (λ (w : Visit). length w.servers) v [] in
    ap (visits_of total true 0 room) text
    ∙ ap (and_then (last_visit total true)) (visit_back total room v rest (omega arith) (All-head IsSmallVisit v [] small) none)
    ∙ ap (λ (w : List ℕ). and_then (λ (r : List ℕ). Ok (v ∷ [], r)) (cond (bytes_eq w (codes "turns")) (Ok rest) (cond (true && bytes_eq w (codes "client")) (Err (record { place = total - length rest; kind = kinds.Count })) (Err (record { place = total - length rest; kind = kinds.Turn }))))) word
visits_back total room v (w ∷ ws) rest fits small word =
    let more : List ℕ = flat_map visit_text (w ∷ ws) ++ rest in
    let text : flat_map visit_text (v ∷ w ∷ ws) ++ rest ≡ visit_text v ++ more = append_assoc (visit_text v) (flat_map visit_text (w ∷ ws)) rest in
    let sum = sum_by-cons (λ (w : Visit). length w.servers) v (w ∷ ws) in
    ap (visits_of total true (suc (length ws)) room) text
    ∙ ap (and_then (λ (first : Visited). and_then (λ (r : List ℕ). and_then (with_visit first.visit) (visits_of total true (length ws) first.room r)) (next_client total first.rest))) (visit_back total room v more (omega arith) (All-head IsSmallVisit v (w ∷ ws) small) refl)
    ∙ ap (and_then (with_visit v)) (visits_back total (room - length v.servers) w ws rest (omega arith) (All-tail IsSmallVisit v (w ∷ ws) small) word)

-- ---- numbers of connections and of turns

pub turn_count_back : (total : ℕ) (n : ℕ) (rest : List ℕ) → n ≤ 1000000 → turn_count total (codes "turns " ++ (decimal n ++ 10 ∷ rest)) ≡ Ok (n, rest)
turn_count_back total n rest few =
    let line : List ℕ = codes "turns " ++ decimal n in
    let text : List ℕ = line ++ 10 ∷ rest in
    let whole : free 10 line ≡ true = number_free 10 n (omega arith) (omega arith) in
    (λ i. and_then (within_turns total text) (or_refuse total text kinds.Turn (option_and_then (λ (r : List ℕ). option_and_then (λ (word : List ℕ). option_map (λ (count : ℕ). (count, r)) (number_of word)) (behind 32 (before_word 10 line rest refl whole i))) (behind_word 10 line rest refl whole i))))
    ∙ ap (λ (o : Option ℕ). and_then (within_turns total text) (or_refuse total text kinds.Turn (option_map (λ (count : ℕ). (count, rest)) o))) (number_back n (omega arith))
    ∙ ap (λ (t : Bool). cond t (Ok (n, rest)) (Err (record { place = total - length text; kind = kinds.Limit }))) (le-leb n 1000000 few)

pub connection_count_back : (total : ℕ) (n : ℕ) (rest : List ℕ) → 1 ≤ n → n ≤ 1024 → bytes_eq (word_of rest) (codes "turns") ≡ false → connection_count total (codes "connections " ++ (decimal n ++ 10 ∷ rest)) ≡ Ok (n, rest)
connection_count_back total n rest some few other =
    let line : List ℕ = codes "connections " ++ decimal n in
    let text : List ℕ = line ++ 10 ∷ rest in
    let whole : free 10 line ≡ true = number_free 10 n (omega arith) (omega arith) in
    (λ i. and_then (within_connections total text) (or_refuse total text kinds.Count (option_and_then (λ (r : List ℕ). option_and_then (λ (word : List ℕ). option_map (λ (count : ℕ). (count, r)) (some_number word)) (behind 32 (before_word 10 line rest refl whole i))) (behind_word 10 line rest refl whole i))))
    ∙ ap (λ (o : Option ℕ). and_then (within_connections total text) (or_refuse total text kinds.Count (option_map (λ (count : ℕ). (count, rest)) (option_and_then (λ (n : ℕ). cond (nat_le 1 n) (Some n) None) o)))) (number_back n (omega arith))
    ∙ ap (λ (t : Bool). and_then (within_connections total text) (or_refuse total text kinds.Count (option_map (λ (count : ℕ). (count, rest)) (cond t (Some n) None)))) (le-leb 1 n some)
    ∙ ap (λ (t : Bool). cond t (cond (bytes_eq (word_of rest) (codes "turns")) (Err (record { place = total - length rest; kind = kinds.Count })) (Ok (n, rest))) (Err (record { place = total - length text; kind = kinds.Limit }))) (le-leb n 1024 few)
    ∙ ap (λ (t : Bool). cond t (Err (record { place = total - length rest; kind = kinds.Count })) (Ok (n, rest))) other
