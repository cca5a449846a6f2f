-- What was read joins what is still to be read.
use Rattle.std.proofs.Common.{◌≡◌, ℕ, zero, suc, ◌-◌, ◌<◌, ◌≤◌, length, Bool, true, false, cond, List, [], ◌∷◌, ◌++◌, refl, sym, ap, ◌∙◌, subst, arith, append_assoc}
use Rattle.std.specs.Prelude.{Option, Some, None, Result, Ok, Err, IfOk, IfErr, OnOk}
use Rattle.std.proofs.lemmas.Bool.{le-leb, lt-leb}
use Rattle.rec_format.specs.declared.record.Record.{Record}
use Rattle.std.proofs.lemmas.List.{append-nil, length-map}
use Rattle.rec_format.specs.declared.record.Connection.{Connection}
use Rattle.px_link.specs.declared.turns.Turn.{Turn}
use Rattle.rec_format.specs.declared.record.RecFault.{RecFault}
use Rattle.rec_format.specs.declared.record.RecFault.TheVariants as faults
use Rattle.rec_format.specs.declared.record.RecKind.TheVariants as kinds
use Rattle.rec_format.specs.Pieces.{before, behind}
use Rattle.rec_format.specs.Entries.{ServerEntry, turn_entry}
use Rattle.rec_format.specs.Read.{Gives, fault_of, meaning_of, visit, visits}
use Rattle.rec_format.specs.Recorded.{Refusal, refusal_at, Servers, Visit, Visits, Moves, and_then, with_server, with_visit, with_turn, is_server, server_of, servers_of, Visited, visit_of, visits_of, last_visit, next_client, last_turns, turns_of, or_refuse, Recorded, record_of, in_format, format_of}
use Rattle.rec_format.specs.Parts.{behind_servers, behind_visits, behind_turns, visit_before, visit_last, Refuses}

-- a fault that one definition gives is that of another that refuses alike
pub faults_alike : {A B C D : Type 0} (f : A → B) (g : C → D) {said : Result B Refusal} {other : Result D Refusal} (fault : RecFault) → Gives f (Err fault) said → ((r : Refusal) → said ≡ Err r → other ≡ Err r) → Gives g (Err fault) other
faults_alike f g (faults.Refused place kind) h alike = alike (record { place = place; kind = kind }) h
faults_alike f g faults.OutOfMemory h alike = tt

-- the fault of a refusal
pub gives_fault : {A B : Type 0} (f : A → B) {said : Result B Refusal} (fault : RecFault) (r : Refusal) → fault ≡ fault_of r → said ≡ Err r → Gives f (Err fault) said
gives_fault f {said} fault r is e = subst (λ (x : RecFault). Gives f (Err x) said) (sym is) e

pub then_ok : {A B : Type 0} (f : A → Result B Refusal) {said : Result A Refusal} {value : A} → said ≡ Ok value → and_then f said ≡ f value
then_ok f e = ap (and_then f) e

pub then_err : {A B : Type 0} (f : A → Result B Refusal) {said : Result A Refusal} {r : Refusal} → said ≡ Err r → and_then f said ≡ Err r
then_err f e = ap (and_then f) e

-- ---- servers

pub no_servers : (said : Result Servers Refusal) → said ≡ behind_servers [] said
no_servers (Ok more) = refl
no_servers (Err r) = refl

server_joins : (front : List (Option ServerEntry)) (entry : Option ServerEntry) (said : Result Servers Refusal) → behind_servers front (and_then (with_server entry) said) ≡ behind_servers (front ++ entry ∷ []) said
server_joins front entry (Ok more) = ap (λ (l : List (Option ServerEntry)). Ok (record { servers = l; room = more.room; rest = more.rest })) (sym (append_assoc front (entry ∷ []) more.servers))
server_joins front entry (Err r) = refl

-- one more server
pub one_server : (total room : ℕ) (text : List ℕ) (front : List (Option ServerEntry)) (entry : Option ServerEntry) (rest : List ℕ) → 0 < room → is_server text ≡ true → server_of total text ≡ Ok (entry, rest)
    → behind_servers front (servers_of total room text) ≡ behind_servers (front ++ entry ∷ []) (servers_of total (room - 1) rest)
one_server total zero text front entry rest some is e = absurd (omega arith)
one_server total (suc room) text front entry rest some is e =
    let less : room ≡ suc room - 1 = omega arith in
    ap (λ (b : Bool). behind_servers front (cond b (and_then (λ entry. and_then (with_server entry.0) (servers_of total room entry.1)) (server_of total text)) (Ok (record { servers = []; room = suc room; rest = text })))) is
    ∙ ap (λ (r : Result (Option ServerEntry × List ℕ) Refusal). behind_servers front (and_then (λ entry. and_then (with_server entry.0) (servers_of total room entry.1)) r)) e
    ∙ server_joins front entry (servers_of total room rest) ∙ ap (λ (n : ℕ). behind_servers (front ++ entry ∷ []) (servers_of total n rest)) less

-- one too many
pub full_servers : (total : ℕ) (text : List ℕ) (front : List (Option ServerEntry)) → is_server text ≡ true → behind_servers front (servers_of total 0 text) ≡ Err (refusal_at total text kinds.Limit)
full_servers total text front is = ap (λ (b : Bool). behind_servers front (cond b (Err (refusal_at total text kinds.Limit)) (Ok (record { servers = []; room = 0; rest = text })))) is

-- one that is refused
pub bad_server : (total room : ℕ) (text : List ℕ) (front : List (Option ServerEntry)) (r : Refusal) → 0 < room → is_server text ≡ true → server_of total text ≡ Err r → behind_servers front (servers_of total room text) ≡ Err r
bad_server total zero text front r some is e = absurd (omega arith)
bad_server total (suc room) text front r some is e =
    ap (λ (b : Bool). behind_servers front (cond b (and_then (λ entry. and_then (with_server entry.0) (servers_of total room entry.1)) (server_of total text)) (Ok (record { servers = []; room = suc room; rest = text })))) is
    ∙ ap (λ (q : Result (Option ServerEntry × List ℕ) Refusal). behind_servers front (and_then (λ entry. and_then (with_server entry.0) (servers_of total room entry.1)) q)) e

-- no more
pub last_server : (total room : ℕ) (text : List ℕ) (front : List (Option ServerEntry)) → is_server text ≡ false → behind_servers front (servers_of total room text) ≡ Ok (record { servers = front; room = room; rest = text })
last_server total zero text front is =
    ap (λ (b : Bool). behind_servers front (cond b (Err (refusal_at total text kinds.Limit)) (Ok (record { servers = []; room = 0; rest = text })))) is
    ∙ ap (λ (l : List (Option ServerEntry)). Ok (record { servers = l; room = 0; rest = text })) (append-nil front)
last_server total (suc room) text front is =
    ap (λ (b : Bool). behind_servers front (cond b (and_then (λ entry. and_then (with_server entry.0) (servers_of total room entry.1)) (server_of total text)) (Ok (record { servers = []; room = suc room; rest = text })))) is
    ∙ ap (λ (l : List (Option ServerEntry)). Ok (record { servers = l; room = suc room; rest = text })) (append-nil front)

-- ---- connections

pub no_visits : (said : Result Visits Refusal) → said ≡ behind_visits [] said
no_visits (Ok more) = refl
no_visits (Err r) = refl

visit_joins : (front : List Visit) (one : Visit) (said : Result Visits Refusal) → behind_visits front (and_then (with_visit one) said) ≡ behind_visits (front ++ one ∷ []) said
visit_joins front one (Ok more) = ap (λ (l : List Visit). Ok (l, more.1)) (sym (append_assoc front (one ∷ []) more.0))
visit_joins front one (Err r) = refl

-- a connection alone
abbrev alone : Visited → Result Visits Refusal
alone v = Ok (v.visit ∷ [], v.rest)

-- the definition, by a connection with a client behind it
by_visit : (total : ℕ) (numbered : Bool) (more room : ℕ) (text : List ℕ) → visits_of total numbered (suc more) room text ≡ and_then (λ (v : Visited). and_then (with_visit v.visit) (visits_of total numbered more v.room v.rest)) (visit_before total room text)
by_visit total numbered more room text = by (visit_of total room text)
  where
    inner : (first : Visited) (said : Result (List ℕ) Refusal) → and_then (λ (rest : List ℕ). and_then (with_visit first.visit) (visits_of total numbered more first.room rest)) said
        ≡ and_then (λ (v : Visited). and_then (with_visit v.visit) (visits_of total numbered more v.room v.rest)) (and_then (λ (rest : List ℕ). Ok (record { visit = first.visit; room = first.room; rest = rest })) said)
    inner first (Ok rest) = refl
    inner first (Err r) = refl

    by : (said : Result Visited Refusal) → and_then (λ (first : Visited). and_then (λ (rest : List ℕ). and_then (with_visit first.visit) (visits_of total numbered more first.room rest)) (next_client total first.rest)) said
        ≡ and_then (λ (v : Visited). and_then (with_visit v.visit) (visits_of total numbered more v.room v.rest)) (and_then (λ (first : Visited). and_then (λ (rest : List ℕ). Ok (record { visit = first.visit; room = first.room; rest = rest })) (next_client total first.rest)) said)
    by (Ok first) = inner first (next_client total first.rest)
    by (Err r) = refl

-- and the last by one with the turns behind it
by_last : (total : ℕ) (numbered : Bool) (room : ℕ) (text : List ℕ) → visits_of total numbered 0 room text ≡ and_then alone (visit_last total numbered room text)
by_last total numbered room text = by (visit_of total room text)
  where
    inner : (last : Visited) (said : Result (List ℕ) Refusal) → and_then (λ (rest : List ℕ). alone (record { visit = last.visit; room = last.room; rest = rest })) said ≡ and_then alone (and_then (λ (rest : List ℕ). Ok (record { visit = last.visit; room = last.room; rest = rest })) said)
    inner last (Ok rest) = refl
    inner last (Err r) = refl

    by : (said : Result Visited Refusal) → and_then (last_visit total numbered) said ≡ and_then alone (and_then (λ (last : Visited). and_then (λ (rest : List ℕ). Ok (record { visit = last.visit; room = last.room; rest = rest })) (last_turns total numbered last.rest)) said)
    by (Ok last) = inner last (last_turns total numbered last.rest)
    by (Err r) = refl

-- one more connection
pub one_visit : (total : ℕ) (numbered : Bool) (more room : ℕ) (text : List ℕ) (front : List Visit) (v : Visited) → visit_before total room text ≡ Ok v → behind_visits front (visits_of total numbered (suc more) room text) ≡ behind_visits (front ++ v.visit ∷ []) (visits_of total numbered more v.room v.rest)
one_visit total numbered more room text front v e =
    ap (behind_visits front) (by_visit total numbered more room text ∙ then_ok (λ (w : Visited). and_then (with_visit w.visit) (visits_of total numbered more w.room w.rest)) e) ∙ visit_joins front v.visit (visits_of total numbered more v.room v.rest)

pub bad_visit : (total : ℕ) (numbered : Bool) (more room : ℕ) (text : List ℕ) (front : List Visit) (r : Refusal) → visit_before total room text ≡ Err r → behind_visits front (visits_of total numbered (suc more) room text) ≡ Err r
bad_visit total numbered more room text front r e = ap (behind_visits front) (by_visit total numbered more room text ∙ then_err (λ (w : Visited). and_then (with_visit w.visit) (visits_of total numbered more w.room w.rest)) e)

-- the last connection
pub last_one : (total : ℕ) (numbered : Bool) (room : ℕ) (text : List ℕ) (front : List Visit) (v : Visited) → visit_last total numbered room text ≡ Ok v → behind_visits front (visits_of total numbered 0 room text) ≡ Ok (front ++ v.visit ∷ [], v.rest)
last_one total numbered room text front v e = ap (behind_visits front) (by_last total numbered room text ∙ then_ok alone e)

pub bad_last : (total : ℕ) (numbered : Bool) (room : ℕ) (text : List ℕ) (front : List Visit) (r : Refusal) → visit_last total numbered room text ≡ Err r → behind_visits front (visits_of total numbered 0 room text) ≡ Err r
bad_last total numbered room text front r e = ap (behind_visits front) (by_last total numbered room text ∙ then_err alone e)

-- ---- turns

pub no_turns : (said : Result Moves Refusal) → said ≡ behind_turns [] said
no_turns (Ok more) = refl
no_turns (Err r) = refl

turn_joins : (front : List (ℕ × Turn)) (one : ℕ × Turn) (said : Result Moves Refusal) → behind_turns front (and_then (with_turn one) said) ≡ behind_turns (front ++ one ∷ []) said
turn_joins front one (Ok more) = ap (λ (l : List (ℕ × Turn)). Ok (l, more.1)) (sym (append_assoc front (one ∷ []) more.0))
turn_joins front one (Err r) = refl

pub one_turn : (total : ℕ) (numbered : Bool) (connections more : ℕ) (text : List ℕ) (front : List (ℕ × Turn)) (turn : ℕ × Turn) (rest : List ℕ) → turn_entry numbered connections (before 10 text) (behind 10 text) ≡ Some (turn, rest)
    → behind_turns front (turns_of total numbered connections (suc more) text) ≡ behind_turns (front ++ turn ∷ []) (turns_of total numbered connections more rest)
one_turn total numbered connections more text front turn rest e =
    ap (λ (o : Option ((ℕ × Turn) × List ℕ)). behind_turns front (and_then (λ entry. and_then (with_turn entry.0) (turns_of total numbered connections more entry.1)) (or_refuse total text kinds.Turn o))) e
    ∙ turn_joins front turn (turns_of total numbered connections more rest)

pub bad_turn : (total : ℕ) (numbered : Bool) (connections more : ℕ) (text : List ℕ) (front : List (ℕ × Turn)) → turn_entry numbered connections (before 10 text) (behind 10 text) ≡ None
    → behind_turns front (turns_of total numbered connections (suc more) text) ≡ Err (refusal_at total text kinds.Turn)
bad_turn total numbered connections more text front e =
    ap (λ (o : Option ((ℕ × Turn) × List ℕ)). behind_turns front (and_then (λ entry. and_then (with_turn entry.0) (turns_of total numbered connections more entry.1)) (or_refuse total text kinds.Turn o))) e

pub last_turn : (total : ℕ) (numbered : Bool) (connections : ℕ) (text : List ℕ) (front : List (ℕ × Turn)) → behind_turns front (turns_of total numbered connections 0 text) ≡ Ok (front, text)
last_turn total numbered connections text front = ap (λ (l : List (ℕ × Turn)). Ok (l, text)) (append-nil front)

-- ---- a record

pub too_long : (text : List ℕ) → 67108864 < length text → record_of text ≡ Err (record { place = 67108864; kind = kinds.Limit })
unfolding record_of
too_long text over = ap (λ (b : Bool). cond b (and_then (in_format (length text)) (or_refuse (length text) text kinds.Header (format_of text))) (Err (record { place = 67108864; kind = kinds.Limit }))) (lt-leb (length text) 67108864 over)

within : (text : List ℕ) → length text ≤ 67108864 → record_of text ≡ and_then (in_format (length text)) (or_refuse (length text) text kinds.Header (format_of text))
unfolding record_of
within text short = ap (λ (b : Bool). cond b (and_then (in_format (length text)) (or_refuse (length text) text kinds.Header (format_of text))) (Err (record { place = 67108864; kind = kinds.Limit }))) (le-leb (length text) 67108864 short)

pub no_format : (text : List ℕ) → length text ≤ 67108864 → format_of text ≡ None → record_of text ≡ Err (refusal_at (length text) text kinds.Header)
no_format text short e = within text short ∙ ap (λ (o : Option (ℕ × List ℕ)). and_then (in_format (length text)) (or_refuse (length text) text kinds.Header o)) e

pub by_format : (text : List ℕ) (version : ℕ) (rest : List ℕ) → length text ≤ 67108864 → format_of text ≡ Some (version, rest) → record_of text ≡ in_format (length text) (version, rest)
by_format text version rest short e = within text short ∙ ap (λ (o : Option (ℕ × List ℕ)). and_then (in_format (length text)) (or_refuse (length text) text kinds.Header o)) e

pub refuses_fault : (said : Result Recorded Refusal) (fault : RecFault) (r : Refusal) → fault ≡ fault_of r → said ≡ Err r → Refuses said fault
refuses_fault said fault r is e = subst (λ (x : RecFault). Refuses said x) (sym is) e

pub gives_read : (said other : Result Recorded Refusal) (result : Result Record RecFault) → Gives meaning_of result other → said ≡ other → IfOk result (λ found. said ≡ Ok (meaning_of found))
gives_read said other (Ok found) h same = same ∙ h
gives_read said other (Err fault) h same = tt

pub gives_refused : (said other : Result Recorded Refusal) (result : Result Record RecFault) → Gives meaning_of result other → said ≡ other → IfErr result (Refuses said)
gives_refused said other (Ok found) h same = tt
gives_refused said other (Err (faults.Refused place kind)) h same = same ∙ h
gives_refused said other (Err faults.OutOfMemory) h same = tt

-- as many are seen as there are
pub counted_visits : (conns : List Connection) → length (visits conns) ≡ length conns
counted_visits conns = length-map conns visit

-- a word, a number with its line feed, and what is written behind them
pub joined_lines : {A E : Type 0} (result : Result A E) (old word number more first second last : List ℕ) → first ≡ old ++ word → second ≡ first ++ (number ++ 10 ∷ []) → OnOk result (last ≡ second ++ more)
    → OnOk result (last ≡ old ++ (word ++ (number ++ 10 ∷ more)))
joined_lines (Err e) old word number more first second last a b h = tt
joined_lines (Ok x) old word number more first second last a b h =
    h ∙ ap (λ (l : List ℕ). l ++ more) (b ∙ ap (λ (l : List ℕ). l ++ (number ++ 10 ∷ [])) a) ∙ append_assoc (old ++ word) (number ++ 10 ∷ []) more
    ∙ ap (λ (l : List ℕ). (old ++ word) ++ l) (append_assoc number (10 ∷ []) more) ∙ append_assoc old word (number ++ 10 ∷ more)

-- a text, and what is written behind it
pub joined_texts : {A E : Type 0} (result : Result A E) (old text more first last : List ℕ) → first ≡ old ++ text → OnOk result (last ≡ first ++ more) → OnOk result (last ≡ old ++ (text ++ more))
joined_texts (Err e) old text more first last a h = tt
joined_texts (Ok x) old text more first last a h = h ∙ ap (λ (l : List ℕ). l ++ more) a ∙ append_assoc old text more
