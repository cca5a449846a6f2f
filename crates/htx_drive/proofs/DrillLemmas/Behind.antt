-- Texts that are put behind one another.
use Rattle.std.proofs.Common.{◌≡◌, ℕ, ◌+◌, ◌-◌, ◌<◌, List, [], ◌∷◌, ◌++◌, map, sym, ap, ◌∙◌, append_assoc, codes, decimal, length}
use Rattle.std.specs.Prelude.{Option, Result, Ok, Err, OnOk}
use Rattle.std.proofs.lemmas.List.{append-nil}
use Rattle.rec_format.specs.Entries.{ServerEntry}
use Rattle.rec_format.specs.Lines.{text_of_lines}
use Rattle.rec_format.specs.Recorded.{Visit}
use Rattle.http_model.specs.declared.Ending.TheVariants.{Closed}
use Rattle.htx_drive.specs.Drill.Drill.{requests_text, request_text, server_of, drill_of}
use Rattle.htx_drive.specs.Drill.Plan.{Plan, plan_of, plans_of}
use Rattle.htx_drive.proofs.DrillLemmas.Plans.{plans_step, plans_none}

-- a request more stands in the client's stream
pub request_more : (front next all : List ℕ) (count at state to : ℕ) → at < count → next ≡ front ++ request_text (at + 1) (plan_of state).0 → to ≡ (plan_of state).1
    → front ++ requests_text (at + 1) (plans_of (count - at) state) ≡ all → next ++ requests_text (at + 1 + 1) (plans_of (count - (at + 1)) to) ≡ all
request_more front next all count at state to less put goes so =
    let text = request_text (at + 1) (plan_of state).0 in
    let rest = plans_of (count - (at + 1)) (plan_of state).1 in
    ap (λ (s : ℕ). next ++ requests_text (at + 1 + 1) (plans_of (count - (at + 1)) s)) goes
    ∙ ap (λ (l : List ℕ). l ++ requests_text (at + 1 + 1) rest) put
    ∙ append_assoc front text (requests_text (at + 1 + 1) rest)
    ∙ ap (λ (l : List Plan). front ++ requests_text (at + 1) l) (sym (plans_step count at state less))
    ∙ so

pub request_last : (front all : List ℕ) (count at state : ℕ) → count - at ≡ 0 → front ++ requests_text (at + 1) (plans_of (count - at) state) ≡ all → front ≡ all
request_last front all count at state none so =
    sym (append-nil front) ∙ ap (λ (l : List Plan). front ++ requests_text (at + 1) l) (sym (plans_none count at state none)) ∙ so

-- a server more stands behind the others
pub server_more : (front next all : List (Option ServerEntry)) (count at state to : ℕ) → at < count → next ≡ front ++ server_of (plan_of state).0 ∷ [] → to ≡ (plan_of state).1
    → front ++ map server_of (plans_of (count - at) state) ≡ all → next ++ map server_of (plans_of (count - (at + 1)) to) ≡ all
server_more front next all count at state to less put goes so =
    let one = server_of (plan_of state).0 in
    let rest = plans_of (count - (at + 1)) (plan_of state).1 in
    ap (λ (s : ℕ). next ++ map server_of (plans_of (count - (at + 1)) s)) goes
    ∙ ap (λ (l : List (Option ServerEntry)). l ++ map server_of rest) put
    ∙ append_assoc front (one ∷ []) (map server_of rest)
    ∙ ap (λ (l : List Plan). front ++ map server_of l) (sym (plans_step count at state less))
    ∙ so

pub server_last : (front all : List (Option ServerEntry)) (count at state : ℕ) → count - at ≡ 0 → front ++ map server_of (plans_of (count - at) state) ≡ all → front ≡ all
server_last front all count at state none so =
    sym (append-nil front) ∙ ap (λ (l : List Plan). front ++ map server_of l) (sym (plans_none count at state none)) ∙ so

-- ---- pieces of a text, each behind the one before

pub two_pieces : {E : Type 0} (r : Result (Unit {0}) E) (old mid new a b : List ℕ) → mid ≡ old ++ a → OnOk r (new ≡ mid ++ b) → OnOk r (new ≡ old ++ (a ++ b))
two_pieces (Err e) old mid new a b m n = tt
two_pieces (Ok done) old mid new a b m n = n ∙ ap (λ (l : List ℕ). l ++ b) m ∙ append_assoc old a b

three : (old t u v a b d : List ℕ) → t ≡ old ++ a → u ≡ t ++ b → v ≡ u ++ d → v ≡ old ++ (a ++ (b ++ d))
three old t u v a b d p q r =
    r ∙ ap (λ (l : List ℕ). l ++ d) (q ∙ ap (λ (l : List ℕ). l ++ b) p) ∙ append_assoc (old ++ a) b d ∙ append_assoc old a (b ++ d)

pub five_pieces : {E : Type 0} (r : Result (Unit {0}) E) (old t u v w new a b d f g : List ℕ) → t ≡ old ++ a → u ≡ t ++ b → v ≡ u ++ d → w ≡ v ++ f → OnOk r (new ≡ w ++ g)
    → OnOk r (new ≡ old ++ ((a ++ (b ++ d)) ++ (f ++ g)))
five_pieces (Err e) old t u v w new a b d f g p q s i j = tt
five_pieces (Ok done) old t u v w new a b d f g p q s i j =
    j
    ∙ ap (λ (l : List ℕ). l ++ g) (i ∙ ap (λ (l : List ℕ). l ++ f) (three old t u v a b d p q s))
    ∙ append_assoc (old ++ (a ++ (b ++ d))) f g
    ∙ append_assoc old (a ++ (b ++ d)) (f ++ g)

one_line : (line rest : List ℕ) → (line ++ 10 ∷ []) ++ rest ≡ line ++ 10 ∷ rest
one_line line rest = append_assoc line (10 ∷ []) rest

pub four_lines : (a b d e t u v w : List ℕ) → t ≡ a ++ 10 ∷ [] → u ≡ t ++ (b ++ 10 ∷ []) → v ≡ u ++ (d ++ 10 ∷ []) → w ≡ v ++ (e ++ 10 ∷ []) → w ≡ text_of_lines (a ∷ b ∷ d ∷ e ∷ [])
four_lines a b d e t u v w p q r s =
    s
    ∙ ap (λ (l : List ℕ). l ++ (e ++ 10 ∷ [])) (r ∙ ap (λ (l : List ℕ). l ++ (d ++ 10 ∷ [])) (q ∙ ap (λ (l : List ℕ). l ++ (b ++ 10 ∷ [])) p))
    ∙ append_assoc ((a ++ 10 ∷ []) ++ (b ++ 10 ∷ [])) (d ++ 10 ∷ []) (e ++ 10 ∷ [])
    ∙ append_assoc (a ++ 10 ∷ []) (b ++ 10 ∷ []) ((d ++ 10 ∷ []) ++ (e ++ 10 ∷ []))
    ∙ one_line a _
    ∙ ap (λ (l : List ℕ). a ++ 10 ∷ l) (one_line b _ ∙ ap (λ (l : List ℕ). b ++ 10 ∷ l) (one_line d (e ++ 10 ∷ [])))

-- the same numbers and words make the same lines
pub told_text : (exchanges total sum : ℕ) (bytes slice word end : List ℕ) → total ≡ sum → slice ≡ bytes → end ≡ word
    → text_of_lines ((codes "exchanges " ++ decimal exchanges) ∷ (codes "server bytes " ++ decimal total) ∷ (codes "client bytes " ++ decimal (length slice)) ∷ (codes "end " ++ end) ∷ [])
    ≡ text_of_lines ((codes "exchanges " ++ decimal exchanges) ∷ (codes "server bytes " ++ decimal sum) ∷ (codes "client bytes " ++ decimal (length bytes)) ∷ (codes "end " ++ word) ∷ [])
told_text exchanges total sum bytes slice word end p q r =
    ap (λ (n : ℕ). text_of_lines ((codes "exchanges " ++ decimal exchanges) ∷ (codes "server bytes " ++ decimal n) ∷ (codes "client bytes " ++ decimal (length slice)) ∷ (codes "end " ++ end) ∷ [])) p
    ∙ ap (λ (l : List ℕ). text_of_lines ((codes "exchanges " ++ decimal exchanges) ∷ (codes "server bytes " ++ decimal sum) ∷ (codes "client bytes " ++ decimal (length l)) ∷ (codes "end " ++ end) ∷ [])) q
    ∙ ap (λ (l : List ℕ). text_of_lines ((codes "exchanges " ++ decimal exchanges) ∷ (codes "server bytes " ++ decimal sum) ∷ (codes "client bytes " ++ decimal (length bytes)) ∷ (codes "end " ++ l) ∷ [])) r

-- ---- the whole session

with_parts : List ℕ → List (Option ServerEntry) → Visit
with_parts bytes servers = record { client = record { bytes = bytes; ending = Closed }; servers = servers }

same_parts : (a b : List ℕ) (p q : List (Option ServerEntry)) → a ≡ b → p ≡ q → with_parts a p ≡ with_parts b q
same_parts a b p q e f = ap (λ (l : List ℕ). with_parts l p) e ∙ ap (λ (l : List (Option ServerEntry)). with_parts b l) f

pub made : (seed exchanges : ℕ) (bytes : List ℕ) (servers : List (Option ServerEntry)) → bytes ≡ requests_text 1 (plans_of exchanges seed) → servers ≡ map server_of (plans_of exchanges seed)
    → record { client = record { bytes = bytes; ending = Closed }; servers = servers } ≡ drill_of seed exchanges
unfolding with_parts drill_of
made seed exchanges bytes servers e f = same_parts bytes (requests_text 1 (plans_of exchanges seed)) servers (map server_of (plans_of exchanges seed)) e f
