-- A record that was written, read back as a whole.
use Rattle.std.proofs.Common.{◌≡◌, ℕ, ◌-◌, ◌+◌, ◌≤◌, true, List, [], ◌∷◌, ◌++◌, length, refl, ap, ◌∙◌, subst, arith, append_assoc, decimal}
use Rattle.std.specs.Prelude.{Result, Ok, All, codes, sum_by}
use Rattle.std.specs.List.{flat_map}
use Rattle.px_link.specs.declared.turns.Turn.{Turn}
use Rattle.rec_format.specs.Recorded.{Visit, Recorded, Refusal, Visits, Moves, and_then, turn_count, turns_of, end_of, recorded, entries_of, connection_count, format_of, record_of}
use Rattle.rec_format.specs.Written.{visit_text, turn_text, visits_text, turns_text, written, IsSmallVisit, IsTurnOf, IsWritable}
use Rattle.rec_format.proofs.Joining.{by_format}
use Rattle.rec_format.proofs.WrittenBack.{visits_back, turns_back, turn_count_back, connection_count_back}

abbrev after_turns : ℕ → List Visit → Moves → Result Recorded Refusal
after_turns total visits moves = and_then (recorded 2 visits moves.0) (end_of total moves.1)

abbrev after_count : ℕ → ℕ → List Visit → ℕ × List ℕ → Result Recorded Refusal
after_count total more visits count = and_then (after_turns total visits) (turns_of total true (more + 1) count.0 count.1)

abbrev after_visits : ℕ → ℕ → Visits → Result Recorded Refusal
after_visits total more visits = and_then (after_count total more visits.0) (turn_count total visits.1)

entries_back : (total : ℕ) (v : Visit) (vs : List Visit) (turns : List (ℕ × Turn)) → sum_by (λ (w : Visit). length w.servers) (v ∷ vs) ≤ 65536 → All IsSmallVisit (v ∷ vs) → length vs + 1 ≤ 1024
    → length turns ≤ 1000000 → All (IsTurnOf (length vs + 1)) turns
    → entries_of total 2 true (length vs) (flat_map visit_text (v ∷ vs) ++ (turns_text turns ++ codes "end\n")) ≡ Ok (record { version = 2; connections = v ∷ vs; turns = turns })
entries_back total v vs turns fits small some few each =
    let last : List ℕ = codes "end\n" in
    let moves : List ℕ = flat_map turn_text turns in
    let more : ℕ = length vs in
    let text : turns_text turns ++ last ≡ codes "turns " ++ (decimal (length turns) ++ 10 ∷ (moves ++ last)) = ap (λ (l : List ℕ). codes "turns " ++ l) (append_assoc (decimal (length turns)) (10 ∷ moves) last) in
    ap (and_then (after_visits total more)) (visits_back total 65536 v vs (turns_text turns ++ last) fits small refl)
    ∙ ap (λ (t : List ℕ). and_then (after_count total more (v ∷ vs)) (turn_count total t)) text
    ∙ ap (and_then (after_count total more (v ∷ vs))) (turn_count_back total (length turns) (moves ++ last) few)
    ∙ ap (and_then (after_turns total (v ∷ vs))) (turns_back total (more + 1) turns last some each)

whole_back : (v : Visit) (vs : List Visit) (turns : List (ℕ × Turn)) (text : List ℕ) → text ≡ codes "PXREC 2\n" ++ (visits_text (v ∷ vs) ++ (turns_text turns ++ codes "end\n")) → length text ≤ 67108864
    → sum_by (λ (w : Visit). length w.servers) (v ∷ vs) ≤ 65536 → All IsSmallVisit (v ∷ vs) → length (v ∷ vs) ≤ 1024 → length turns ≤ 1000000 → All (IsTurnOf (length (v ∷ vs))) turns
    → record_of text ≡ Ok (record { version = 2; connections = v ∷ vs; turns = turns })
whole_back v vs turns text is short fits small many few each =
    let n : ℕ = length (v ∷ vs) in
    let total : ℕ = length text in
    let front : List ℕ = flat_map visit_text (v ∷ vs) in
    let rest : List ℕ = turns_text turns ++ codes "end\n" in
    let lines : visits_text (v ∷ vs) ++ rest ≡ codes "connections " ++ (decimal n ++ 10 ∷ (front ++ rest)) = ap (λ (l : List ℕ). codes "connections " ++ l) (append_assoc (decimal n) (10 ∷ front) rest) in
    let fewer : n - 1 ≡ length vs = omega arith in
    let same : n ≡ length vs + 1 = omega arith in
    by_format text 2 (visits_text (v ∷ vs) ++ rest) short (ap format_of is)
    ∙ ap (λ (x : List ℕ). and_then (λ (count : ℕ × List ℕ). entries_of total 2 true (count.0 - 1) count.1) (connection_count total x)) lines
    ∙ ap (and_then (λ (count : ℕ × List ℕ). entries_of total 2 true (count.0 - 1) count.1)) (connection_count_back total n (front ++ rest) (omega arith) many refl)
    ∙ ap (λ (m : ℕ). entries_of total 2 true m (front ++ rest)) fewer
    ∙ entries_back total v vs turns fits small (omega arith) few (subst (λ (m : ℕ). All (IsTurnOf m) turns) same each)

by_connections : (connections : List Visit) (turns : List (ℕ × Turn)) (version : ℕ) → IsWritable (record { version = version; connections = connections; turns = turns })
    → record_of (written (record { version = version; connections = connections; turns = turns })) ≡ Ok (record { version = 2; connections = connections; turns = turns })
unfolding written
by_connections [] turns version w = absurd (omega (arith, w.some))
by_connections (v ∷ vs) turns version w = whole_back v vs turns (written (record { version = version; connections = v ∷ vs; turns = turns })) refl w.whole w.servers w.small w.few w.turns w.each

-- what is written is read back as the same connections and turns
pub written_back : (r : Recorded) → IsWritable r → record_of (written r) ≡ Ok (record { version = 2; connections = r.connections; turns = r.turns })
written_back r w = by_connections r.connections r.turns r.version w
