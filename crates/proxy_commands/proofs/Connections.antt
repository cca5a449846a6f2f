-- A record that is accepted has a connection.
use Rattle.std.proofs.Common.{◌≡◌, ℕ, zero, suc, ◌+◌, ◌-◌, ◌<◌, ◌==◌, Bool, true, false, List, ◌∷◌, length, subst, cond, arith}
use Rattle.std.specs.Prelude.{Result, Ok, Err, nat_le}
use Rattle.rec_format.specs.declared.record.RecKind.TheVariants as kinds
use Rattle.rec_format.specs.Recorded.{Visited, Visits, Recorded, Refusal, and_then, or_refuse, visit_of, visits_of, last_visit, last_turns, next_client, with_visit, turn_count, turns_of, end_of, recorded, entries_of, connection_count, in_format, format_of, record_of}

-- what is read has this property; a refusal says nothing
abbrev IfRead : {A : Type 0} → Result A Refusal → (A → Type 0) → Type 0
IfRead (Ok value) P = P value
IfRead (Err refusal) P = Unit {0}

read_then : {A B : Type 0} (f : A → Result B Refusal) (Q : B → Type 0) (r : Result A Refusal) → ((a : A) → IfRead (f a) Q) → IfRead (and_then f r) Q
read_then f Q (Ok a) g = g a
read_then f Q (Err e) g = tt

-- the same of what has a property already
kept_then : {A B : Type 0} (f : A → Result B Refusal) (P : A → Type 0) (Q : B → Type 0) (r : Result A Refusal) → IfRead r P → ((a : A) → P a → IfRead (f a) Q) → IfRead (and_then f r) Q
kept_then f P Q (Ok a) p g = g a p
kept_then f P Q (Err e) p g = tt

abbrev SomeVisit : Visits → Type 0
SomeVisit visits = 0 < length visits.0

abbrev SomeConnection : Recorded → Type 0
SomeConnection r = 0 < length r.connections

visits_some : (total : ℕ) (numbered : Bool) (more room : ℕ) (text : List ℕ) → IfRead (visits_of total numbered more room text) SomeVisit
visits_some total numbered zero room text =
    read_then (last_visit total numbered) SomeVisit (visit_of total room text) (λ last. read_then _ SomeVisit (last_turns total numbered last.rest) (λ rest. omega arith))
visits_some total numbered (suc more) room text =
    read_then _ SomeVisit (visit_of total room text) (λ first. read_then _ SomeVisit (next_client total first.rest) (λ rest.
    read_then (with_visit first.visit) SomeVisit (visits_of total numbered more first.room rest) (λ others. omega arith)))

entries_some : (total version : ℕ) (numbered : Bool) (more : ℕ) (text : List ℕ) → IfRead (entries_of total version numbered more text) SomeConnection
entries_some total version numbered more text =
    kept_then _ SomeVisit SomeConnection (visits_of total numbered more 65536 text) (visits_some total numbered more 65536 text) (λ visits some.
    read_then _ SomeConnection (turn_count total visits.1) (λ turns. read_then _ SomeConnection (turns_of total numbered (more + 1) turns.0 turns.1) (λ moves.
    read_then (recorded version visits.0 moves.0) SomeConnection (end_of total moves.1) (λ rest. some))))

format_some : (total : ℕ) (format : ℕ × List ℕ) → IfRead (in_format total format) SomeConnection
format_some total format = by_version (format.0 == 1)
  where
    by_version : (first : Bool) → IfRead (cond first (entries_of total 1 false 0 format.1) (and_then (λ (count : ℕ × List ℕ). entries_of total 2 true (count.0 - 1) count.1) (connection_count total format.1))) SomeConnection
    by_version true = entries_some total 1 false 0 format.1
    by_version false =
        read_then (λ (count : ℕ × List ℕ). entries_of total 2 true (count.0 - 1) count.1) SomeConnection (connection_count total format.1) (λ count. entries_some total 2 true (count.0 - 1) count.1)

record_some : (text : List ℕ) → IfRead (record_of text) SomeConnection
unfolding record_of
record_some text = by_size (nat_le (length text) 67108864)
  where
    by_size : (short : Bool) → IfRead (cond short (and_then (in_format (length text)) (or_refuse (length text) text kinds.Header (format_of text))) (Err (record { place = 67108864; kind = kinds.Limit }))) SomeConnection
    by_size true = read_then (in_format (length text)) SomeConnection (or_refuse (length text) text kinds.Header (format_of text)) (λ format. format_some (length text) format)
    by_size false = tt

pub some_connection : (text : List ℕ) (r : Recorded) → record_of text ≡ Ok r → 0 < length r.connections
some_connection text r e = let P : Result Recorded Refusal → Type 0 = λ o. IfRead o SomeConnection in subst P e (record_some text)
