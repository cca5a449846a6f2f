-- How many connections an accepted record has, by its format.
use Rattle.std.proofs.Common.{◌≡◌, ℕ, zero, suc, ◌+◌, ◌-◌, ◌==◌, inl, inr, Bool, true, false, List, length, refl, subst, cond, arith}
use Rattle.std.specs.Prelude.{Result, Ok, Err, nat_le}
use Rattle.rec_format.specs.declared.record.RecKind.TheVariants as kinds
use Rattle.rec_format.specs.Recorded.{Visited, Visits, Recorded, Refusal, and_then, or_refuse, visit_of, visits_of, last_visit, last_turns, next_client, with_visit, turn_count, turns_of, end_of, recorded, entries_of, connection_count, in_format, format_of, record_of}
use Rattle.rec_format.specs.Reports.{Reportable}

-- what is read has this property; a refusal says nothing
abbrev pub IfRead : {A : Type 0} → Result A Refusal → (A → Type 0) → Type 0
IfRead (Ok value) P = P value
IfRead (Err refusal) P = Unit {0}

pub read_then : {A B : Type 0} (f : A → Result B Refusal) (P : A → Type 0) (Q : B → Type 0) (r : Result A Refusal) → IfRead r P → ((a : A) → P a → IfRead (f a) Q) → IfRead (and_then f r) Q
read_then f P Q (Ok a) p g = g a p
read_then f P Q (Err e) p g = tt

abbrev pub Anything : {A : Type 0} → A → Type 0
Anything a = Unit {0}

pub anything : {A : Type 0} (r : Result A Refusal) → IfRead r Anything
anything (Ok a) = tt
anything (Err e) = tt

abbrev pub So : ℕ → Visits → Type 0
So more visits = length visits.0 ≡ more + 1

last_count : (total : ℕ) (numbered : Bool) (last : Visited) → IfRead (last_visit total numbered last) (So 0)
last_count total numbered last = read_then _ Anything (So 0) (last_turns total numbered last.rest) (anything (last_turns total numbered last.rest)) (λ rest done. refl)

pub visits_count : (total : ℕ) (numbered : Bool) (more room : ℕ) (text : List ℕ) → IfRead (visits_of total numbered more room text) (So more)
visits_count total numbered zero room text =
    read_then (last_visit total numbered) Anything (So 0) (visit_of total room text) (anything (visit_of total room text)) (λ last done. last_count total numbered last)
visits_count total numbered (suc more) room text =
    read_then _ Anything (So (suc more)) (visit_of total room text) (anything (visit_of total room text)) (λ first done.
    read_then _ Anything (So (suc more)) (next_client total first.rest) (anything (next_client total first.rest)) (λ rest done.
    read_then (with_visit first.visit) (So more) (So (suc more)) (visits_of total numbered more first.room rest) (visits_count total numbered more first.room rest) (λ others count. omega (arith, count))))

abbrev HasSo : (version connections : ℕ) → Recorded → Type 0
HasSo version connections r = (r.version ≡ version) × (length r.connections ≡ connections)

entries_count : (total version : ℕ) (numbered : Bool) (more : ℕ) (text : List ℕ) → IfRead (entries_of total version numbered more text) (HasSo version (more + 1))
entries_count total version numbered more text =
    read_then _ (So more) (HasSo version (more + 1)) (visits_of total numbered more 65536 text) (visits_count total numbered more 65536 text) (λ visits count.
    read_then _ Anything (HasSo version (more + 1)) (turn_count total visits.1) (anything (turn_count total visits.1)) (λ turns done.
    read_then _ Anything (HasSo version (more + 1)) (turns_of total numbered (more + 1) turns.0 turns.1) (anything (turns_of total numbered (more + 1) turns.0 turns.1)) (λ moves done.
    read_then (recorded version visits.0 moves.0) Anything (HasSo version (more + 1)) (end_of total moves.1) (anything (end_of total moves.1)) (λ rest done. (refl, count)))))

abbrev CanReport : Recorded → Type 0
CanReport r = Reportable r.version (length r.connections)

weaker : {A : Type 0} (P Q : A → Type 0) (r : Result A Refusal) → ((a : A) → P a → Q a) → IfRead r P → IfRead r Q
weaker P Q (Ok a) f p = f a p
weaker P Q (Err e) f p = tt

format_report : (total : ℕ) (format : ℕ × List ℕ) → IfRead (in_format total format) CanReport
format_report total format = by_version (format.0 == 1)
  where
    by_version : (first : Bool) → IfRead (cond first (entries_of total 1 false 0 format.1) (and_then (λ (count : ℕ × List ℕ). entries_of total 2 true (count.0 - 1) count.1) (connection_count total format.1))) CanReport
    by_version true = weaker (HasSo 1 1) CanReport (entries_of total 1 false 0 format.1) (λ r has. inl has) (entries_count total 1 false 0 format.1)
    by_version false =
        read_then (λ (count : ℕ × List ℕ). entries_of total 2 true (count.0 - 1) count.1) Anything CanReport (connection_count total format.1) (anything (connection_count total format.1)) (λ count done.
        weaker (HasSo 2 (count.0 - 1 + 1)) CanReport (entries_of total 2 true (count.0 - 1) count.1) (λ r has. inr has.0) (entries_count total 2 true (count.0 - 1) count.1))

record_report : (text : List ℕ) → IfRead (record_of text) CanReport
unfolding record_of
record_report text = by_size (nat_le (length text) 67108864)
  where
    by_size : (short : Bool) → IfRead (cond short (and_then (in_format (length text)) (or_refuse (length text) text kinds.Header (format_of text))) (Err (record { place = 67108864; kind = kinds.Limit }))) CanReport
    by_size true = read_then (in_format (length text)) Anything CanReport (or_refuse (length text) text kinds.Header (format_of text)) (anything (or_refuse (length text) text kinds.Header (format_of text))) (λ format done. format_report (length text) format)
    by_size false = tt

-- a record that is accepted can be reported in its format
pub reportable : (text : List ℕ) (r : Recorded) → record_of text ≡ Ok r → Reportable r.version (length r.connections)
reportable text r e = let P : Result Recorded Refusal → Type 0 = λ o. IfRead o CanReport in subst P e (record_report text)
