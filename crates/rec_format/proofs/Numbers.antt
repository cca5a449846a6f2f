-- Each turn of an accepted record is one of its connections.
use Rattle.std.proofs.Common.{◌≡◌, ℕ, zero, suc, ◌+◌, ◌-◌, ◌<◌, ◌≤◌, ◌==◌, ◌&&◌, Bool, true, false, List, length, Option, Some, None, refl, sym, subst, cond, arith}
use Rattle.std.specs.Prelude.{Result, Ok, Err, nat_le, codes, option_map}
use Rattle.std.specs.Option.{option_and_then}
use Rattle.std.proofs.lemmas.Bool.{leb-true}
use Rattle.std.specs.Str.{bytes_eq}
use Rattle.px_link.specs.declared.turns.Turn.{Turn}
use Rattle.rec_format.specs.declared.record.RecKind.{RecKind}
use Rattle.rec_format.specs.declared.record.RecKind.TheVariants as kinds
use Rattle.rec_format.specs.Pieces.{before, behind, number_of}
use Rattle.rec_format.specs.Entries.{up_to, moved, turn_words, turn_entry}
use Rattle.rec_format.specs.Recorded.{Moves, Recorded, Refusal, and_then, or_refuse, refuse, visits_of, with_turn, turn_count, turns_of, end_of, recorded, entries_of, word_of, within_connections, some_number, connection_count, in_format, format_of, record_of}
use Rattle.rec_format.specs.Numbered.{AreNumbered, IsNumbered}
use Rattle.rec_format.proofs.Formats.{IfRead, read_then, Anything, anything, So, visits_count}

-- what is there has this property
abbrev IfThere : {A : Type 0} → Option A → (A → Type 0) → Type 0
IfThere None P = Unit {0}
IfThere (Some a) P = P a

there_then : {A B : Type 0} (f : A → Option B) (P : A → Type 0) (Q : B → Type 0) (o : Option A) → IfThere o P → ((a : A) → P a → IfThere (f a) Q) → IfThere (option_and_then f o) Q
there_then f P Q (Some a) p g = g a p
there_then f P Q None p g = tt

there_map : {A B : Type 0} (f : A → B) (Q : B → Type 0) (o : Option A) → IfThere o (λ a. Q (f a)) → IfThere (option_map f o) Q
there_map f Q (Some a) p = p
there_map f Q None p = tt

something : {A : Type 0} (o : Option A) → IfThere o Anything
something (Some a) = tt
something None = tt

whatever : {A : Type 0} (Q : A → Type 0) (o : Option A) → ((a : A) → Q a) → IfThere o Q
whatever Q (Some a) q = q a
whatever Q None q = tt

read_there : {A : Type 0} (total : ℕ) (text : List ℕ) (kind : RecKind) (P : A → Type 0) (o : Option A) → IfThere o P → IfRead (or_refuse total text kind o) P
read_there total text kind P (Some a) p = p
read_there total text kind P None p = tt

-- ---- a turn

abbrev Within : ℕ → ℕ → Type 0
Within most n = (0 < n) × (n ≤ most)

first_true : (a b : Bool) → (a && b) ≡ true → a ≡ true
first_true true b e = refl
first_true false b e = e

second_true : (a b : Bool) → (a && b) ≡ true → b ≡ true
second_true true b e = e
second_true false b e = absurd cc

tested : (most n : ℕ) (b : Bool) → (nat_le 1 n && nat_le n most) ≡ b → IfThere (cond b (Some n) None) (Within most)
tested most n true e =
    let least = leb-true 1 n (first_true (nat_le 1 n) (nat_le n most) e) in
    (omega arith, leb-true n most (second_true (nat_le 1 n) (nat_le n most) e))
tested most n false e = tt

up_to_within : (most : ℕ) (word : List ℕ) → IfThere (up_to most word) (Within most)
up_to_within most word =
    there_then _ Anything (Within most) (number_of word) (something (number_of word)) (λ n done. tested most n (nat_le 1 n && nat_le n most) refl)

abbrev Owns : ℕ → ℕ × Turn → Type 0
Owns connections turn = Within connections turn.0

words_within : (names : Bool) (connections : ℕ) (line : List ℕ) → 1 ≤ connections → IfThere (turn_words names connections line) (Owns connections)
words_within false connections line some = there_map (λ (turn : Turn). (1, turn)) (Owns connections) (moved line) (whatever _ (moved line) (λ turn. (omega arith, some)))
words_within true connections line some =
    there_then _ Anything (Owns connections) (behind 32 line) (something (behind 32 line)) (λ words done.
    there_then _ (Within connections) (Owns connections) (up_to connections (before 32 line)) (up_to_within connections (before 32 line)) (λ owner within.
    there_map (λ (turn : Turn). (owner, turn)) (Owns connections) (moved words) (whatever _ (moved words) (λ turn. within))))

abbrev Fronts : ℕ → (ℕ × Turn) × List ℕ → Type 0
Fronts connections entry = Owns connections entry.0

entry_within : (names : Bool) (connections : ℕ) (line : List ℕ) (after : Option (List ℕ)) → 1 ≤ connections → IfThere (turn_entry names connections line after) (Fronts connections)
entry_within names connections line after some =
    there_then _ Anything (Fronts connections) after (something after) (λ text done.
    there_map (λ (turn : ℕ × Turn). (turn, text)) (Fronts connections) (turn_words names connections line) (words_within names connections line some))

-- ---- all turns

abbrev Numbers : ℕ → Moves → Type 0
Numbers connections moves = AreNumbered connections moves.0

turns_within : (total : ℕ) (numbered : Bool) (connections more : ℕ) (text : List ℕ) → 1 ≤ connections → IfRead (turns_of total numbered connections more text) (Numbers connections)
turns_within total numbered connections zero text some = tt
turns_within total numbered connections (suc more) text some =
    let entry = turn_entry numbered connections (before 10 text) (behind 10 text) in
    read_then _ (Fronts connections) (Numbers connections) (or_refuse total text kinds.Turn entry) (read_there total text kinds.Turn (Fronts connections) entry (entry_within numbered connections (before 10 text) (behind 10 text) some)) (λ first owns.
    read_then (with_turn first.0) (Numbers connections) (Numbers connections) (turns_of total numbered connections more first.1) (turns_within total numbered connections more first.1 some) (λ others within. (owns, within)))

-- ---- the record

abbrev HasTurns : (connections : ℕ) → Recorded → Type 0
HasTurns connections r = (length r.connections ≡ connections) × AreNumbered connections r.turns

entries_within : (total version : ℕ) (numbered : Bool) (more : ℕ) (text : List ℕ) → IfRead (entries_of total version numbered more text) (HasTurns (more + 1))
entries_within total version numbered more text =
    let some : 1 ≤ more + 1 = omega arith in
    read_then _ (So more) (HasTurns (more + 1)) (visits_of total numbered more 65536 text) (visits_count total numbered more 65536 text) (λ visits count.
    read_then _ Anything (HasTurns (more + 1)) (turn_count total visits.1) (anything (turn_count total visits.1)) (λ turns done.
    read_then _ (Numbers (more + 1)) (HasTurns (more + 1)) (turns_of total numbered (more + 1) turns.0 turns.1) (turns_within total numbered (more + 1) turns.0 turns.1 some) (λ moves within.
    read_then (recorded version visits.0 moves.0) Anything (HasTurns (more + 1)) (end_of total moves.1) (anything (end_of total moves.1)) (λ rest done. (count, within)))))

numbered_by : (connections : ℕ) (r : Recorded) → connections ≤ 1024 → HasTurns connections r → IsNumbered r
numbered_by connections r few has =
    let P : ℕ → Type 0 = λ n. AreNumbered n r.turns in
    record { few = omega (arith, has.0); turns = subst P (sym has.0) has.1 }

weaker : {A : Type 0} (P Q : A → Type 0) (r : Result A Refusal) → ((a : A) → P a → Q a) → IfRead r P → IfRead r Q
weaker P Q (Ok a) f p = f a p
weaker P Q (Err e) f p = tt

abbrev Few : ℕ × List ℕ → Type 0
Few count = count.0 ≤ 1024

few_by : (total : ℕ) (text : List ℕ) (count : ℕ × List ℕ) (b early : Bool) → nat_le count.0 1024 ≡ b → IfRead (cond b (cond early (refuse total count.1 kinds.Count) (Ok count)) (refuse total text kinds.Limit)) Few
few_by total text count true true e = tt
few_by total text count true false e = leb-true count.0 1024 e
few_by total text count false early e = tt

few_read : (total : ℕ) (text : List ℕ) (r : Result (ℕ × List ℕ) Refusal) → IfRead (and_then (within_connections total text) r) Few
few_read total text r =
    read_then (within_connections total text) Anything Few r (anything r) (λ count done. few_by total text count (nat_le count.0 1024) (bytes_eq (word_of count.1) (codes "turns")) refl)

few_connections : (total : ℕ) (text : List ℕ) → IfRead (connection_count total text) Few
few_connections total text =
    few_read total text (or_refuse total text kinds.Count (option_and_then (λ rest. option_and_then (λ word. cond (bytes_eq (word_of text) (codes "connections")) (option_map (λ (count : ℕ). (count, rest)) (some_number word)) None) (behind 32 (before 10 text))) (behind 10 text)))

format_within : (total : ℕ) (format : ℕ × List ℕ) → IfRead (in_format total format) IsNumbered
format_within total format = by_version (format.0 == 1)
  where
    by_version : (first : Bool) → IfRead (cond first (entries_of total 1 false 0 format.1) (and_then (λ (count : ℕ × List ℕ). entries_of total 2 true (count.0 - 1) count.1) (connection_count total format.1))) IsNumbered
    by_version true = weaker (HasTurns 1) IsNumbered (entries_of total 1 false 0 format.1) (λ r has. numbered_by 1 r (omega arith) has) (entries_within total 1 false 0 format.1)
    by_version false =
        read_then (λ (count : ℕ × List ℕ). entries_of total 2 true (count.0 - 1) count.1) Few IsNumbered (connection_count total format.1) (few_connections total format.1) (λ count few.
        weaker (HasTurns (count.0 - 1 + 1)) IsNumbered (entries_of total 2 true (count.0 - 1) count.1) (λ r has. numbered_by (count.0 - 1 + 1) r (omega (arith, few)) has) (entries_within total 2 true (count.0 - 1) count.1))

record_within : (text : List ℕ) → IfRead (record_of text) IsNumbered
unfolding record_of
record_within text = by_size (nat_le (length text) 67108864)
  where
    by_size : (short : Bool) → IfRead (cond short (and_then (in_format (length text)) (or_refuse (length text) text kinds.Header (format_of text))) (Err (record { place = 67108864; kind = kinds.Limit }))) IsNumbered
    by_size true = read_then (in_format (length text)) Anything IsNumbered (or_refuse (length text) text kinds.Header (format_of text)) (anything (or_refuse (length text) text kinds.Header (format_of text))) (λ format done. format_within (length text) format)
    by_size false = tt

-- each turn of a record that is accepted is one of its connections
pub numbered : (text : List ℕ) (r : Recorded) → record_of text ≡ Ok r → IsNumbered r
numbered text r e = let P : Result Recorded Refusal → Type 0 = λ o. IfRead o IsNumbered in subst P e (record_within text)
