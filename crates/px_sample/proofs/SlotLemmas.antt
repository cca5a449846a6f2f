-- Variables that lie one after another: what an edit of slots and bytes does to the list of them.
use Rattle.std.proofs.Common.{◌≡◌, ℕ, zero, suc, ◌+◌, ◌<◌, ◌≤◌, List, [], ◌∷◌, ◌++◌, length, get_or, take, drop, refl, ap, sym, add-one, arith, length-append, length-drop, sum_by, ◌∙◌, true}
use Rattle.std.specs.Prelude.{remove, insert}
use Rattle.std.proofs.lemmas.List.{take-append-drop, append_assoc, drop-drop, take_at, drop_at, take_all, take-append-le, drop-append-le, length-take-le}
use Rattle.std.proofs.lemmas.List.Sums.{sum_by-cons, sum_by-take-le, sum_by_more, sum_by_more_le, sum_by-insert, sum_by-remove}
use Rattle.px_sample.specs.Entry.{Entry, load, weight, size_of, is_named}
use Rattle.px_sample.specs.Shape.{IsShape}
use Rattle.std.proofs.lemmas.Slice.Eq.{bytes_eq-Decides}
use Rattle.px_sample.specs.declared.form.Form.{Form}
use Rattle.px_sample.specs.declared.form.Form.TheVariants as forms
use Rattle.px_sample.specs.declared.slot.Slot.{Slot}
use Rattle.px_sample.specs.Slot.{len_of, value_of, entry_of, entries_of, FoundAt}

abbrev total : List Slot → ℕ
total slots = sum_by len_of slots

pub length-entries_of : (ss : List Slot) (bytes : List ℕ) → length (entries_of ss bytes) ≡ length ss
length-entries_of [] bytes = refl
length-entries_of (s ∷ ss) bytes = ap suc (length-entries_of ss (drop (len_of s) bytes))

entries_of-append : (ss rs : List Slot) (bytes : List ℕ) → entries_of (ss ++ rs) bytes ≡ entries_of ss bytes ++ entries_of rs (drop (total ss) bytes)
entries_of-append [] rs bytes = refl
entries_of-append (s ∷ ss) rs bytes =
    let step = entries_of-append ss rs (drop (len_of s) bytes) in
    let skip = drop-drop (total ss) (len_of s) bytes in
    let sum = sum_by-cons len_of s ss in
    cc

-- bytes past a part don't matter to it
part-front : (at n : ℕ) (xs ys : List ℕ) → at + n ≤ length xs → take n (drop at (xs ++ ys)) ≡ take n (drop at xs)
part-front at n xs ys h =
    let at_fits : at ≤ length xs = omega arith in
    let n_fits : n ≤ length (drop at xs) = simp length-drop (omega arith) in
    rw (drop-append-le at xs ys at_fits) (take-append-le n (drop at xs) ys n_fits)

entry_of-front : (s : Slot) (xs ys : List ℕ) → len_of s ≤ length xs → entry_of s (xs ++ ys) ≡ entry_of s xs
entry_of-front s xs ys h =
    let name : take s.name (xs ++ ys) ≡ take s.name xs = take-append-le s.name xs ys (omega arith) in
    let value = part-front s.name s.value xs ys (omega arith) in
    rw (name, value) refl

-- bytes past the last variable don't matter
entries_of-front : (ss : List Slot) (xs ys : List ℕ) → total ss ≤ length xs → entries_of ss (xs ++ ys) ≡ entries_of ss xs
entries_of-front [] xs ys h = refl
entries_of-front (s ∷ ss) xs ys h =
    let sum = sum_by-cons len_of s ss in
    let here = entry_of-front s xs ys (omega arith) in
    let skip = drop-append-le (len_of s) xs ys (omega arith) in
    let rest = entries_of-front ss (drop (len_of s) xs) ys (simp length-drop (omega arith)) in
    cc

pub take-entries_of : (i : ℕ) (ss : List Slot) (bytes : List ℕ) → take i (entries_of ss bytes) ≡ entries_of (take i ss) bytes
take-entries_of zero ss bytes = refl
take-entries_of (suc i) [] bytes = refl
take-entries_of (suc i) (s ∷ ss) bytes = ap (λ es. entry_of s bytes ∷ es) (take-entries_of i ss (drop (len_of s) bytes))

pub drop-entries_of : (i : ℕ) (ss : List Slot) (bytes : List ℕ) → drop i (entries_of ss bytes) ≡ entries_of (drop i ss) (drop (total (take i ss)) bytes)
drop-entries_of zero ss bytes = refl
drop-entries_of (suc i) [] bytes = refl
drop-entries_of (suc i) (s ∷ ss) bytes =
    let step = drop-entries_of i ss (drop (len_of s) bytes) in
    let skip = drop-drop (total (take i ss)) (len_of s) bytes in
    let sum = sum_by-cons len_of s (take i ss) in
    cc

-- what lies between two indices is taken out
pub entries_of-cut : (ss : List Slot) (bytes : List ℕ) (a c : ℕ) → total ss ≤ length bytes →
    entries_of (take a ss ++ drop c ss) (take (total (take a ss)) bytes ++ drop (total (take c ss)) bytes) ≡ take a (entries_of ss bytes) ++ drop c (entries_of ss bytes)
entries_of-cut ss bytes a c h =
    let p = total (take a ss) in
    let below : p ≤ total ss = sum_by-take-le len_of ss a in
    let front_len : length (take p bytes) ≡ p = length-take-le p bytes (omega arith) in
    let rest = drop (total (take c ss)) bytes in
    let split = entries_of-append (take a ss) (drop c ss) (take p bytes ++ rest) in
    let front = entries_of-front (take a ss) (take p bytes) rest (omega arith) in
    let front_old = entries_of-front (take a ss) (take p bytes) (drop p bytes) (omega arith) in
    let whole = take-append-drop p bytes in
    let back = drop_at (take p bytes) rest p front_len in
    let taken = take-entries_of a ss bytes in
    let dropped = drop-entries_of c ss bytes in
    cc

-- a variable is taken out
pub entries_of-remove : (ss : List Slot) (bytes : List ℕ) (i : ℕ) (s : Slot) → total ss ≤ length bytes → i < length ss → s ≡ get_or ss i s →
    entries_of (remove ss i) (take (total (take i ss)) bytes ++ drop (total (take i ss) + len_of s) bytes) ≡ remove (entries_of ss bytes) i
entries_of-remove ss bytes i s h within e =
    let cut = entries_of-cut ss bytes i (suc i) h in
    let more = sum_by_more len_of ss i s within in
    let one = add-one i in
    cc

entry_of-parts : (s : Slot) (name value : List ℕ) → s.name ≡ length name → s.value ≡ length value → entry_of s (name ++ value) ≡ (name, value_of s.form value)
entry_of-parts s name value hn hv =
    let first = take_at name value s.name (sym hn) in
    let after = drop_at name value s.name (sym hn) in
    let second = take_all s.value value (omega arith) in
    rw (first, after, second) refl

-- a variable is put before the one at an index, or behind the last
pub entries_of-insert : (ss : List Slot) (bytes name value : List ℕ) (i : ℕ) (s : Slot) → total ss ≤ length bytes → i ≤ length ss → s.name ≡ length name → s.value ≡ length value →
    entries_of (insert ss i s) (take (total (take i ss)) bytes ++ name ++ value ++ drop (total (take i ss)) bytes) ≡ insert (entries_of ss bytes) i (name, value_of s.form value)
entries_of-insert ss bytes name value i s h within hn hv =
    let p = total (take i ss) in
    let below : p ≤ total ss = sum_by-take-le len_of ss i in
    let front_len : length (take p bytes) ≡ p = length-take-le p bytes (omega arith) in
    let rest = name ++ value ++ drop p bytes in
    let grouped : take p bytes ++ name ++ value ++ drop p bytes ≡ take p bytes ++ rest =
    ap (λ xs. xs ++ drop p bytes) (append_assoc (take p bytes) name value) ∙ append_assoc (take p bytes) (name ++ value) (drop p bytes) in
    let split = entries_of-append (take i ss) (s ∷ drop i ss) (take p bytes ++ rest) in
    let front = entries_of-front (take i ss) (take p bytes) rest (omega arith) in
    let front_old = entries_of-front (take i ss) (take p bytes) (drop p bytes) (omega arith) in
    let whole = take-append-drop p bytes in
    let back = drop_at (take p bytes) rest p front_len in
    let long : length (name ++ value) ≡ len_of s = omega (arith, length-append name value) in
    let here = entry_of-front s (name ++ value) (drop p bytes) (omega arith) in
    let is = entry_of-parts s name value hn hv in
    let after = drop_at (name ++ value) (drop p bytes) (len_of s) long in
    let taken = take-entries_of i ss bytes in
    let dropped = drop-entries_of i ss bytes in
    cc

-- ---- what they count

pub size-value_of : (form : Form) (bytes : List ℕ) → IsShape form (length bytes) → size_of (value_of form bytes) ≡ length bytes
size-value_of forms.Truth bytes h = sym (h.truth refl)
size-value_of forms.Number bytes h = sym (h.number refl)
size-value_of forms.Bytes bytes h = refl

pub weight-entry_of : (s : Slot) (bytes : List ℕ) → len_of s ≤ length bytes → weight (entry_of s bytes) ≡ len_of s
weight-entry_of s bytes h =
    let name : length (take s.name bytes) ≡ s.name = length-take-le s.name bytes (omega arith) in
    let value : length (take s.value (drop s.name bytes)) ≡ s.value = length-take-le s.value (drop s.name bytes) (simp length-drop (omega arith)) in
    let size = size-value_of s.form (take s.value (drop s.name bytes)) (rw value s.shaped) in
    omega arith

pub load-entries_of : (ss : List Slot) (bytes : List ℕ) → total ss ≤ length bytes → load (entries_of ss bytes) ≡ total ss
load-entries_of [] bytes h = refl
load-entries_of (s ∷ ss) bytes h =
    let sum = sum_by-cons len_of s ss in
    let here = weight-entry_of s bytes (omega arith) in
    let rest = load-entries_of ss (drop (len_of s) bytes) (simp length-drop (omega arith)) in
    omega (arith, sum_by-cons weight (entry_of s bytes) (entries_of ss (drop (len_of s) bytes)))

-- the variable at an index
pub get_or-entries_of : (ss : List Slot) (bytes : List ℕ) (i : ℕ) (s : Slot) (e : Entry) → i < length ss → s ≡ get_or ss i s →
    get_or (entries_of ss bytes) i e ≡ entry_of s (drop (total (take i ss)) bytes)
get_or-entries_of [] bytes i s e inside is = absurd (omega arith)
get_or-entries_of (r ∷ ss) bytes zero s e inside is = ap (λ x. entry_of x bytes) (sym is)
get_or-entries_of (r ∷ ss) bytes (suc i) s e inside is =
    let step = get_or-entries_of ss (drop (len_of r) bytes) i s e (omega arith) is in
    let skip = drop-drop (total (take i ss)) (len_of r) bytes in
    let sum = sum_by-cons len_of r (take i ss) in
    cc

-- where the one behind it begins
pub total_more : (ss : List Slot) (i at : ℕ) (s : Slot) → i < length ss → s ≡ get_or ss i s → at ≡ total (take i ss) → at + len_of s ≡ total (take (i + 1) ss)
total_more ss i at s inside is starts =
    let sum = sum_by_more len_of ss i s inside in
    let here : get_or ss i s ≡ s = sym is in
    let len = ap len_of here in
    omega arith

-- the variable that was found has the name
pub found_named : (ss : List Slot) (bytes name : List ℕ) (i at : ℕ) (s : Slot) (d : Entry) → FoundAt ss bytes name i at s → is_named name (get_or (entries_of ss bytes) i d) ≡ true
found_named ss bytes name i at s d h =
    let here = get_or-entries_of ss bytes i s d h.inside h.is_slot in
    let starts = h.starts in
    let named = h.named in
    let same : (get_or (entries_of ss bytes) i d).0 ≡ name = cc in
    (bytes_eq-Decides (get_or (entries_of ss bytes) i d).0 name).1 same

-- it lies in the bytes
pub within_found : (ss : List Slot) (bytes name : List ℕ) (i at : ℕ) (s : Slot) → FoundAt ss bytes name i at s → total ss ≤ length bytes → total (take i ss) + len_of s ≤ length bytes
within_found ss bytes name i at s h inside =
    let is : get_or ss i s ≡ s = sym h.is_slot in
    let sum = sum_by_more_le len_of ss i s h.inside in
    let len = ap len_of is in
    omega arith

pub ruleset laid = (length-entries_of, entries_of-remove, entries_of-insert, sum_by-take-le, sum_by_more_le, sum_by-insert, sum_by-remove)
