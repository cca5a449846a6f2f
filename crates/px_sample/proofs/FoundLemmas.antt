-- What a search for a name says, and what is left where the variable is taken out.
use Rattle.std.proofs.Common.{◌≡◌, ℕ, ◌+◌, ◌<◌, ◌≤◌, true, false, List, ◌∷◌, length, get_or, take, drop, refl, ap, ◌∙◌, arith, sum_by, Option, Some, None}
use Rattle.std.specs.Prelude.{remove}
use Rattle.std.specs.Str.{bytes_eq}
use Rattle.std.proofs.lemmas.Slice.Eq.{bytes_eq-Decides}
use Rattle.std.proofs.lemmas.Option.{MatchOption-at_some, MatchOption-at_none}
use Rattle.std.proofs.lemmas.List.{drop_more, drop-drop, length-drop}
use Rattle.std.proofs.lemmas.List.Sums.{sum_by-remove}
use Rattle.px_sample.specs.Entry.{load, weight, lookup, without, are_distinct}
use Rattle.px_sample.specs.Shape.{IsShape}
use Rattle.px_sample.specs.declared.form.Form.{Form}
use Rattle.px_sample.specs.declared.slot.Slot.{Slot}
use Rattle.px_sample.specs.declared.spot.Spot.{Spot}
use Rattle.px_sample.specs.Slot.{len_of, value_of, entry_of, entries_of, FoundAt, IsFound, freed_by}
use Rattle.px_sample.proofs.EntryLemmas.{lookup-named, lookup-other, without-absent, without-found}
use Rattle.px_sample.proofs.SlotLemmas.{length-entries_of, load-entries_of, get_or-entries_of, found_named, weight-entry_of, within_found, size-value_of}

abbrev total : List Slot → ℕ
total slots = sum_by len_of slots

-- the search has come to the slot at an index
record Reached (ss : List Slot) (bytes name : List ℕ) (i at : ℕ) (s : Slot) : Type 0 where
  inside : i < length ss
  is_slot : s ≡ get_or ss i s
  starts : at ≡ total (take i ss)
  rest : lookup name (entries_of ss bytes) ≡ lookup name (entries_of (drop i ss) (drop at bytes))

front : (ss : List Slot) (bytes name : List ℕ) (i at : ℕ) (s : Slot) → Reached ss bytes name i at s → lookup name (entries_of ss bytes) ≡ lookup name (entry_of s (drop at bytes) ∷ entries_of (drop (i + 1) ss) (drop (at + len_of s) bytes))
front ss bytes name i at s h =
    let split = drop_more ss i s h.inside in
    let is = h.is_slot in
    let rest = h.rest in
    let skip = drop-drop (len_of s) at bytes in
    cc

-- its name is the one that is sought
pub found_here : (ss : List Slot) (bytes name : List ℕ) (i at : ℕ) (s : Slot) → i < length ss → s ≡ get_or ss i s → at ≡ total (take i ss) →
    lookup name (entries_of ss bytes) ≡ lookup name (entries_of (drop i ss) (drop at bytes)) → bytes_eq (take s.name (drop at bytes)) name ≡ true → FoundAt ss bytes name i at s
found_here ss bytes name i at s inside is starts rest same =
    let ahead = front ss bytes name i at s (record { inside = inside; is_slot = is; starts = starts; rest = rest }) in
    record {
      inside = inside;
      starts = starts;
      is_slot = is;
      named = (bytes_eq-Decides (take s.name (drop at bytes)) name).0 same;
      value = ahead ∙ lookup-named name (entry_of s (drop at bytes)) (entries_of (drop (i + 1) ss) (drop (at + len_of s) bytes)) same;
    }

-- its name is another
pub lookup_more : (ss : List Slot) (bytes name : List ℕ) (i at : ℕ) (s : Slot) → i < length ss → s ≡ get_or ss i s → at ≡ total (take i ss) →
    lookup name (entries_of ss bytes) ≡ lookup name (entries_of (drop i ss) (drop at bytes)) → bytes_eq (take s.name (drop at bytes)) name ≡ false →
    lookup name (entries_of ss bytes) ≡ lookup name (entries_of (drop (i + 1) ss) (drop (at + len_of s) bytes))
lookup_more ss bytes name i at s inside is starts rest other =
    front ss bytes name i at s (record { inside = inside; is_slot = is; starts = starts; rest = rest })
    ∙ lookup-other name (entry_of s (drop at bytes)) (entries_of (drop (i + 1) ss) (drop (at + len_of s) bytes)) other

-- ---- what is left

pub without_spot : (ss : List Slot) (bytes name : List ℕ) (found : Option Spot) (spot : Spot) → IsFound ss bytes name found → found ≡ Some spot → are_distinct (entries_of ss bytes) ≡ true →
    without name (entries_of ss bytes) ≡ remove (entries_of ss bytes) spot.index
without_spot ss bytes name found spot h is distinct =
    let at : FoundAt ss bytes name spot.index spot.at spot.slot = MatchOption-at_some _ _ spot is h in
    let d = entry_of spot.slot bytes in
    without-found name (entries_of ss bytes) spot.index d distinct (rw (length-entries_of ss bytes) at.inside) (found_named ss bytes name spot.index spot.at spot.slot d at)

pub without_none : (ss : List Slot) (bytes name : List ℕ) (found : Option Spot) → IsFound ss bytes name found → found ≡ None → without name (entries_of ss bytes) ≡ entries_of ss bytes
without_none ss bytes name found h is = without-absent name (entries_of ss bytes) (MatchOption-at_none _ _ is h)

-- what the others count
pub load_without : (ss : List Slot) (bytes name : List ℕ) (found : Option Spot) → IsFound ss bytes name found → are_distinct (entries_of ss bytes) ≡ true → total ss ≤ length bytes →
    load (without name (entries_of ss bytes)) + freed_by found ≡ total ss
load_without ss bytes name None h distinct inside =
    let same = ap load (without_none ss bytes name None h refl) in
    let all = load-entries_of ss bytes inside in
    omega arith
load_without ss bytes name (Some spot) h distinct inside =
    let d = entry_of spot.slot bytes in
    let left = ap load (without_spot ss bytes name (Some spot) spot h refl distinct) in
    let all = load-entries_of ss bytes inside in
    let at_most : spot.index < length (entries_of ss bytes) = rw (length-entries_of ss bytes) h.inside in
    let here = get_or-entries_of ss bytes spot.index spot.slot d h.inside h.is_slot in
    let weighs = ap weight here in
    let counts = weight-entry_of spot.slot (drop (total (take spot.index ss)) bytes) (simp length-drop (omega (arith, within_found ss bytes name spot.index spot.at spot.slot h inside))) in
    omega (arith, sum_by-remove weight (entries_of ss bytes) spot.index d at_most)

-- what a variable of this form counts
pub weight_of_form : (name value : List ℕ) (form : Form) → IsShape form (length value) → weight (name, value_of form value) ≡ length name + length value
weight_of_form name value form shaped = omega (arith, size-value_of form value shaped)
