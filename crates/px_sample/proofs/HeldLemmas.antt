-- Kept variables: where those of a scope lie, and that an edit of them keeps the rest.
use Rattle.std.proofs.Common.{◌≡◌, ℕ, ◌+◌, ◌-◌, ◌*◌, ◌<◌, ◌≤◌, List, [], ◌++◌, length, get_or, take, drop, refl, ap, sym, subst, ◌∙◌, arith, length-append, length-drop, sum_by, vec_len, vec_capacity, Option, Some, None}
use Rattle.std.specs.Prelude.{remove}
use Rattle.std.proofs.Math.Seq.{take-add}
use Rattle.std.proofs.lemmas.List.{take-append-drop, append_assoc, drop-drop, take_at, drop_at, take-take, length-take-le, get_or-take, get_or-drop}
use Rattle.std.proofs.lemmas.List.Sums.{sum_by-append, sum_by-take-le, sum_by_more_le}
use Rattle.std.proofs.lemmas.Option.{MatchOption-at_some, MatchOption-at_none}
use Rattle.std.proofs.lemmas.List.Edits.{remove-append_left, remove-append_right, length-remove}
use Rattle.px_sample.specs.declared.kept.Kept.{Kept}
use Rattle.px_sample.specs.declared.scope.Scope.{Scope}
use Rattle.px_sample.specs.declared.scope.Scope.TheVariants.{Sess, Txn, Req, Res}
use Rattle.px_sample.specs.declared.share.Share.{Share}
use Rattle.px_sample.specs.declared.share.Shares.{Shares}
use Rattle.px_sample.specs.declared.slot.Slot.{Slot}
use Rattle.px_sample.specs.declared.spot.Spot.{Spot}
use Rattle.px_sample.specs.Entry.{Entry, load, lookup, without, are_distinct}
use Rattle.px_sample.specs.Slot.{len_of, value_of, entries_of, FoundAt, freed_by}
use Rattle.px_sample.specs.Variables.{Variables, entries_in, with_entries, unset_variable, clear_scope}
use Rattle.px_sample.specs.Shares.{share_of, with_share, slots_before, bytes_before, part, parted}
use Rattle.px_sample.specs.Held.{variables_of, IsShare, IsHeld, IsFoundIn}
use Rattle.px_sample.proofs.EntryLemmas.{distinct-without}
use Rattle.px_sample.proofs.SlotLemmas.{length-entries_of, load-entries_of, take-entries_of, drop-entries_of, entries_of-cut}
use Rattle.px_sample.proofs.FoundLemmas.{without_spot, without_none, load_without}
use Rattle.px_sample.proofs.PartLemmas.{joined, before, behind, Counted, joined-with, joined-scope, entries_in-parted, joined-parted, parted-joined, length-before, load-before, length-joined, load-joined, counted-with, with_entries-same}

abbrev total : List Slot → ℕ
total slots = sum_by len_of slots

abbrev pub all_of : Kept → List Entry
all_of k = entries_of k.slots.items k.bytes.items

all-joined : (k : Kept) → IsHeld k → joined (variables_of k) ≡ all_of k
all-joined k h = joined-parted k.shares (all_of k) (omega (arith, h.whole, k.slots.ok.0, length-entries_of k.slots.items k.bytes.items))

-- all of them around those of a scope
pub around : (k : Kept) (scope : Scope) → IsHeld k → all_of k ≡ before (variables_of k) scope ++ (entries_in (variables_of k) scope ++ behind (variables_of k) scope)
around k scope h = sym (all-joined k h) ∙ joined-scope (variables_of k) scope

-- ---- where those of a scope lie

pub slots_inside : (k : Kept) (scope : Scope) → IsHeld k → slots_before k.shares scope + (share_of k.shares scope).slots ≤ length k.slots.items
slots_inside k Sess h = omega (arith, h.whole, k.slots.ok.0)
slots_inside k Txn h = omega (arith, h.whole, k.slots.ok.0)
slots_inside k Req h = omega (arith, h.whole, k.slots.ok.0)
slots_inside k Res h = omega (arith, h.whole, k.slots.ok.0)

pub bytes_all : (k : Kept) → IsHeld k → length k.bytes.items ≡ k.shares.sess.bytes + (k.shares.txn.bytes + (k.shares.req.bytes + k.shares.res.bytes))
bytes_all k h =
    let all = load-joined k.shares (variables_of k) h.each in
    let same = ap load (all-joined k h) in
    let loads = load-entries_of k.slots.items k.bytes.items (omega (arith, h.gapless, k.bytes.ok.0)) in
    omega (arith, h.gapless, k.bytes.ok.0)

pub bytes_small : (k : Kept) → IsHeld k → length k.bytes.items ≤ 4 * 4096
bytes_small k h = omega (arith, bytes_all k h, (h.each Sess).small, (h.each Txn).small, (h.each Req).small, (h.each Res).small)

pub bytes_inside : (k : Kept) (scope : Scope) → IsHeld k → bytes_before k.shares scope + (share_of k.shares scope).bytes ≤ length k.bytes.items
bytes_inside k Sess h = omega (arith, bytes_all k h)
bytes_inside k Txn h = omega (arith, bytes_all k h)
bytes_inside k Req h = omega (arith, bytes_all k h)
bytes_inside k Res h = omega (arith, bytes_all k h)

pub starts_at : (k : Kept) (scope : Scope) → IsHeld k → bytes_before k.shares scope ≡ total (take (slots_before k.shares scope) k.slots.items)
starts_at k scope h =
    let v = variables_of k in
    let a = slots_before k.shares scope in
    let first = take_at (before v scope) (entries_in v scope ++ behind v scope) a (length-before k.shares v scope h.each) in
    let is : entries_of (take a k.slots.items) k.bytes.items ≡ before v scope = sym (take-entries_of a k.slots.items k.bytes.items) ∙ (ap (take a) (around k scope h) ∙ first) in
    let least = sum_by-take-le len_of k.slots.items a in
    let loads = load-entries_of (take a k.slots.items) k.bytes.items (omega (arith, h.gapless, k.bytes.ok.0)) in
    sym (load-before k.shares v scope h.each) ∙ (ap load (sym is) ∙ loads)

-- those of a scope, and what they count
pub own_are : (k : Kept) (scope : Scope) → IsHeld k → entries_of (part k.shares scope k.slots.items) (drop (bytes_before k.shares scope) k.bytes.items) ≡ entries_in (variables_of k) scope
own_are k scope h =
    let a = slots_before k.shares scope in
    let n = (share_of k.shares scope).slots in
    let starts = starts_at k scope h in
    let dropped = drop-entries_of a k.slots.items k.bytes.items in
    let taken = take-entries_of n (drop a k.slots.items) (drop (bytes_before k.shares scope) k.bytes.items) in
    let is = entries_in-parted k.shares scope (all_of k) in
    cc

pub own_within : (k : Kept) (scope : Scope) → IsHeld k → total (part k.shares scope k.slots.items) ≤ length (drop (bytes_before k.shares scope) k.bytes.items)
own_within k scope h =
    let a = slots_before k.shares scope in
    let split = ap total (take-append-drop a k.slots.items) in
    let sum = sum_by-append len_of (take a k.slots.items) (drop a k.slots.items) in
    let least = sum_by-take-le len_of (drop a k.slots.items) (share_of k.shares scope).slots in
    let starts = starts_at k scope h in
    simp length-drop (omega (arith, h.gapless, k.bytes.ok.0))

pub own_total : (k : Kept) (scope : Scope) → IsHeld k → total (part k.shares scope k.slots.items) ≡ (share_of k.shares scope).bytes
own_total k scope h =
    sym (load-entries_of (part k.shares scope k.slots.items) (drop (bytes_before k.shares scope) k.bytes.items) (own_within k scope h))
    ∙ (ap load (own_are k scope h) ∙ (h.each scope).counts)

pub length-part : (k : Kept) (scope : Scope) → IsHeld k → length (part k.shares scope k.slots.items) ≡ (share_of k.shares scope).slots
length-part k scope h = length-take-le (share_of k.shares scope).slots (drop (slots_before k.shares scope) k.slots.items) (simp length-drop (omega (arith, slots_inside k scope h)))

-- ---- an edit of one scope

edited_variables : (k new : Kept) (scope : Scope) (share : Share) (xs : List Entry) → IsHeld k → new.shares ≡ with_share k.shares scope share →
    all_of new ≡ before (variables_of k) scope ++ (xs ++ behind (variables_of k) scope) → IsShare share xs →
    variables_of new ≡ with_entries (variables_of k) scope xs
edited_variables k new scope share xs h shares all is =
    let w = with_entries (variables_of k) scope xs in
    let each = counted-with k.shares (variables_of k) scope share xs h.each is in
    let whole : all_of new ≡ joined w = all ∙ sym (joined-with (variables_of k) scope xs) in
    ap (λ (s : Shares). parted s (all_of new)) shares ∙ (ap (parted (with_share k.shares scope share)) whole ∙ parted-joined (with_share k.shares scope share) w each)

pub edited : (k new : Kept) (scope : Scope) (share : Share) (xs : List Entry) → IsHeld k → new.shares ≡ with_share k.shares scope share →
    all_of new ≡ before (variables_of k) scope ++ (xs ++ behind (variables_of k) scope) → IsShare share xs →
    total new.slots.items ≡ vec_len new.bytes → vec_capacity k.slots ≤ vec_capacity new.slots → vec_capacity k.bytes ≤ vec_capacity new.bytes →
    (IsHeld new) × (variables_of new ≡ with_entries (variables_of k) scope xs)
edited k new scope share xs h shares all is gapless slot_room byte_room =
    let t = with_share k.shares scope share in
    let w = with_entries (variables_of k) scope xs in
    let each : Counted t w = counted-with k.shares (variables_of k) scope share xs h.each is in
    let whole : all_of new ≡ joined w = all ∙ sym (joined-with (variables_of k) scope xs) in
    let variables = edited_variables k new scope share xs h shares all is in
    let each_new : Counted new.shares (variables_of new) =
    subst (λ (s : Shares). Counted s (variables_of new)) (sym shares) (subst (λ (v : Variables). Counted t v) (sym variables) each) in
    let count = ap length whole in
    let sum = length-joined new.shares (variables_of new) each_new in
    let again = ap (λ (v : Variables). length (joined v)) variables in
    let held : IsHeld new = record {
      gapless = gapless;
      whole = omega (arith, length-entries_of new.slots.items new.bytes.items, new.slots.ok.0);
      each = each_new;
      slot_room = omega (arith, h.slot_room);
      byte_room = omega (arith, h.byte_room);
    } in
    (held, variables)

-- ---- an unset

-- where the variable lies that was found
pub record IsThere (k : Kept) (scope : Scope) (spot : Spot) : Type 0 where
  pub index : spot.index < (share_of k.shares scope).slots
  pub inside : slots_before k.shares scope + spot.index < length k.slots.items
  pub starts : bytes_before k.shares scope + spot.at ≡ total (take (slots_before k.shares scope + spot.index) k.slots.items)
  pub is_slot : spot.slot ≡ get_or k.slots.items (slots_before k.shares scope + spot.index) spot.slot
  pub counts : spot.at + len_of spot.slot ≤ (share_of k.shares scope).bytes

pub found_there : (k : Kept) (scope : Scope) (name : List ℕ) (spot : Spot) → IsHeld k → IsFoundIn k scope name (Some spot) → IsThere k scope spot
found_there k scope name spot h at =
    let a = slots_before k.shares scope in
    let n = (share_of k.shares scope).slots in
    let ss = k.slots.items in
    let long = length-part k scope h in
    let index : spot.index < n = omega (arith, at.inside) in
    let inside = slots_inside k scope h in
    let taken : take spot.index (part k.shares scope ss) ≡ take spot.index (drop a ss) = take-take spot.index n (drop a ss) (omega arith) in
    let totals = ap total taken in
    let more = ap total (take-add a spot.index ss) in
    let sum = sum_by-append len_of (take a ss) (take spot.index (drop a ss)) in
    let here : get_or (part k.shares scope ss) spot.index spot.slot ≡ get_or ss (a + spot.index) spot.slot = get_or-take n (drop a ss) spot.index spot.slot index ∙ get_or-drop a ss spot.index spot.slot in
    let len = ap len_of (sym at.is_slot) in
    let last = sum_by_more_le len_of (part k.shares scope ss) spot.index spot.slot at.inside in
    record {
      index = index;
      inside = omega arith;
      starts = omega (arith, starts_at k scope h, at.starts);
      is_slot = at.is_slot ∙ here;
      counts = omega (arith, own_total k scope h, at.starts);
    }

-- what is left of the scope, and of all
pub left_of_scope : (k : Kept) (scope : Scope) (name : List ℕ) (spot : Spot) → IsHeld k → IsFoundIn k scope name (Some spot) → without name (entries_in (variables_of k) scope) ≡ remove (entries_in (variables_of k) scope) spot.index
left_of_scope k scope name spot h at =
    let own = own_are k scope h in
    let distinct = ap are_distinct own ∙ (h.each scope).distinct in
    let left = without_spot (part k.shares scope k.slots.items) (drop (bytes_before k.shares scope) k.bytes.items) name (Some spot) spot at refl distinct in
    subst (λ (es : List Entry). without name es ≡ remove es spot.index) own left

pub left_of_all : (k : Kept) (scope : Scope) (name : List ℕ) (spot : Spot) → IsHeld k → IsFoundIn k scope name (Some spot) →
    remove (all_of k) (slots_before k.shares scope + spot.index) ≡ before (variables_of k) scope ++ (without name (entries_in (variables_of k) scope) ++ behind (variables_of k) scope)
left_of_all k scope name spot h at =
    let v = variables_of k in
    let a = slots_before k.shares scope in
    let there = found_there k scope name spot h at in
    let all = ap (λ (es : List Entry). remove es (a + spot.index)) (around k scope h) in
    let skip = remove-append_right (before v scope) (entries_in v scope ++ behind v scope) a (a + spot.index) (length-before k.shares v scope h.each) (omega arith) in
    let rest : a + spot.index - a ≡ spot.index = omega arith in
    let here = remove-append_left (entries_in v scope) (behind v scope) spot.index (omega (arith, there.index, (h.each scope).count)) in
    let left = left_of_scope k scope name spot h at in
    cc

pub left_share : (k : Kept) (scope : Scope) (name : List ℕ) (spot : Spot) (share : Share) → IsHeld k → IsFoundIn k scope name (Some spot) →
    share.slots + 1 ≡ (share_of k.shares scope).slots → share.bytes + len_of spot.slot ≡ (share_of k.shares scope).bytes → IsShare share (without name (entries_in (variables_of k) scope))
left_share k scope name spot share h at slots bytes =
    let es = entries_in (variables_of k) scope in
    let is = h.each scope in
    let there = found_there k scope name spot h at in
    let left = ap length (left_of_scope k scope name spot h at) in
    let one = length-remove es spot.index (omega (arith, there.index, is.count)) in
    let own = own_are k scope h in
    let distinct = ap are_distinct own ∙ is.distinct in
    let freed = load_without (part k.shares scope k.slots.items) (drop (bytes_before k.shares scope) k.bytes.items) name (Some spot) at distinct (own_within k scope h) in
    let loads = ap (λ (xs : List Entry). load (without name xs)) own in
    record {
      count = omega (arith, is.count);
      counts = omega (arith, own_total k scope h);
      small = omega (arith, is.small);
      distinct = distinct-without name es is.distinct;
    }

-- the variable that was found was taken out
pub unset_found : (k new : Kept) (scope : Scope) (name : List ℕ) (spot : Spot) (share : Share) (i : ℕ) → IsHeld k → IsFoundIn k scope name (Some spot) → i ≡ slots_before k.shares scope →
    new.shares ≡ with_share k.shares scope share → all_of new ≡ remove (all_of k) (i + spot.index) →
    share.slots + 1 ≡ (share_of k.shares scope).slots → share.bytes + len_of spot.slot ≡ (share_of k.shares scope).bytes →
    total new.slots.items ≡ vec_len new.bytes → vec_capacity k.slots ≤ vec_capacity new.slots → vec_capacity k.bytes ≤ vec_capacity new.bytes →
    (IsHeld new) × (variables_of new ≡ unset_variable (variables_of k) scope name)
unset_found k new scope name spot share i h at starts shares all slots bytes gapless slot_room byte_room =
    let index = ap (λ (a : ℕ). remove (all_of k) (a + spot.index)) starts in
    edited k new scope share (without name (entries_in (variables_of k) scope)) h shares (all ∙ (index ∙ left_of_all k scope name spot h at)) (left_share k scope name spot share h at slots bytes) gapless slot_room byte_room

-- none was found
pub unset_none : (k : Kept) (scope : Scope) (name : List ℕ) (found : Option Spot) → IsHeld k → IsFoundIn k scope name found → found ≡ None → variables_of k ≡ unset_variable (variables_of k) scope name
unset_none k scope name found h at is =
    let own = own_are k scope h in
    let none = without_none (part k.shares scope k.slots.items) (drop (bytes_before k.shares scope) k.bytes.items) name found at is in
    let left = subst (λ (es : List Entry). without name es ≡ es) own none in
    sym (ap (with_entries (variables_of k) scope) left ∙ with_entries-same (variables_of k) scope)

pub found_some : (k : Kept) (scope : Scope) (name : List ℕ) (found : Option Spot) (spot : Spot) → found ≡ Some spot → IsFoundIn k scope name found → IsFoundIn k scope name (Some spot)
found_some k scope name found spot is at = subst (λ (f : Option Spot). IsFoundIn k scope name f) is at

-- ---- a clear

pub split_behind : (k : Kept) (scope : Scope) → IsHeld k →
    (take (slots_before k.shares scope + (share_of k.shares scope).slots) (all_of k) ≡ before (variables_of k) scope ++ entries_in (variables_of k) scope)
    × (drop (slots_before k.shares scope + (share_of k.shares scope).slots) (all_of k) ≡ behind (variables_of k) scope)
split_behind k scope h =
    let v = variables_of k in
    let front = before v scope ++ entries_in v scope in
    let whole : all_of k ≡ front ++ behind v scope = around k scope h ∙ sym (append_assoc (before v scope) (entries_in v scope) (behind v scope)) in
    let long : length front ≡ slots_before k.shares scope + (share_of k.shares scope).slots =
    omega (arith, length-append (before v scope) (entries_in v scope), length-before k.shares v scope h.each, (h.each scope).count) in (
      ap (take (slots_before k.shares scope + (share_of k.shares scope).slots)) whole ∙ take_at front (behind v scope) _ long,
      ap (drop (slots_before k.shares scope + (share_of k.shares scope).slots)) whole ∙ drop_at front (behind v scope) _ long,
    )

-- how many bytes lie before those of the scopes behind
pub ends_at : (k : Kept) (scope : Scope) → IsHeld k →
    bytes_before k.shares scope + (share_of k.shares scope).bytes ≡ total (take (slots_before k.shares scope + (share_of k.shares scope).slots) k.slots.items)
ends_at k scope h =
    let a = slots_before k.shares scope in
    let n = (share_of k.shares scope).slots in
    let more = ap total (take-add a n k.slots.items) in
    let sum = sum_by-append len_of (take a k.slots.items) (part k.shares scope k.slots.items) in
    omega (arith, starts_at k scope h, own_total k scope h)

-- all of a scope were taken out
pub cleared : (k new : Kept) (scope : Scope) (share : Share) (a b n m : ℕ) → IsHeld k → a ≡ slots_before k.shares scope → b ≡ bytes_before k.shares scope →
    n ≡ (share_of k.shares scope).slots → m ≡ (share_of k.shares scope).bytes → share.slots ≡ 0 → share.bytes ≡ 0 →
    new.shares ≡ with_share k.shares scope share →
    new.slots.items ≡ take a k.slots.items ++ drop (a + n) k.slots.items → new.bytes.items ≡ take b k.bytes.items ++ drop (b + m) k.bytes.items →
    vec_len new.bytes + m ≡ vec_len k.bytes → vec_capacity k.slots ≤ vec_capacity new.slots → vec_capacity k.bytes ≤ vec_capacity new.bytes →
    (IsHeld new) × (variables_of new ≡ clear_scope (variables_of k) scope)
cleared k new scope share a b n m h at_slot at_byte count counts no_slots no_bytes shares slots bytes len slot_room byte_room =
    let v = variables_of k in
    let ss = k.slots.items in
    let starts : b ≡ total (take a ss) = at_byte ∙ (starts_at k scope h ∙ ap (λ (i : ℕ). total (take i ss)) (sym at_slot)) in
    let end : a + n ≡ slots_before k.shares scope + (share_of k.shares scope).slots = omega arith in
    let ends : b + m ≡ total (take (a + n) ss) =
    (let sum : b + m ≡ bytes_before k.shares scope + (share_of k.shares scope).bytes = omega arith in sum ∙ (ends_at k scope h ∙ ap (λ (i : ℕ). total (take i ss)) (sym end))) in
    let cut = entries_of-cut ss k.bytes.items a (a + n) (omega (arith, h.gapless, k.bytes.ok.0)) in
    let first = take_at (before v scope) (entries_in v scope ++ behind v scope) a (length-before k.shares v scope h.each ∙ sym at_slot) in
    let front : take a (all_of k) ≡ before v scope = ap (take a) (around k scope h) ∙ first in
    let back : drop (a + n) (all_of k) ≡ behind v scope = ap (λ (i : ℕ). drop i (all_of k)) end ∙ (split_behind k scope h).1 in
    let all : all_of new ≡ before v scope ++ behind v scope = cc in
    let totals = ap total slots in
    let sum = sum_by-append len_of (take a ss) (drop (a + n) ss) in
    let split = ap total (take-append-drop (a + n) ss) in
    let sum_whole = sum_by-append len_of (take (a + n) ss) (drop (a + n) ss) in
    let none : IsShare share [] = record { count = sym no_slots; counts = sym no_bytes; small = omega arith; distinct = refl } in
    edited k new scope share [] h shares all none (omega (arith, h.gapless)) slot_room byte_room

-- ---- a value

pub value_none : (k : Kept) (scope : Scope) (name : List ℕ) (found : Option Spot) → IsHeld k → IsFoundIn k scope name found → found ≡ None → lookup name (entries_in (variables_of k) scope) ≡ None
value_none k scope name found h at is = ap (lookup name) (sym (own_are k scope h)) ∙ MatchOption-at_none _ _ is at

pub value_found : (k : Kept) (scope : Scope) (name : List ℕ) (found : Option Spot) (spot : Spot) (start : ℕ) → IsHeld k → IsFoundIn k scope name found → found ≡ Some spot →
    start ≡ bytes_before k.shares scope + spot.at + spot.slot.name →
    lookup name (entries_in (variables_of k) scope) ≡ Some (value_of spot.slot.form (take spot.slot.value (drop start k.bytes.items)))
value_found k scope name found spot start h at is starts =
    let there : FoundAt (part k.shares scope k.slots.items) (drop (bytes_before k.shares scope) k.bytes.items) name spot.index spot.at spot.slot = MatchOption-at_some _ _ spot is at in
    let skip = drop-drop spot.at (bytes_before k.shares scope) k.bytes.items in
    let skip_name = drop-drop spot.slot.name (bytes_before k.shares scope + spot.at) k.bytes.items in
    let own = own_are k scope h in
    let value = there.value in
    cc

pub freed_within : (k : Kept) (scope : Scope) (name : List ℕ) (found : Option Spot) → IsHeld k → IsFoundIn k scope name found → freed_by found ≤ (share_of k.shares scope).bytes
freed_within k scope name None h at = omega arith
freed_within k scope name (Some spot) h at = omega (arith, (found_there k scope name spot h at).counts)
