-- A set of a variable: one more behind those of its scope, where it fits.
use Rattle.std.proofs.Common.{◌≡◌, ℕ, ◌+◌, ◌-◌, ◌*◌, ◌<◌, ◌≤◌, List, [], ◌∷◌, ◌++◌, length, take, drop, ap, sym, ◌∙◌, arith, length-append, sum_by, vec_len, vec_capacity, Option, Some, None}
use Rattle.std.specs.Prelude.{insert}
use Rattle.std.proofs.lemmas.List.{append_assoc}
use Rattle.std.proofs.lemmas.List.Sums.{sum_by_push}
use Rattle.px_sample.specs.declared.kept.Kept.{Kept}
use Rattle.px_sample.specs.declared.scope.Scope.{Scope}
use Rattle.px_sample.specs.declared.scope.Scope.TheVariants.{Sess, Txn, Req, Res}
use Rattle.px_sample.specs.declared.share.Share.{Share}
use Rattle.px_sample.specs.declared.share.Shares.{Shares}
use Rattle.px_sample.specs.declared.slot.Slot.{Slot}
use Rattle.px_sample.specs.declared.spot.Spot.{Spot}
use Rattle.px_sample.specs.declared.form.Form.{Form}
use Rattle.px_sample.specs.Sample.{Value, Bytes}
use Rattle.px_sample.specs.Shape.{IsShape}
use Rattle.px_sample.specs.Entry.{Entry, load, weight, lookup, without, with_variable, are_distinct}
use Rattle.px_sample.specs.Slot.{len_of, value_of, freed_by}
use Rattle.px_sample.specs.Variables.{Variables, entries_in, with_entries, set_variable, unset_variable}
use Rattle.px_sample.specs.Shares.{share_of, with_share, slots_before, bytes_before, part}
use Rattle.px_sample.specs.Held.{variables_of, IsShare, IsHeld, IsFoundIn}
use Rattle.px_sample.proofs.EntryLemmas.{lookup-without, distinct-push, distinct_few, assigned_small, assigned_large}
use Rattle.px_sample.proofs.FoundLemmas.{load_without, weight_of_form}
use Rattle.px_sample.proofs.PartLemmas.{before, behind, entries_in-with, with_entries-same, with_entries-twice}
use Rattle.px_sample.proofs.HeldLemmas.{all_of, bytes_all, own_are, own_within, own_total, edited, split_behind}

abbrev total : List Slot → ℕ
total slots = sum_by len_of slots

-- ---- one more variable

pub few_entries : (share : Share) (es : List Entry) → IsShare share es → share.slots ≤ 4097
few_entries share es h = omega (arith, distinct_few es h.distinct, h.count, h.counts, h.small)

few_of : (s : Shares) (scope : Scope) (len cap : ℕ) → (share_of s scope).slots + 1 ≤ 4097 → s.sess.slots ≤ 4097 → s.txn.slots ≤ 4097 → s.req.slots ≤ 4097 → s.res.slots ≤ 4097 →
    s.sess.slots + (s.txn.slots + (s.req.slots + s.res.slots)) ≡ len → 4 * 4097 ≤ cap → len < cap
few_of s Sess len cap one sess txn req res sum room = omega arith
few_of s Txn len cap one sess txn req res sum room = omega arith
few_of s Req len cap one sess txn req res sum room = omega arith
few_of s Res len cap one sess txn req res sum room = omega arith

few_by_scope : (k : Kept) (scope : Scope) → IsHeld k → (share_of k.shares scope).slots + 1 ≤ 4097 → vec_len k.slots < vec_capacity k.slots
few_by_scope k scope h one =
    let sess = few_entries k.shares.sess _ (h.each Sess) in
    let txn = few_entries k.shares.txn _ (h.each Txn) in
    let req = few_entries k.shares.req _ (h.each Req) in
    let res = few_entries k.shares.res _ (h.each Res) in
    few_of k.shares scope (vec_len k.slots) (vec_capacity k.slots) one sess txn req res h.whole h.slot_room

-- there is room for it
pub few_slots : (k : Kept) (scope : Scope) (name value : List ℕ) → IsHeld k → (share_of k.shares scope).bytes + length name + length value ≤ 4096 →
    lookup name (entries_in (variables_of k) scope) ≡ None → vec_len k.slots < vec_capacity k.slots
few_slots k scope name value h short absent =
    let v = variables_of k in
    let x : Value = Bytes value in
    let grown = entries_in v scope ++ (name, x) ∷ [] in
    let few = distinct_few grown (distinct-push name x (entries_in v scope) (h.each scope).distinct absent) in
    let long = length-append (entries_in v scope) ((name, x) ∷ []) in
    let sum = sum_by_push weight (entries_in v scope) (name, x) in
    let one : (share_of k.shares scope).slots + 1 ≤ 4097 = omega (arith, (h.each scope).count, (h.each scope).counts) in
    few_by_scope k scope h one

room_of : (s : Shares) (scope : Scope) (len cap n : ℕ) → (share_of s scope).bytes + n ≤ 4096 → s.sess.bytes ≤ 4096 → s.txn.bytes ≤ 4096 → s.req.bytes ≤ 4096 → s.res.bytes ≤ 4096 →
    len ≡ s.sess.bytes + (s.txn.bytes + (s.req.bytes + s.res.bytes)) → 4 * 4096 ≤ cap → len + n ≤ cap
room_of s Sess len cap n short sess txn req res sum room = omega arith
room_of s Txn len cap n short sess txn req res sum room = omega arith
room_of s Req len cap n short sess txn req res sum room = omega arith
room_of s Res len cap n short sess txn req res sum room = omega arith

pub room_bytes : (k : Kept) (scope : Scope) (n : ℕ) → IsHeld k → (share_of k.shares scope).bytes + n ≤ 4096 → length k.bytes.items + n ≤ vec_capacity k.bytes
room_bytes k scope n h short =
    room_of k.shares scope (length k.bytes.items) (vec_capacity k.bytes) n short (h.each Sess).small (h.each Txn).small (h.each Req).small (h.each Res).small (bytes_all k h) h.byte_room

-- a variable was put behind the others of its scope
pub added : (k new : Kept) (scope : Scope) (share : Share) (i : ℕ) (name value : List ℕ) (form : Form) → IsHeld k → IsShape form (length value) →
    lookup name (entries_in (variables_of k) scope) ≡ None → (share_of k.shares scope).bytes + length name + length value ≤ 4096 →
    i ≡ slots_before k.shares scope + (share_of k.shares scope).slots → new.shares ≡ with_share k.shares scope share →
    share.slots ≡ (share_of k.shares scope).slots + 1 → share.bytes ≡ (share_of k.shares scope).bytes + length name + length value →
    all_of new ≡ insert (all_of k) i (name, value_of form value) →
    total new.slots.items ≡ vec_len new.bytes → vec_capacity k.slots ≤ vec_capacity new.slots → vec_capacity k.bytes ≤ vec_capacity new.bytes →
    (IsHeld new) × (variables_of new ≡ with_entries (variables_of k) scope (entries_in (variables_of k) scope ++ (name, value_of form value) ∷ []))
added k new scope share i name value form h shaped absent short at shares slots bytes put gapless slot_room byte_room =
    let v = variables_of k in
    let own = entries_in v scope in
    let e : Entry = (name, value_of form value) in
    let front : take i (all_of k) ≡ before v scope ++ own = ap (λ (j : ℕ). take j (all_of k)) at ∙ (split_behind k scope h).0 in
    let back : drop i (all_of k) ≡ behind v scope = ap (λ (j : ℕ). drop j (all_of k)) at ∙ (split_behind k scope h).1 in
    let outer = append_assoc (before v scope) own (e ∷ behind v scope) in
    let inner = append_assoc own (e ∷ []) (behind v scope) in
    let all : all_of new ≡ before v scope ++ ((own ++ e ∷ []) ++ behind v scope) = cc in
    let long = length-append own (e ∷ []) in
    let sum = sum_by_push weight own e in
    let weighs = weight_of_form name value form shaped in
    let is : IsShare share (own ++ e ∷ []) = record {
      count = omega (arith, (h.each scope).count);
      counts = omega (arith, (h.each scope).counts);
      small = omega arith;
      distinct = distinct-push name (value_of form value) own (h.each scope).distinct absent;
    } in
    edited k new scope share (own ++ e ∷ []) h shares all is gapless slot_room byte_room

-- ---- a set

-- the others count no more than the scope holds
pub set_fits : (v w u : Variables) (scope : Scope) (name : List ℕ) (x : Value) → w ≡ unset_variable v scope name → u ≡ with_entries w scope (entries_in w scope ++ (name, x) ∷ []) →
    load (entries_in u scope) ≤ 4096 → u ≡ set_variable v scope name (Some x)
set_fits v w u scope name x unset put small =
    let es = entries_in v scope in
    let left = entries_in-with v scope (without name es) in
    let both : u ≡ with_entries (with_entries v scope (without name es)) scope (with_variable name x es) =
    put ∙ (ap (λ (z : Variables). with_entries z scope (entries_in z scope ++ (name, x) ∷ [])) unset
    ∙ ap (λ (xs : List Entry). with_entries (with_entries v scope (without name es)) scope (xs ++ (name, x) ∷ [])) left) in
    let once : u ≡ with_entries v scope (with_variable name x es) = both ∙ with_entries-twice v scope (without name es) (with_variable name x es) in
    let own : entries_in u scope ≡ with_variable name x es = ap (λ (z : Variables). entries_in z scope) once ∙ entries_in-with v scope (with_variable name x es) in
    let loads = ap load own in
    once ∙ sym (ap (with_entries v scope) (assigned_small name x es (omega arith)))

-- they would count more
pub set_passes : (k : Kept) (scope : Scope) (name value : List ℕ) (found : Option Spot) (form : Form) → IsHeld k → IsFoundIn k scope name found → IsShape form (length value) →
    4096 < (share_of k.shares scope).bytes - freed_by found + length name + length value → variables_of k ≡ set_variable (variables_of k) scope name (Some (value_of form value))
set_passes k scope name value found form h at shaped large =
    let v = variables_of k in
    let es = entries_in v scope in
    let own = own_are k scope h in
    let distinct = ap are_distinct own ∙ (h.each scope).distinct in
    let others = load_without (part k.shares scope k.slots.items) (drop (bytes_before k.shares scope) k.bytes.items) name found at distinct (own_within k scope h) in
    let loads = ap (λ (xs : List Entry). load (without name xs)) own in
    let weighs = weight_of_form name value form shaped in
    let sum = sum_by_push weight (without name es) (name, value_of form value) in
    let passes : 4096 < load (with_variable name (value_of form value) es) = omega (arith, own_total k scope h) in
    sym (ap (with_entries v scope) (assigned_large name (value_of form value) es passes) ∙ with_entries-same v scope)

pub absent_behind : (v w : Variables) (scope : Scope) (name : List ℕ) → w ≡ unset_variable v scope name → lookup name (entries_in w scope) ≡ None
absent_behind v w scope name unset =
    ap (λ (z : Variables). lookup name (entries_in z scope)) unset ∙ (ap (lookup name) (entries_in-with v scope (without name (entries_in v scope))) ∙ lookup-without name (entries_in v scope))
