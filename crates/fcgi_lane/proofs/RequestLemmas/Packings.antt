-- The sizes of pairs, and pairs in records.
use Rattle.std.proofs.Common.{◌≡◌, ◌≢◌, ℕ, ◌+◌, ◌^◌, ◌<◌, ◌≤◌, lit<, ◌⊎◌, inl, inr, Bool, true, false, cond, nat_le, nat_lt, List, [], ◌∷◌, ◌++◌, length, Some, None, refl, ap, sym, subst, ◌∙◌, arith, append_assoc}
use Rattle.std.specs.List.{flat_map, All}
use Rattle.std.specs.Int.{w32, to_be_bytes}
use Rattle.std.proofs.lemmas.List.{length-append, append-nil}
use Rattle.std.proofs.lemmas.Grind.{flat_map-append}
use Rattle.std.proofs.lemmas.Bool.{leb-true, ltb-false}
use Rattle.std.proofs.lemmas.List.Elements.{All-nil, All-push}
use Rattle.fcgi_record.specs.Pairs.{length_bytes, pair_bytes}
use Rattle.fcgi_record.specs.declared.record_kind.RecordKind.TheVariants.{Params}
use Rattle.fcgi_model.specs.Pairs.{Pair}
use Rattle.fcgi_model.specs.Records.{Packing, nothing, pair_text, pairs_text, pairs_record, record_bytes, closed, refused, with_room, joined, put, put_all, params_of, most_content, most_alone, IsGroup, HoldsWhole}

pub pair_length : (name value : List ℕ) → length (pair_bytes name value) ≡ length (length_bytes (length name)) + length (length_bytes (length value)) + (length name + length value)
pair_length name value =
    length-append (length_bytes (length name) ++ length_bytes (length value)) (name ++ value)
    ∙ ap (λ (n : ℕ). n + length (name ++ value)) (length-append (length_bytes (length name)) (length_bytes (length value)))
    ∙ ap (λ (n : ℕ). (length (length_bytes (length name)) + length (length_bytes (length value))) + n) (length-append name value)

-- ---- groups of pairs

abbrev groups_text : List (List Pair) → List ℕ
groups_text groups = flat_map (λ (group : List Pair). record_bytes Params (pairs_text group)) groups

abbrev grouped : List (List Pair) → List Pair
grouped groups = flat_map (λ (group : List Pair). group) groups

-- records of these pairs, each of which holds a group
record Grouped (pairs : List Pair) (text : List ℕ) : Type 0 where
  groups : List (List Pair)
  each : All IsGroup groups
  all : grouped groups ≡ pairs
  spelled : text ≡ groups_text groups

-- the same, and the pairs of the next record
record Held (w : Packing) (pairs : List Pair) : Type 0 where
  before : List Pair
  last : List Pair
  front : Grouped before w.text
  all : before ++ last ≡ pairs
  content : w.content ≡ pairs_text last
  group : (last ≡ []) ⊎ IsGroup last

some_by : (test : Bool) (one four : List ℕ) → 0 < length one → 0 < length four → 0 < length (cond test one four)
some_by true one four a b = a
some_by false one four a b = b

some_length : (n : ℕ) → 0 < length (length_bytes n)
some_length n = some_by (nat_lt n 128) (n ∷ []) (to_be_bytes w32 (n + 2 ^ 31)) (lit< tt) (lit< tt)

pair_some : (p : Pair) → 0 < length (pair_text p)
pair_some p = omega (arith, pair_length p.0 p.1, some_length (length p.0))

-- pairs have bytes
text_some : (group : List Pair) → group ≢ [] → 0 < length (pairs_text group)
text_some [] some = absurd (some refl)
text_some (p ∷ group) some = omega (arith, length-append (pair_text p) (pairs_text group), pair_some p)

record_of : (content : List ℕ) → 0 < length content → pairs_record content ≡ record_bytes Params content
record_of [] some = absurd (omega (arith, some))
record_of (b ∷ content) some = refl

one_more : (before group : List Pair) (text : List ℕ) → Grouped before text → IsGroup group → Grouped (before ++ group) (text ++ record_bytes Params (pairs_text group))
one_more before group text g is = record {
  groups = g.groups ++ group ∷ [];
  each = All-push IsGroup g.groups group g.each is;
  all = flat_map-append (λ (x : List Pair). x) g.groups (group ∷ []) ∙ ap (λ (x : List Pair). grouped g.groups ++ x) (append-nil group) ∙ ap (λ (x : List Pair). x ++ group) g.all;
  spelled = ap (λ (t : List ℕ). t ++ record_bytes Params (pairs_text group)) g.spelled
      ∙ ap (λ (t : List ℕ). groups_text g.groups ++ t) (sym (append-nil (record_bytes Params (pairs_text group))))
      ∙ sym (flat_map-append (λ (x : List Pair). record_bytes Params (pairs_text x)) g.groups (group ∷ []));
}

-- once the record is closed
closes : (w : Packing) (pairs : List Pair) → Held w pairs → Grouped pairs (closed w).text
closes w pairs h =
    elim h.group [
      | inl none ↦
          let empty : w.content ≡ [] = h.content ∙ ap pairs_text none in
          let text : w.text ≡ (closed w).text = sym (append-nil w.text) ∙ ap (λ (t : List ℕ). w.text ++ pairs_record t) (sym empty) in
          let all : h.before ≡ pairs = sym (append-nil h.before) ∙ ap (λ (t : List Pair). h.before ++ t) (sym none) ∙ h.all in
          subst (λ (ps : List Pair). Grouped ps (closed w).text) all (subst (λ (t : List ℕ). Grouped h.before t) text h.front)
      | inr is ↦
          let some : 0 < length w.content = subst (λ (t : List ℕ). 0 < length t) (sym h.content) (text_some h.last is.some) in
          let text : w.text ++ record_bytes Params (pairs_text h.last) ≡ (closed w).text =
          ap (λ (t : List ℕ). w.text ++ t) (ap (record_bytes Params) (sym h.content) ∙ sym (record_of w.content some)) in
          subst (λ (ps : List Pair). Grouped ps (closed w).text) h.all (subst (λ (t : List ℕ). Grouped (h.before ++ h.last) t) text (one_more h.before h.last w.text h.front is))
    ]

not_none : (group : List Pair) (p : Pair) → group ++ p ∷ [] ≢ []
not_none [] p e = absurd cc
not_none (x ∷ group) p e = absurd cc

pushed_text : (group : List Pair) (p : Pair) → pairs_text (group ++ p ∷ []) ≡ pairs_text group ++ pair_text p
pushed_text group p = flat_map-append pair_text group (p ∷ []) ∙ ap (λ (t : List ℕ). pairs_text group ++ t) (append-nil (pair_text p))

-- a pair that fits behind the others
fits_behind : (w : Packing) (pairs : List Pair) (p : Pair) → length w.content + length (pair_text p) ≤ most_content → Held w pairs → Held (joined w (pair_text p)) (pairs ++ p ∷ [])
fits_behind w pairs p fits h =
    let text : w.content ++ pair_text p ≡ pairs_text (h.last ++ p ∷ []) = ap (λ (t : List ℕ). t ++ pair_text p) h.content ∙ sym (pushed_text h.last p) in
    let size : length (pairs_text (h.last ++ p ∷ [])) ≤ most_content = omega (arith, ap length text, length-append w.content (pair_text p), fits) in
    record {
      before = h.before;
      last = h.last ++ p ∷ [];
      front = h.front;
      all = sym (append_assoc h.before h.last (p ∷ [])) ∙ ap (λ (ps : List Pair). ps ++ p ∷ []) h.all;
      content = text;
      group = inr (record { some = not_none h.last p; most = omega (arith, size); many = inl size });
    }

-- one that begins the next record
begins : (w : Packing) (pairs : List Pair) (p : Pair) → length (pair_text p) ≤ most_alone → Held w pairs → Held (joined (closed w) (pair_text p)) (pairs ++ p ∷ [])
begins w pairs p small h =
    let alone : pair_text p ≡ pairs_text (p ∷ []) = sym (append-nil (pair_text p)) in
    record {
      before = pairs;
      last = p ∷ [];
      front = closes w pairs h;
      all = refl;
      content = alone;
      group = inr (record { some = not_none [] p; most = omega (arith, small, ap length alone); many = inr refl });
    }

put_by : (w : Packing) (pairs : List Pair) (p : Pair) (fits : Bool) → nat_le (length w.content + length (pair_text p)) most_content ≡ fits → length (pair_text p) ≤ most_alone → Held w pairs
    → Held (joined (cond fits w (closed w)) (pair_text p)) (pairs ++ p ∷ [])
put_by w pairs p true is small h = fits_behind w pairs p (leb-true (length w.content + length (pair_text p)) most_content is) h
put_by w pairs p false is small h = begins w pairs p small h

-- ---- one pair after the other

some_is : (a b : List ℕ) → Some a ≡ Some b → a ≡ b
some_is a b e = cc

put_short : (w : Packing) (p : Pair) → nat_lt most_alone (length (pair_text p)) ≡ false → put w p ≡ joined (with_room (length (pair_text p)) w) (pair_text p)
unfolding put
put_short w p is = ap (λ (t : Bool). cond t (refused w) (joined (with_room (length (pair_text p)) w) (pair_text p))) is

put_long : (w : Packing) (p : Pair) → nat_lt most_alone (length (pair_text p)) ≡ true → put w p ≡ refused w
unfolding put
put_long w p is = ap (λ (t : Bool). cond t (refused w) (joined (with_room (length (pair_text p)) w) (pair_text p))) is

long_refused : (w : Packing) (p : Pair) → nat_lt most_alone (length (pair_text p)) ≡ true → (put w p).long ≡ true
long_refused w p is = ap (λ (v : Packing). v.long) (put_long w p is)

long_room : (w : Packing) (pair : List ℕ) (fits : Bool) → w.long ≡ true → (joined (cond fits w (closed w)) pair).long ≡ true
long_room w pair true long = long
long_room w pair false long = long

long_put : (w : Packing) (p : Pair) (test : Bool) → nat_lt most_alone (length (pair_text p)) ≡ test → w.long ≡ true → (put w p).long ≡ true
long_put w p true is long = long_refused w p is
long_put w p false is long =
    ap (λ (v : Packing). v.long) (put_short w p is) ∙ long_room w (pair_text p) (nat_le (length w.content + length (pair_text p)) most_content) long

long_stays : (w : Packing) (pairs : List Pair) → w.long ≡ true → (put_all w pairs).long ≡ true
long_stays w [] long = long
long_stays w (p ∷ pairs) long = long_stays (put w p) pairs (long_put w p (nat_lt most_alone (length (pair_text p))) refl long)

put_step : (w : Packing) (done : List Pair) (p : Pair) (rest : List Pair) (long : Bool) → nat_lt most_alone (length (pair_text p)) ≡ long → (put_all (put w p) rest).long ≡ false → Held w done
    → Held (put w p) (done ++ p ∷ [])
put_step w done p rest true is short h = let stays = long_stays (put w p) rest (long_refused w p is) in absurd cc
put_step w done p rest false is short h =
    subst (λ (v : Packing). Held v (done ++ p ∷ [])) (sym (put_short w p is))
    (put_by w done p (nat_le (length w.content + length (pair_text p)) most_content) refl (ltb-false most_alone (length (pair_text p)) is) h)

holds_all : (w : Packing) (done pairs : List Pair) → (put_all w pairs).long ≡ false → Held w done → Held (put_all w pairs) (done ++ pairs)
holds_all w done [] short h = subst (λ (ps : List Pair). Held w ps) (sym (append-nil done)) h
holds_all w done (p ∷ pairs) short h =
    subst (λ (ps : List Pair). Held (put_all (put w p) pairs) ps) (append_assoc done (p ∷ []) pairs)
    (holds_all (put w p) (done ++ p ∷ []) pairs short (put_step w done p pairs (nat_lt most_alone (length (pair_text p))) refl short h))

holds_none : Held nothing []
holds_none = record {
  before = [];
  last = [];
  front = record { groups = []; each = All-nil IsGroup; all = refl; spelled = refl };
  all = refl;
  content = refl;
  group = inl refl;
}

whole_by : (pairs : List Pair) (text : List ℕ) (w : Packing) (long : Bool) → w.long ≡ long → cond long None (Some ((closed w).text ++ record_bytes Params [])) ≡ Some text → (w.long ≡ false → Held w pairs) → HoldsWhole pairs text
whole_by pairs text w true is e h = absurd cc
whole_by pairs text w false is e h =
    let g = closes w pairs (h is) in
    record { groups = g.groups; each = g.each; joined = g.all; spelled = sym (some_is ((closed w).text ++ record_bytes Params []) text e) ∙ ap (λ (t : List ℕ). t ++ record_bytes Params []) g.spelled }

pub holds_whole : (pairs : List Pair) (text : List ℕ) → params_of pairs ≡ Some text → HoldsWhole pairs text
holds_whole pairs text e = whole_by pairs text (put_all nothing pairs) (put_all nothing pairs).long refl e (λ short. holds_all nothing [] pairs short holds_none)
