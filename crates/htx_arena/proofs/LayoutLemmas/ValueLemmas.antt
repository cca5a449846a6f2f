-- What a write over the value of a block does to an array with holes.
use Rattle.std.proofs.Common.{◌≡◌, ◌≢◌, ℕ, ◌+◌, ◌*◌, ◌^◌, ◌%◌, ◌<◌, ◌≤◌, inl, inr, List, [], length, set, take, drop, refl, ap, sym, ◌∙◌, subst, arith}
use Rattle.std.proofs.lemmas.List.{take-append-drop, take_all, take-take, drop-take, drop-drop}
use Rattle.std.proofs.lemmas.Bool.{cases_lt, cases_eq}
use Rattle.htx_model.specs.Block.{Block, RequestLine, Header, Data, Trailer, block, kind_of, value_of, payload_len, HasValue, IsFieldKind, with_value}
use Rattle.htx_model.specs.declared.Kind.{Kind}
use Rattle.htx_model.specs.declared.Kind.TheVariants as kinds
use Rattle.htx_arena.specs.declared.space.space.Desc.{Desc}
use Rattle.htx_arena.specs.Space.Windows.{window, overwritten, desc_at}
use Rattle.htx_arena.proofs.SpaceLemmas.PublicLaws.{length-overwritten, window-overwritten_below, window-overwritten_above, window-overwritten_within, desc_at-overwritten}
use Rattle.htx_arena.specs.Layout.Raw.{addr_in, len_in, payload_in, info_of, payload_of, Tells, block_in, block_of, block_by, info_len, info_kind, len_by, name_len, value_len, blocks_of, addrs_of}
use Rattle.htx_arena.specs.Layout.Sound.{IsSound, AreApart, end_of, IsTold}
use Rattle.htx_arena.specs.Layout.Values.{value_off, value_size, value_start, value_length}
use Rattle.htx_arena.proofs.LayoutLemmas.RawLemmas.{block_in-same, payload_in-same}
use Rattle.htx_arena.proofs.LayoutLemmas.MoveLemmas.{listed-set, listed-same, Tells-same}

size_within : (k : Kind) (info : ℕ) → value_off k info + value_size k info ≤ len_by k info
size_within kinds.RequestLine info = omega arith
size_within k info = omega arith

-- a field's two parts after the second was written
front_part : (raw w : List ℕ) (a n v : ℕ) → a + (n + v) ≤ length raw → take n (window (overwritten raw (a + n) w) a (n + v)) ≡ take n (window raw a (n + v))
front_part raw w a n v fits =
    take-take n (n + v) (drop a (overwritten raw (a + n) w)) (omega arith)
    ∙ window-overwritten_below raw (a + n) w a n (omega arith) (omega arith)
    ∙ sym (take-take n (n + v) (drop a raw) (omega arith))

back_part : (raw w : List ℕ) (a n v : ℕ) → length w ≡ v → a + (n + v) ≤ length raw → drop n (window (overwritten raw (a + n) w) a (n + v)) ≡ w
back_part raw w a n v e fits =
    let new = overwritten raw (a + n) w in
    let none : a + n + 0 ≡ a + n = omega arith in
    drop-take n v (drop a new) ∙ ap (take v) (drop-drop n a new)
    ∙ ap (λ k. window new k v) (sym none) ∙ window-overwritten_within raw (a + n) w 0 v (omega arith) (omega arith) ∙ take_all v w (omega arith)

whole_part : (raw w : List ℕ) (a v : ℕ) → length w ≡ v → a + v ≤ length raw → window (overwritten raw (a + 0) w) a v ≡ w
whole_part raw w a v e fits =
    let none : a ≡ a + 0 + 0 = omega arith in
    ap (λ k. window (overwritten raw (a + 0) w) k v) none
    ∙ window-overwritten_within raw (a + 0) w 0 v (omega arith) (omega arith) ∙ take_all v w (omega arith)

block_written : (k : Kind) (info a : ℕ) (raw w : List ℕ) → HasValue (kind_of (block_by k info (window raw a (len_by k info)))) → length w ≡ value_size k info → a + len_by k info ≤ length raw
    → block_by k info (window (overwritten raw (a + value_off k info) w) a (len_by k info)) ≡ with_value (block_by k info (window raw a (len_by k info))) w
block_written kinds.Data info a raw w h e fits = ap (λ p. block kinds.Data p [] []) (whole_part raw w a (info % 2 ^ 28) e fits)
block_written kinds.Header info a raw w h e fits =
    let f = front_part raw w a (name_len info) (value_len info) fits in
    let b = back_part raw w a (name_len info) (value_len info) e fits in
    λ j. block kinds.Header (f j) (b j) []
block_written kinds.Trailer info a raw w h e fits =
    let f = front_part raw w a (name_len info) (value_len info) fits in
    let b = back_part raw w a (name_len info) (value_len info) e fits in
    λ j. block kinds.Trailer (f j) (b j) []
block_written k info a raw w h e fits = absurd h

value_by : (k : Kind) (info a : ℕ) (raw : List ℕ) → HasValue (kind_of (block_by k info (window raw a (len_by k info)))) → value_of (block_by k info (window raw a (len_by k info))) ≡ window raw (a + value_off k info) (value_size k info)
value_by kinds.Data info a raw h = let none : a ≡ a + 0 = omega arith in ap (λ k. window raw k (info % 2 ^ 28)) none
value_by kinds.Header info a raw h = drop-take (name_len info) (value_len info) (drop a raw) ∙ ap (take (value_len info)) (drop-drop (name_len info) a raw)
value_by kinds.Trailer info a raw h = drop-take (name_len info) (value_len info) (drop a raw) ∙ ap (take (value_len info)) (drop-drop (name_len info) a raw)
value_by k info a raw h = absurd h

pub payload-with_value : (b : Block) (w : List ℕ) → length w ≡ length (value_of b) → payload_len (with_value b w) ≡ payload_len b
payload-with_value (Header n v) w e = omega arith
payload-with_value (Data p) w e = e
payload-with_value (Trailer n v) w e = omega arith
payload-with_value b w e = refl

-- what holds where the value of block i may be written
pub record CanWrite (raw : List ℕ) (n i : ℕ) (w : List ℕ) : Type 0 where
  pub sound : IsSound raw n
  pub within : i < n
  pub valued : HasValue (kind_of (block_in raw i))
  pub long : length w ≡ value_length raw i

abbrev pub over : List ℕ → ℕ → List ℕ → List ℕ
over raw i w = overwritten raw (value_start raw i) w

-- the value ends within the payload
value_end : (raw : List ℕ) (n i : ℕ) (w : List ℕ) → CanWrite raw n i w → value_start raw i + length w ≤ end_of (desc_at raw i)
unfolding info_len
value_end raw n i w can = omega (arith, size_within (info_kind (desc_at raw i).info) (desc_at raw i).info, can.long)

pub length-over : (raw : List ℕ) (n i : ℕ) (w : List ℕ) → CanWrite raw n i w → length (over raw i w) ≡ length raw
length-over raw n i w can =
    let ends = value_end raw n i w can in
    let fits = can.sound.within i can.within in
    length-overwritten raw (value_start raw i) w (omega arith)

pub desc_at-over : (raw : List ℕ) (n i j : ℕ) (w : List ℕ) → CanWrite raw n i w → j < n → desc_at (over raw i w) j ≡ desc_at raw j
desc_at-over raw n i j w can small =
    let ends = value_end raw n i w can in
    let fits = can.sound.within i can.within in
    let room = can.sound.room in
    desc_at-overwritten raw (value_start raw i) w j (omega arith) (omega arith)

payload-over : (raw : List ℕ) (n i j : ℕ) (w : List ℕ) → CanWrite raw n i w → j < n → j ≢ i → window (over raw i w) (addr_in raw j) (len_in raw j) ≡ window raw (addr_in raw j) (len_in raw j)
payload-over raw n i j w can small ne =
    let ends = value_end raw n i w can in
    let fits = can.sound.within i can.within in
    let above = λ (h : end_of (desc_at raw i) ≤ addr_in raw j). window-overwritten_above raw (value_start raw i) w (addr_in raw j) (len_in raw j) (omega arith) (omega arith) in
    let below = λ (h : end_of (desc_at raw j) ≤ addr_in raw i). window-overwritten_below raw (value_start raw i) w (addr_in raw j) (len_in raw j) (omega arith) (omega arith) in
    elim (cases_lt i j) [
      | inl lt ↦ elim (can.sound.apart i j lt small) [ inl h ↦ above h | inr h ↦ below h ]
      | inr ge ↦ elim (can.sound.apart j i (omega arith) can.within) [ inl h ↦ below h | inr h ↦ above h ]
    ]

here-over : (raw : List ℕ) (n i : ℕ) (w : List ℕ) → CanWrite raw n i w → block_in (over raw i w) i ≡ with_value (block_in raw i) w
unfolding info_len block_of
here-over raw n i w can =
    let d = desc_at raw i in
    let fits = can.sound.within i can.within in
    ap (λ (e : Desc). block_by (info_kind e.info) e.info (window (over raw i w) e.addr (len_by (info_kind e.info) e.info))) (desc_at-over raw n i i w can can.within)
    ∙ block_written (info_kind d.info) d.info d.addr raw w can.valued can.long (omega arith)

-- the blocks and addresses after a write over the value of one
pub blocks_of-over : (raw : List ℕ) (n i : ℕ) (w : List ℕ) → CanWrite raw n i w → blocks_of (over raw i w) n ≡ set (blocks_of raw n) i (with_value (block_in raw i) w)
blocks_of-over raw n i w can =
    listed-set (block_in raw) (block_in (over raw i w)) n i (with_value (block_in raw i) w) can.within (here-over raw n i w can)
    (λ j small ne. block_in-same raw (over raw i w) j j (desc_at-over raw n i j w can small) (payload-over raw n i j w can small ne))

pub addrs_of-over : (raw : List ℕ) (n i : ℕ) (w : List ℕ) → CanWrite raw n i w → addrs_of (over raw i w) n ≡ addrs_of raw n
addrs_of-over raw n i w can =
    listed-same (addr_in raw) (addr_in (over raw i w)) n (λ j small. ap (λ (d : Desc). d.addr) (desc_at-over raw n i j w can small))

-- the value in the array
pub value_in : (raw : List ℕ) (i : ℕ) → HasValue (kind_of (block_in raw i)) → value_of (block_in raw i) ≡ window raw (value_start raw i) (value_length raw i)
unfolding info_len block_of
value_in raw i h = value_by (info_kind (desc_at raw i).info) (desc_at raw i).info (addr_in raw i) raw h

pub IsSound-over : (raw : List ℕ) (n i : ℕ) (w : List ℕ) → CanWrite raw n i w → IsSound (over raw i w) n
IsSound-over raw n i w can =
    let new = over raw i w in
    let long = length-over raw n i w can in
    let room = can.sound.room in
    record {
      room = omega arith;
      within = λ j small. let fits = can.sound.within j small in let same = ap end_of (desc_at-over raw n i j w can small) in omega arith;
      apart = λ j k lt small.
          let one = desc_at-over raw n i j w can (omega arith) in
          let two = desc_at-over raw n i k w can small in
          subst (λ (d : Desc). AreApart d (desc_at new k)) (sym one) (subst (λ (d : Desc). AreApart (desc_at raw j) d) (sym two) (can.sound.apart j k lt small));
    }

-- ---- the word and the bytes of a block with another value

info-with_value : (b : Block) (w : List ℕ) → length w ≡ length (value_of b) → info_of (with_value b w) ≡ info_of b
info-with_value (Header n v) w e = ap (λ (m : ℕ). 2 ^ 28 * 2 + (256 * m + length n)) e
info-with_value (Data p) w e = ap (λ (m : ℕ). 2 ^ 28 * 4 + m) e
info-with_value (Trailer n v) w e = ap (λ (m : ℕ). 2 ^ 28 * 5 + (256 * m + length n)) e
info-with_value b w e = refl

kind-with_value : (b : Block) (w : List ℕ) → kind_of (with_value b w) ≡ kind_of b
kind-with_value (RequestLine a b c) w = refl
kind-with_value b w = refl

bytes_by : (k : Kind) (info : ℕ) (p : List ℕ) → HasValue (kind_of (block_by k info p)) → p ≡ payload_of (block_by k info p)
bytes_by kinds.Header info p h = sym (take-append-drop (name_len info) p)
bytes_by kinds.Data info p h = refl
bytes_by kinds.Trailer info p h = sym (take-append-drop (name_len info) p)
bytes_by k info p h = absurd h

pub bytes_of : (info : ℕ) (p : List ℕ) → HasValue (kind_of (block_of info p)) → p ≡ payload_of (block_of info p)
unfolding block_of
bytes_of info p h = bytes_by (info_kind info) info p h

told_here : (raw : List ℕ) (n i : ℕ) (w : List ℕ) → CanWrite raw n i w → length w ≡ length (value_of (block_in raw i)) → IsTold raw n → Tells (desc_at (over raw i w) i).info (payload_in (over raw i w) i)
told_here raw n i w can e told =
    let new = over raw i w in
    let b = block_in raw i in
    let old = told.told i can.within in
    let is = here-over raw n i w can in
    let info = ap (λ (d : Desc). d.info) (desc_at-over raw n i i w can can.within) in
    let kind : kind_of (block_in new i) ≡ kind_of b = ap kind_of is ∙ kind-with_value b w in
    record {
      len = ap payload_len is ∙ payload-with_value b w e ∙ old.len ∙ sym (ap info_len info);
      code = info ∙ old.code ∙ sym (info-with_value b w e) ∙ sym (ap info_of is);
      bytes = bytes_of (desc_at new i).info (payload_in new i) (subst HasValue (sym kind) can.valued);
      named = subst (λ (m : ℕ). IsFieldKind (info_kind m) → 1 ≤ name_len m) (sym info) old.named;
    }

pub IsTold-over : (raw : List ℕ) (n i : ℕ) (w : List ℕ) → CanWrite raw n i w → length w ≡ length (value_of (block_in raw i)) → IsTold raw n → IsTold (over raw i w) n
IsTold-over raw n i w can e told = record {
  told = λ j small. elim (cases_eq j i) [
    | inl at ↦ subst (λ (k : ℕ). Tells (desc_at (over raw i w) k).info (payload_in (over raw i w) k)) (sym at) (told_here raw n i w can e told)
    | inr ne ↦ Tells-same _ _ _ _ (ap (λ (d : Desc). d.info) (desc_at-over raw n i j w can small)) (payload_in-same raw (over raw i w) j j (desc_at-over raw n i j w can small) (payload-over raw n i j w can small ne)) (told.told j small)
  ];
}

-- the value lies below the descriptors
pub value_fits : (raw : List ℕ) (n i : ℕ) → IsSound raw n → i < n → value_start raw i + value_length raw i ≤ length raw
unfolding info_len
value_fits raw n i sound small = omega (arith, size_within (info_kind (desc_at raw i).info) (desc_at raw i).info, sound.within i small)
