-- What the info word and the payload of a block become where its value is another.
use Rattle.std.proofs.Common.{◌≡◌, ℕ, ◌+◌, ◌*◌, ◌-◌, ◌^◌, ◌<◌, ◌≤◌, List, [], ◌++◌, length, take, drop, length-append, length-drop, refl, subst, ap, sym, ◌∙◌, arith}
use Rattle.std.proofs.lemmas.List.{append-nil, take_all, length-take-le}
use Rattle.std.proofs.Math.Seq.{take-append_seam}
use Rattle.htx_model.specs.Block.{Block, RequestLine, ResponseLine, Header, EndHeaders, Data, Trailer, EndTrailers, block, kind_of, name_of, value_of, payload_len, with_value, IsFieldKind, IsLineKind, IsEndKind}
use Rattle.htx_model.specs.Blocks.{load, block_at}
use Rattle.htx_model.specs.declared.Kind.{Kind}
use Rattle.htx_model.specs.declared.Kind.TheVariants as kinds
use Rattle.htx_model.proofs.PublicLaws.{load-remove, data_is}
use Rattle.htx_arena.specs.Layout.Raw.{Tells, Describes, code_of, info_of, info_kind, info_len, len_by, name_len, payload_of, block_of}
use Rattle.htx_arena.proofs.LayoutLemmas.CodeLemmas.{IsMade, data_made, field_made, described_len, payload_long}
use Rattle.htx_arena.proofs.LayoutLemmas.TellLemmas.{kind_told, name_told}

-- the type that the info word tells
pub described_kind : (b : Block) (info : ℕ) → Describes info b → info_kind info ≡ kind_of b
described_kind b info d = sym (kind_told info (payload_of b)) ∙ ap kind_of d.is

-- ---- data

pub data_code : (b : Block) (info : ℕ) → Describes info b → kind_of b ≡ kinds.Data → info ≡ 2 ^ 28 * 4 + length (value_of b)
data_code b info d e = d.tells.code ∙ ap info_of (d.is ∙ data_is b e)

pub record DataMore (b : Block) (info : ℕ) (piece : List ℕ) : Type 0 where
  pub sum : info_len (info + length piece) ≡ payload_len b + length piece
  pub tells : Tells (info + length piece) (payload_of b ++ piece)
  pub block : block_of (info + length piece) (payload_of b ++ piece) ≡ Data (value_of b ++ piece)
  pub whole : take (info_len info) (payload_of b) ≡ payload_of b

pub data_more : (b : Block) (info : ℕ) (piece : List ℕ) → Describes info b → kind_of b ≡ kinds.Data → payload_len b + length piece ≤ 262144 → DataMore b info piece
data_more b info piece d e small =
    let q = value_of b in
    let code = data_code b info d e in
    let long = ap payload_len (data_is b e) in
    let both = length-append q piece in
    let m : IsMade (Data (q ++ piece)) (info + length piece) (payload_of b ++ piece) = data_made (q ++ piece) (info + length piece) (payload_of b ++ piece) (omega arith) (omega arith) (ap (λ (x : Block). payload_of x ++ piece) (data_is b e)) in
    let made_len = m.len in
    let len = described_len b info d in
    let all = payload_long b in
    record { sum = omega arith; tells = m.tells; block = m.is; whole = take_all (info_len info) (payload_of b) (omega arith) }

pub data_less : (b : Block) (info n : ℕ) → Describes info b → kind_of b ≡ kinds.Data → payload_len b ≤ 262144 → n < length (value_of b) → IsMade (Data (drop n (value_of b))) (info - n) (drop n (payload_of b))
data_less b info n d e small part =
    let code = data_code b info d e in
    let long = ap payload_len (data_is b e) in
    let rest = length-drop n (value_of b) in
    data_made (drop n (value_of b)) (info - n) (drop n (payload_of b)) (omega arith) (omega arith) (ap (λ (x : Block). drop n (payload_of x)) (data_is b e))

-- ---- a field

bytes_by : (b : Block) → IsFieldKind (kind_of b) → payload_of b ≡ name_of b ++ value_of b
bytes_by (Header n v) h = refl
bytes_by (Trailer n v) h = refl
bytes_by b h = absurd h

pub field_long : (b : Block) → IsFieldKind (kind_of b) → payload_len b ≡ length (name_of b) + length (value_of b)
field_long b h = sym (payload_long b) ∙ ap length (bytes_by b h) ∙ length-append (name_of b) (value_of b)

with_value_is : (b : Block) (w : List ℕ) → IsFieldKind (kind_of b) → with_value b w ≡ block (kind_of b) (name_of b) w []
with_value_is (Header n v) w h = refl
with_value_is (Trailer n v) w h = refl
with_value_is b w h = absurd h

pub field_len : (k : Kind) (n w : List ℕ) → IsFieldKind k → payload_len (block k n w []) ≡ length n + length w
field_len kinds.Header n w h = refl
field_len kinds.Trailer n w h = refl
field_len k n w h = absurd h

pub line_len : (k : Kind) (a b c : List ℕ) → IsLineKind k → payload_len (block k a b c) ≡ 12 + length a + length b + length c
line_len kinds.RequestLine a b c h = refl
line_len kinds.ResponseLine a b c h = refl
line_len k a b c h = absurd h

pub end_len : (k : Kind) → IsEndKind k → payload_len (block k [] [] []) ≡ 1
end_len kinds.EndHeaders h = refl
end_len kinds.EndTrailers h = refl
end_len k h = absurd h

pub with_value_long : (b : Block) (w : List ℕ) → IsFieldKind (kind_of b) → payload_len (with_value b w) ≡ length (name_of b) + length w
with_value_long b w h = ap payload_len (with_value_is b w h) ∙ field_len (kind_of b) (name_of b) w h

name_by : (k : Kind) (info : ℕ) → IsFieldKind k → name_len info ≤ len_by k info
name_by kinds.Header info h = omega arith
name_by kinds.Trailer info h = omega arith
name_by k info h = absurd h

name_part : (info : ℕ) → IsFieldKind (info_kind info) → name_len info ≤ info_len info
unfolding info_len
name_part info h = name_by (info_kind info) info h

-- another value that fits is small
pub value_small : (size : ℕ) (blocks : List Block) (i : ℕ) (w : List ℕ) → size ≤ 262144 → i < length blocks → IsFieldKind (kind_of (block_at blocks i)) → load blocks + length w ≤ size + length (value_of (block_at blocks i)) → length (name_of (block_at blocks i)) + length w ≤ 262144
value_small size blocks i w most h field fits =
    let long = field_long (block_at blocks i) field in
    let rest = load-remove blocks i h in
    omega arith

pub record FieldChange (b : Block) (info : ℕ) (w : List ℕ) : Type 0 where
  pub name : name_len info ≡ length (name_of b)
  pub some : 1 ≤ length (name_of b)
  pub short : length (name_of b) ≤ 255
  pub named : (m : ℕ) → m ≡ length (name_of b) → take m (payload_of b) ≡ name_of b
  pub made : (k : Kind) (new m t : ℕ) (v : List ℕ) → k ≡ info_kind info → m ≡ name_len info → new ≡ 2 ^ 28 * code_of k + (256 * length w + m) → t ≡ length (name_of b) → v ≡ w → IsMade (with_value b w) new (take t (payload_of b) ++ v)
  pub kept : (k : Kind) (new m : ℕ) → k ≡ info_kind info → m ≡ name_len info → new ≡ 2 ^ 28 * code_of k + (256 * 0 + m) → IsMade (block (kind_of b) (name_of b) [] []) new (name_of b)
  pub bare : payload_len (block (kind_of b) (name_of b) [] []) ≡ length (name_of b)

pub field_change : (b : Block) (info : ℕ) (w : List ℕ) → Describes info b → IsFieldKind (kind_of b) → length (name_of b) + length w ≤ 262144 → FieldChange b info w
field_change b info w d field small =
    let n = name_of b in
    let kind = described_kind b info d in
    let raw_field = subst IsFieldKind (sym kind) field in
    let some = d.tells.named raw_field in
    let part = name_part info raw_field in
    let len = described_len b info d in
    let all = payload_long b in
    let name : length n ≡ name_len info = ap (λ (x : Block). length (name_of x)) (sym d.is) ∙ ap length (name_told info (payload_of b) raw_field) ∙ length-take-le (name_len info) (payload_of b) (omega arith) in
    let named : (m : ℕ) → m ≡ length n → take m (payload_of b) ≡ n = λ m e. (λ j. take (e j) (bytes_by b field j)) ∙ take-append_seam n (value_of b) in
    let short : length n ≤ 255 = omega arith in
    let some_name : 1 ≤ length n = omega arith in
    record {
      name = sym name;
      some = some_name;
      short = short;
      named = named;
      made = λ k new m t v of_kind of_name of_new of_t of_v. subst (λ (x : Block). IsMade x new (take t (payload_of b) ++ v)) (sym (with_value_is b w field)) (field_made (kind_of b) n w new (take t (payload_of b) ++ v) field some_name short small (of_new ∙ (λ j. 2 ^ 28 * code_of ((of_kind ∙ kind) j) + (256 * length w + (of_name ∙ sym name) j))) (λ j. named t of_t j ++ of_v j));
      kept = λ k new m of_kind of_name of_new. field_made (kind_of b) n [] new n field some_name short (omega arith) (of_new ∙ (λ j. 2 ^ 28 * code_of ((of_kind ∙ kind) j) + (256 * 0 + (of_name ∙ sym name) j))) (sym (append-nil n));
      bare = field_len (kind_of b) n [] field ∙ omega arith;
    }
