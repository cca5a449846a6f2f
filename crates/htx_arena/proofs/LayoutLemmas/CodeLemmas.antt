-- A block's info word and payload tell the block again.
use Rattle.std.proofs.Common.{◌≡◌, ℕ, ◌+◌, ◌*◌, ◌/◌, ◌%◌, ◌^◌, ◌<◌, ◌≤◌, List, [], ◌∷◌, ◌++◌, length, take, drop, refl, subst, ap, sym, ◌∙◌, arith, length-append}
use Rattle.std.proofs.Math.Seq.{take-append_seam, drop-append_seam, drop-append-add, take-length}
use Rattle.htx_model.specs.Block.{Block, RequestLine, ResponseLine, Header, EndHeaders, Data, Trailer, EndTrailers, block, kind_of, name_of, payload_len, IsFieldKind, IsLineKind, IsEndKind}
use Rattle.htx_model.specs.declared.Kind.{Kind}
use Rattle.htx_model.specs.declared.Kind.TheVariants as kinds
use Rattle.htx_arena.specs.Space.Windows.{window, word_at}
use Rattle.htx_arena.proofs.SpaceLemmas.PublicLaws.{word_at_is}
use Rattle.htx_arena.specs.Layout.Raw.{code_of, lengths_of, info_of, line_head, payload_of, kind_of_code, info_kind, name_len, len_by, info_len, block_by, block_of, Tells, Describes}

-- what an array of at most 262144 bytes can hold
pub record IsSmall (b : Block) : Type 0 where
  pub named : length (name_of b) ≤ 255
  pub some : IsFieldKind (kind_of b) → 1 ≤ length (name_of b)
  pub small : payload_len b ≤ 262144

pub record IsCoded (b : Block) : Type 0 where
  pub len : info_len (info_of b) ≡ payload_len b
  pub is : block_of (info_of b) (payload_of b) ≡ b
  pub long : length (payload_of b) ≡ payload_len b

-- ---- the info word

lengths_small : (b : Block) → IsSmall b → lengths_of b < 2 ^ 28
lengths_small (RequestLine a b c) h = omega (arith, h.small)
lengths_small (ResponseLine a b c) h = omega (arith, h.small)
lengths_small (Header n v) h = omega (arith, h.small, h.named)
lengths_small (Data p) h = omega (arith, h.small)
lengths_small (Trailer n v) h = omega (arith, h.small, h.named)
lengths_small b h = omega arith

code_in : (c x : ℕ) → x < 2 ^ 28 → (2 ^ 28 * c + x) / 2 ^ 28 ≡ c
code_in c x h = omega arith

lengths_in : (c x : ℕ) → x < 2 ^ 28 → (2 ^ 28 * c + x) % 2 ^ 28 ≡ x
lengths_in c x h = omega arith

kind_in : (k : Kind) → kind_of_code (code_of k) ≡ k
kind_in kinds.RequestLine = refl
kind_in k = refl

pub info_kind_is : (b : Block) → IsSmall b → info_kind (info_of b) ≡ kind_of b
info_kind_is b h = ap kind_of_code (code_in (code_of (kind_of b)) (lengths_of b) (lengths_small b h)) ∙ kind_in (kind_of b)

field_name : (c n v : ℕ) → n ≤ 255 → (2 ^ 28 * c + (256 * v + n)) % 256 ≡ n
field_name c n v h = omega arith

field_value : (c n v : ℕ) → n ≤ 255 → v < 2 ^ 20 → (2 ^ 28 * c + (256 * v + n)) / 256 % 2 ^ 20 ≡ v
field_value c n v h g = omega arith

len_in_kind : (b : Block) → IsSmall b → len_by (kind_of b) (info_of b) ≡ payload_len b
len_in_kind (RequestLine a b c) h = lengths_in 0 (12 + length a + length b + length c) (lengths_small (RequestLine a b c) h)
len_in_kind (ResponseLine a b c) h = lengths_in 1 (12 + length a + length b + length c) (lengths_small (ResponseLine a b c) h)
len_in_kind (Header n v) h =
    let name = field_name 2 (length n) (length v) h.named in
    let small = h.small in
    let value = field_value 2 (length n) (length v) h.named (omega arith) in
    λ j. name j + value j
len_in_kind (Data p) h = lengths_in 4 (length p) (lengths_small (Data p) h)
len_in_kind (Trailer n v) h =
    let name = field_name 5 (length n) (length v) h.named in
    let small = h.small in
    let value = field_value 5 (length n) (length v) h.named (omega arith) in
    λ j. name j + value j
len_in_kind b h = refl

-- ---- the payload

-- two parts, the first as long as told
cut_parts : (k : ℕ) (n v : List ℕ) → k ≡ length n → block kinds.Header (take k (n ++ v)) (drop k (n ++ v)) [] ≡ Header n v
cut_parts k n v e =
    let front : take k (n ++ v) ≡ n = ap (λ (m : ℕ). take m (n ++ v)) e ∙ take-append_seam n v in
    let back : drop k (n ++ v) ≡ v = ap (λ (m : ℕ). drop m (n ++ v)) e ∙ drop-append_seam n v in
    λ j. Header (front j) (back j)

cut_trailer : (k : ℕ) (n v : List ℕ) → k ≡ length n → block kinds.Trailer (take k (n ++ v)) (drop k (n ++ v)) [] ≡ Trailer n v
cut_trailer k n v e =
    let front : take k (n ++ v) ≡ n = ap (λ (m : ℕ). take m (n ++ v)) e ∙ take-append_seam n v in
    let back : drop k (n ++ v) ≡ v = ap (λ (m : ℕ). drop m (n ++ v)) e ∙ drop-append_seam n v in
    λ j. Trailer (front j) (back j)

-- bytes behind the first ones
behind : (head rest : List ℕ) (h k n : ℕ) → length head ≡ h → window (head ++ rest) (h + k) n ≡ window rest k n
behind head rest h k n e = ap (λ (m : ℕ). take n (drop (m + k) (head ++ rest))) (sym e) ∙ ap (take n) (drop-append-add head rest k)

first_of : (head a b c : List ℕ) (h : ℕ) → length head ≡ h → window (head ++ (a ++ (b ++ c))) h (length a) ≡ a
first_of head a b c h e =
    let none : h ≡ h + 0 = omega arith in
    ap (λ (m : ℕ). window (head ++ (a ++ (b ++ c))) m (length a)) none ∙ behind head (a ++ (b ++ c)) h 0 (length a) e ∙ take-append_seam a (b ++ c)

second_of : (head a b c : List ℕ) (h : ℕ) → length head ≡ h → window (head ++ (a ++ (b ++ c))) (h + length a) (length b) ≡ b
second_of head a b c h e = behind head (a ++ (b ++ c)) h (length a) (length b) e ∙ ap (take (length b)) (drop-append_seam a (b ++ c)) ∙ take-append_seam b c

third_of : (head a b c : List ℕ) (h : ℕ) → length head ≡ h → window (head ++ (a ++ (b ++ c))) (h + length a + length b) (length c) ≡ c
third_of head a b c h e =
    let order : h + length a + length b ≡ h + (length a + length b) = omega arith in
    ap (λ (m : ℕ). window (head ++ (a ++ (b ++ c))) m (length c)) order ∙ behind head (a ++ (b ++ c)) h (length a + length b) (length c) e
    ∙ ap (take (length c)) (drop-append-add a (b ++ c) (length b) ∙ drop-append_seam b c) ∙ take-length c

-- the parts of a start line in its payload
pub record HasParts (p a b c : List ℕ) : Type 0 where
  pub first : window p 12 (word_at p 0) ≡ a
  pub second : window p (12 + word_at p 0) (word_at p 4) ≡ b
  pub third : window p (12 + word_at p 0 + word_at p 4) (word_at p 8) ≡ c

pub line_parts : (a b c : List ℕ) → length a < 2 ^ 32 → length b < 2 ^ 32 → length c < 2 ^ 32 → HasParts (line_head (length a) (length b) (length c) ++ (a ++ (b ++ c))) a b c
line_parts a b c ha hb hc =
    let head = line_head (length a) (length b) (length c) in
    let rest = a ++ (b ++ c) in
    let p = head ++ rest in
    let wa : word_at p 0 ≡ length a = word_at_is p 0 (length a) ha refl in
    let wb : word_at p 4 ≡ length b = word_at_is p 4 (length b) hb refl in
    let wc : word_at p 8 ≡ length c = word_at_is p 8 (length c) hc refl in
    record {
      first = ap (window p 12) wa ∙ first_of head a b c 12 refl;
      second = (λ j. window p (12 + wa j) (wb j)) ∙ second_of head a b c 12 refl;
      third = (λ j. window p (12 + wa j + wb j) (wc j)) ∙ third_of head a b c 12 refl;
    }

block_in_kind : (b : Block) → IsSmall b → block_by (kind_of b) (info_of b) (payload_of b) ≡ b
block_in_kind (RequestLine a b c) h =
    let small = h.small in
    let p = line_parts a b c (omega arith) (omega arith) (omega arith) in
    λ j. RequestLine (p.first j) (p.second j) (p.third j)
block_in_kind (ResponseLine a b c) h =
    let small = h.small in
    let p = line_parts a b c (omega arith) (omega arith) (omega arith) in
    λ j. ResponseLine (p.first j) (p.second j) (p.third j)
block_in_kind (Header n v) h = cut_parts (name_len (info_of (Header n v))) n v (field_name 2 (length n) (length v) h.named)
block_in_kind (Trailer n v) h = cut_trailer (name_len (info_of (Trailer n v))) n v (field_name 5 (length n) (length v) h.named)
block_in_kind b h = refl

pub payload_long : (b : Block) → length (payload_of b) ≡ payload_len b
payload_long (RequestLine a b c) = omega (arith, length-append (line_head (length a) (length b) (length c)) (a ++ (b ++ c)), length-append a (b ++ c), length-append b c)
payload_long (ResponseLine a b c) = omega (arith, length-append (line_head (length a) (length b) (length c)) (a ++ (b ++ c)), length-append a (b ++ c), length-append b c)
payload_long (Header n v) = length-append n v
payload_long (Trailer n v) = length-append n v
payload_long b = refl

pub coded : (b : Block) → IsSmall b → IsCoded b
unfolding info_len block_of
coded b h =
    let kind = info_kind_is b h in
    record {
      len = ap (λ (k : Kind). len_by k (info_of b)) kind ∙ len_in_kind b h;
      is = ap (λ (k : Kind). block_by k (info_of b) (payload_of b)) kind ∙ block_in_kind b h;
      long = payload_long b;
    }

name_by : (b : Block) → IsSmall b → IsFieldKind (kind_of b) → name_len (info_of b) ≡ length (name_of b)
name_by (Header n v) h g = field_name 2 (length n) (length v) h.named
name_by (Trailer n v) h g = field_name 5 (length n) (length v) h.named
name_by b h g = absurd g

named_by : (b : Block) → IsSmall b → IsFieldKind (info_kind (info_of b)) → 1 ≤ name_len (info_of b)
named_by b h g =
    let field : IsFieldKind (kind_of b) = subst IsFieldKind (info_kind_is b h) g in
    let some = h.some field in
    omega (arith, name_by b h field)

pub tells : (b : Block) → IsSmall b → Tells (info_of b) (payload_of b)
tells b h =
    let c = coded b h in
    record { len = ap payload_len c.is ∙ sym c.len; code = sym (ap info_of c.is); bytes = sym (ap payload_of c.is); named = named_by b h }

-- a block that an info word and a payload tell, which are its own
pub record IsMade (b : Block) (info : ℕ) (p : List ℕ) : Type 0 where
  pub tells : Tells info p
  pub is : block_of info p ≡ b
  pub long : length p ≡ payload_len b
  pub len : info_len info ≡ payload_len b

pub made : (b : Block) (info : ℕ) (p : List ℕ) → info ≡ info_of b → p ≡ payload_of b → IsSmall b → IsMade b info p
made b info p e f h =
    let c = coded b h in
    record {
      tells = subst (λ (i : ℕ). Tells i p) (sym e) (subst (λ (q : List ℕ). Tells (info_of b) q) (sym f) (tells b h));
      is = (λ j. block_of (e j) (f j)) ∙ c.is;
      long = ap length f ∙ c.long;
      len = ap info_len e ∙ c.len;
    }

pub described : (b : Block) (info : ℕ) (p : List ℕ) → Describes info b → p ≡ payload_of b → IsMade b info p
described b info p d e = record { tells = subst (Tells info) (sym e) d.tells; is = ap (block_of info) e ∙ d.is; long = ap length e ∙ payload_long b; len = sym d.tells.len ∙ ap payload_len d.is }

-- a block's own length
pub described_len : (b : Block) (info : ℕ) → Describes info b → info_len info ≡ payload_len b
described_len b info d = sym d.tells.len ∙ ap payload_len d.is

-- ---- the blocks that calls make of their arguments

pub field_made : (k : Kind) (n v : List ℕ) (info : ℕ) (p : List ℕ) → IsFieldKind k → 1 ≤ length n → length n ≤ 255 → length n + length v ≤ 262144 → info ≡ 2 ^ 28 * code_of k + (256 * length v + length n) → p ≡ n ++ v → IsMade (block k n v []) info p
field_made kinds.Header n v info p h some named small e f = made (Header n v) info p e f (record { named = named; some = λ g. some; small = small })
field_made kinds.Trailer n v info p h some named small e f = made (Trailer n v) info p e f (record { named = named; some = λ g. some; small = small })
field_made k n v info p h some named small e f = absurd h

pub line_made : (k : Kind) (a b c : List ℕ) (info : ℕ) (p : List ℕ) → IsLineKind k → 12 + length a + length b + length c ≤ 262144 → info ≡ 2 ^ 28 * code_of k + (12 + length a + length b + length c) → p ≡ line_head (length a) (length b) (length c) ++ (a ++ (b ++ c)) → IsMade (block k a b c) info p
line_made kinds.RequestLine a b c info p h small e f = made (RequestLine a b c) info p e f (record { named = omega arith; some = λ g. absurd g; small = small })
line_made kinds.ResponseLine a b c info p h small e f = made (ResponseLine a b c) info p e f (record { named = omega arith; some = λ g. absurd g; small = small })
line_made k a b c info p h small e f = absurd h

pub end_made : (k : Kind) (info : ℕ) (p : List ℕ) → IsEndKind k → info ≡ 2 ^ 28 * code_of k + 1 → p ≡ 0 ∷ [] → IsMade (block k [] [] []) info p
end_made kinds.EndHeaders info p h e f = made EndHeaders info p e f (record { named = omega arith; some = λ g. absurd g; small = omega arith })
end_made kinds.EndTrailers info p h e f = made EndTrailers info p e f (record { named = omega arith; some = λ g. absurd g; small = omega arith })
end_made k info p h e f = absurd h

pub data_made : (q : List ℕ) (info : ℕ) (p : List ℕ) → length q ≤ 262144 → info ≡ 2 ^ 28 * 4 + length q → p ≡ q → IsMade (Data q) info p
data_made q info p small e f = made (Data q) info p e f (record { named = omega arith; some = λ g. absurd g; small = small })
