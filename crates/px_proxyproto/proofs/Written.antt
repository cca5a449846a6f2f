-- A header that is written of a pair is a header with that pair.
use Rattle.std.proofs.Common.{◌≡◌, ℕ, suc, ◌*◌, ◌%◌, ◌^◌, ◌<◌, ◌≤◌, Bool, true, false, ◌&&◌, cond, List, [], ◌∷◌, ◌++◌, length, All, flat_map, inl, inr, refl, sym, ap, subst, ◌∙◌, arith, append_assoc, length-append}
use Rattle.std.specs.Prelude.{Option, Some, None, decimal, codes, nat_lt, ◌==◌}
use Rattle.std.specs.List.{list_all}
use Rattle.std.specs.Int.{w16, w32, w128, to_be_bytes, from_be_bytes}
use Rattle.std.specs.Net.Addr.{segments_of, ipv4_bits, ipv6_bits}
use Rattle.std.proofs.lemmas.Bool.{ltb-true}
use Rattle.std.proofs.lemmas.Nat.{from_be_bytes-to_be_bytes_2, from_be_bytes-to_be_bytes_4}
use Rattle.std.proofs.lemmas.Fmt.{length-decimal-le}
use Rattle.std.proofs.lemmas.List.Elements.{All-nil, All-cons, All-append}
use Rattle.px_bytes.proofs.PublicLaws.{length-hex-le}
use Rattle.px_peer.specs.declared.Pair.{Pair}
use Rattle.px_proxyproto.specs.Addresses.{IsAddress, IsPair}
use Rattle.px_proxyproto.specs.Binary.{IsBinary, pair_4, pair_6}
use Rattle.px_proxyproto.specs.Lines.{IsInLine, IsPairText, IsFamilyLine, IsLineOf, IsText, four_words, family_word, line_end}
use Rattle.px_proxyproto.specs.Headers.{IsHeader}
use Rattle.px_proxyproto.specs.Texts.{octets_4, octets_6, group_text, next_group, groups_text, dotted_text, address_text, addresses_text, ports_text, line_text, text_of, binary_of, header_of}
use Rattle.px_proxyproto.proofs.Shown.{AreSegments, IsShown, in_word, in_line, decimal_shown, groups_shown, groups_are, dotted_is}
use Rattle.px_proxyproto.proofs.Bits.{wide, number_back, bytes_small, octets_back, segments_small}

-- ---- addresses

groups_len : (xs : List ℕ) → AreSegments xs → length (flat_map (next_group false) xs) ≤ 5 * length xs
groups_len [] h = omega arith
groups_len (x ∷ xs) h =
    omega (arith, length-append (next_group false x) (flat_map (next_group false) xs), groups_len xs (λ k. h (suc k)), length-hex-le 4 x (omega arith) (omega (arith, h 0)) (omega (arith, h 0)))

first_len : (xs : List ℕ) → AreSegments xs → length (groups_text xs) ≤ 5 * length xs
first_len [] h = omega arith
first_len (x ∷ xs) h =
    omega (arith, length-append (group_text x) (flat_map (next_group false) xs), groups_len xs (λ k. h (suc k)), length-hex-le 4 x (omega arith) (omega (arith, h 0)) (omega (arith, h 0)))

octet_len : (n : ℕ) → n < 256 → length (decimal n) ≤ 3
octet_len n fits = length-decimal-le 3 n (omega arith) (omega (arith, fits)) (omega (arith, fits))

dotted_len : (a b c d : ℕ) → a < 256 → b < 256 → c < 256 → d < 256 → length (dotted_text (a ∷ b ∷ c ∷ d ∷ [])) ≤ 15
dotted_len a b c d ha hb hc hd =
    omega (
      arith,
      octet_len a ha,
      octet_len b hb,
      octet_len c hc,
      octet_len d hd,
      length-append (decimal a) (46 ∷ (decimal b ++ (46 ∷ (decimal c ++ (46 ∷ decimal d))))),
      length-append (decimal b) (46 ∷ (decimal c ++ (46 ∷ decimal d))),
      length-append (decimal c) (46 ∷ decimal d),
    )

-- what is written of an address reads as it, shows alone, and is short
record IsWritten (v6 : Bool) (addr : ℕ) (text : List ℕ) : Type 0 where
  reads : IsAddress v6 text addr
  shown : All IsShown text
  len : length text ≤ 40

written_6 : (addr : ℕ) → addr < 2 ^ 128 → IsWritten true addr (address_text true addr)
unfolding octets_6 ipv6_bits
written_6 addr fits =
    let octets : List ℕ = to_be_bytes w128 addr in
    let small = bytes_small 16 addr in
    let parts = segments_small (to_be_bytes w128 addr) small in
    record {
      reads = (record { segments = segments_of (to_be_bytes w128 addr) }, inl (groups_are true (segments_of (to_be_bytes w128 addr)) parts, refl), ap (from_be_bytes w128) (octets_back 8 (to_be_bytes w128 addr) refl small) ∙ wide addr fits);
      shown = groups_shown (segments_of (to_be_bytes w128 addr)) parts;
      len = first_len (segments_of (to_be_bytes w128 addr)) parts;
    }

written_4 : (addr : ℕ) → addr < 2 ^ 32 → IsWritten false addr (address_text false addr)
unfolding octets_4 ipv4_bits
written_4 addr fits =
    let low : addr % 2 ^ 32 ≡ addr = omega (arith, fits) in
    let small = bytes_small 4 (addr % 2 ^ 32) in
    let is = dotted_is _ _ _ _ (small 0) (small 1) (small 2) (small 3) in
    record {
      reads = (record { octets = to_be_bytes w32 (addr % 2 ^ 32) }, is.0, from_be_bytes-to_be_bytes_4 (addr % 2 ^ 32) (omega arith) ∙ low);
      shown = is.1;
      len = omega (arith, dotted_len _ _ _ _ (small 0) (small 1) (small 2) (small 3));
    }

written : (v6 : Bool) (addr : ℕ) → addr < 2 ^ 128 → (v6 ≡ false → addr < 2 ^ 32) → IsWritten v6 addr (address_text v6 addr)
written true addr fits low = written_6 addr fits
written false addr fits low = written_4 addr (low refl)

-- ---- lines

both_true : (a b : Bool) → (a && b) ≡ true → (a ≡ true) × (b ≡ true)
both_true true b e = (refl, e)
both_true false b e = absurd cc

inside_by : (text : List ℕ) → list_all (λ b. nat_lt 13 b) text ≡ true → All IsInLine text
inside_by [] e = All-nil IsInLine
inside_by (x ∷ text) e =
    let parts = both_true (nat_lt 13 x) (list_all (λ b. nat_lt 13 b) text) e in
    let above = ltb-true 13 x parts.0 in
    All-cons IsInLine x text (λ h. absurd (omega (arith, above, h)), λ h. absurd (omega (arith, above, h))) (inside_by text parts.1)

word_inside : (v6 : Bool) → All IsInLine (family_word v6)
word_inside true = inside_by (family_word true) refl
word_inside false = inside_by (family_word false) refl

word_len : (v6 : Bool) → length (family_word v6) ≡ 11
word_len true = refl
word_len false = refl

spaced : (text rest : List ℕ) → All IsShown text → All IsInLine rest → All IsInLine (text ++ (32 ∷ rest))
spaced text rest shown inside =
    All-append IsInLine text (32 ∷ rest) (in_line text shown) (All-cons IsInLine 32 rest (λ h. absurd (omega (arith, h)), λ h. absurd (omega (arith, h))) inside)

told_is : (v6 : Bool) (line : List ℕ) (pair : Pair) → IsFamilyLine v6 line pair → IsLineOf line (Some pair)
told_is true line pair h = inr h
told_is false line pair h = inl h

whole : (a b p q : List ℕ) → (a ++ (32 ∷ (b ++ (32 ∷ [])))) ++ (p ++ (32 ∷ q)) ≡ a ++ (32 ∷ (b ++ (32 ∷ (p ++ (32 ∷ q)))))
whole a b p q = simp append_assoc

text_by : (word a b p q : List ℕ) → All IsInLine word → All IsShown a → All IsShown b → All IsShown p → All IsShown q → All IsInLine (word ++ ((a ++ (32 ∷ (b ++ (32 ∷ [])))) ++ (p ++ (32 ∷ q))))
text_by word a b p q hw ha hb hp hq =
    All-append IsInLine word ((a ++ (32 ∷ (b ++ (32 ∷ [])))) ++ (p ++ (32 ∷ q))) hw
    (subst (All IsInLine) (sym (whole a b p q)) (spaced a (b ++ (32 ∷ (p ++ (32 ∷ q)))) ha (spaced b (p ++ (32 ∷ q)) hb (spaced p q hp (in_line q hq)))))

len_by : (word a b p q : List ℕ) → length word ≡ 11 → length a ≤ 40 → length b ≤ 40 → length p ≤ 5 → length q ≤ 5 → length ((word ++ ((a ++ (32 ∷ (b ++ (32 ∷ [])))) ++ (p ++ (32 ∷ q)))) ++ line_end) ≤ 107
len_by word a b p q hw ha hb hp hq =
    let all = (a ++ (32 ∷ (b ++ (32 ∷ [])))) ++ (p ++ (32 ∷ q)) in
    omega (
      arith,
      hw,
      ha,
      hb,
      hp,
      hq,
      length-append (word ++ ((a ++ (32 ∷ (b ++ (32 ∷ [])))) ++ (p ++ (32 ∷ q)))) line_end,
      length-append word ((a ++ (32 ∷ (b ++ (32 ∷ [])))) ++ (p ++ (32 ∷ q))),
      ap length (whole a b p q),
      length-append a (32 ∷ (b ++ (32 ∷ (p ++ (32 ∷ q))))),
      length-append b (32 ∷ (p ++ (32 ∷ q))),
      length-append p (32 ∷ q),
    )

port_len : (n : ℕ) → n < 2 ^ 16 → length (decimal n) ≤ 5
port_len n fits = length-decimal-le 5 n (omega arith) (omega (arith, fits)) (omega (arith, fits))

pub line_back : (pair : Pair) → IsPair pair → IsText (text_of (Some pair)) (Some pair)
line_back pair is =
    let v6 = pair.src.v6 in
    let src = written pair.src.v6 pair.src.addr is.src.0 is.src.2 in
    let dst = written pair.src.v6 pair.dst.addr is.dst.0 (λ e. is.dst.2 (is.family ∙ e)) in
    let a : List ℕ = address_text pair.src.v6 pair.src.addr in
    let b : List ℕ = address_text pair.src.v6 pair.dst.addr in
    let p : List ℕ = decimal pair.src.port in
    let q : List ℕ = decimal pair.dst.port in
    let text : IsPairText pair.src.v6 (addresses_text pair ++ ports_text pair) pair = (
      four_words a b p q,
      record { whole = whole a b p q; src = in_word a src.shown; dst = in_word b dst.shown; src_port = in_word p (decimal_shown pair.src.port is.src.1) },
      record { src_family = refl; dst_family = is.family; src = src.reads; dst = dst.reads; src_port = (is.src.1, refl); dst_port = (is.dst.1, refl) },
    ) in
    record {
      line = line_text pair;
      ends = refl;
      inside = text_by (family_word pair.src.v6) a b p q (word_inside pair.src.v6) src.shown dst.shown (decimal_shown pair.src.port is.src.1) (decimal_shown pair.dst.port is.dst.1);
      len = len_by (family_word pair.src.v6) a b p q (word_len pair.src.v6) src.len dst.len (port_len pair.src.port is.src.1) (port_len pair.dst.port is.dst.1);
      tells = told_is pair.src.v6 (line_text pair) pair (addresses_text pair ++ ports_text pair, refl, text);
    }

unknown_back : IsText (text_of None) None
unknown_back = record { line = codes "PROXY UNKNOWN"; ends = refl; inside = inside_by (codes "PROXY UNKNOWN") refl; len = omega arith; tells = ([], refl) }

-- ---- blocks

low : (addr : ℕ) → addr < 2 ^ 32 → from_be_bytes w32 (to_be_bytes w32 (addr % 2 ^ 32)) ≡ addr
low addr h = let same : addr % 2 ^ 32 ≡ addr = omega (arith, h) in from_be_bytes-to_be_bytes_4 (addr % 2 ^ 32) (omega arith) ∙ same

block_4_back : (a b p q : ℕ) → a < 2 ^ 32 → b < 2 ^ 32 → p < 2 ^ 16 → q < 2 ^ 16
    → pair_4 (octets_4 a ++ (octets_4 b ++ (to_be_bytes w16 p ++ to_be_bytes w16 q)))
    ≡ record { src = record { v6 = false; addr = a; port = p }; dst = record { v6 = false; addr = b; port = q } }
unfolding octets_4
block_4_back a b p q ha hb hp hq = λ i. record {
  src = record { v6 = false; addr = low a ha i; port = from_be_bytes-to_be_bytes_2 p hp i };
  dst = record { v6 = false; addr = low b hb i; port = from_be_bytes-to_be_bytes_2 q hq i };
}

block_6_back : (a b p q : ℕ) → a < 2 ^ 128 → b < 2 ^ 128 → p < 2 ^ 16 → q < 2 ^ 16
    → pair_6 (octets_6 a ++ (octets_6 b ++ (to_be_bytes w16 p ++ to_be_bytes w16 q)))
    ≡ record { src = record { v6 = true; addr = a; port = p }; dst = record { v6 = true; addr = b; port = q } }
unfolding octets_6
block_6_back a b p q ha hb hp hq = λ i. record {
  src = record { v6 = true; addr = number_back a (octets_6 b ++ (to_be_bytes w16 p ++ to_be_bytes w16 q)) ha i; port = from_be_bytes-to_be_bytes_2 p hp i };
  dst = record { v6 = true; addr = number_back b (to_be_bytes w16 p ++ to_be_bytes w16 q) hb i; port = from_be_bytes-to_be_bytes_2 q hq i };
}

binary_4 : (a b p q : ℕ) → a < 2 ^ 32 → b < 2 ^ 32 → p < 2 ^ 16 → q < 2 ^ 16
    → let pair : Pair = record { src = record { v6 = false; addr = a; port = p }; dst = record { v6 = false; addr = b; port = q } } in IsBinary (binary_of (Some pair)) (Some pair)
unfolding octets_4
binary_4 a b p q ha hb hp hq = record { signed = refl; len = refl; stands = refl; tells = ap Some (sym (block_4_back a b p q ha hb hp hq)) }

binary_6 : (a b p q : ℕ) → a < 2 ^ 128 → b < 2 ^ 128 → p < 2 ^ 16 → q < 2 ^ 16
    → let pair : Pair = record { src = record { v6 = true; addr = a; port = p }; dst = record { v6 = true; addr = b; port = q } } in IsBinary (binary_of (Some pair)) (Some pair)
unfolding octets_6
binary_6 a b p q ha hb hp hq = record { signed = refl; len = refl; stands = refl; tells = ap Some (sym (block_6_back a b p q ha hb hp hq)) }

none_binary : IsBinary (binary_of None) None
none_binary = record { signed = refl; len = refl; stands = refl; tells = refl }

-- a pair by its fields
abbrev fields : (v w : Bool) (a b p q : ℕ) → Pair
fields v w a b p q = record { src = record { v6 = v; addr = a; port = p }; dst = record { v6 = w; addr = b; port = q } }

binary_by : (v w : Bool) (a b p q : ℕ) → IsPair (fields v w a b p q) → IsBinary (binary_of (Some (fields v w a b p q))) (Some (fields v w a b p q))
binary_by true true a b p q is = binary_6 a b p q is.src.0 is.dst.0 is.src.1 is.dst.1
binary_by false false a b p q is = binary_4 a b p q (is.src.2 refl) (is.dst.2 refl) is.src.1 is.dst.1
binary_by true false a b p q is = absurd (let bad : false ≡ true = is.family in cc)
binary_by false true a b p q is = absurd (let bad : true ≡ false = is.family in cc)

pub binary_back : (pair : Pair) → IsPair pair → IsBinary (binary_of (Some pair)) (Some pair)
binary_back pair is = binary_by pair.src.v6 pair.dst.v6 pair.src.addr pair.dst.addr pair.src.port pair.dst.port is

either : (b : Bool) (x y : List ℕ) (pair : Option Pair) → IsHeader x pair → IsHeader y pair → IsHeader (cond b x y) pair
either true x y pair h k = h
either false x y pair h k = k

pub header_back : (version : ℕ) (pair : Pair) → IsPair pair → IsHeader (header_of version (Some pair)) (Some pair)
header_back version pair is = either (version == 2) (binary_of (Some pair)) (text_of (Some pair)) (Some pair) (inr (binary_back pair is)) (inl (line_back pair is))

pub none_back : (version : ℕ) → IsHeader (header_of version None) None
none_back version = either (version == 2) (binary_of None) (text_of None) None (inr none_binary) (inl unknown_back)
