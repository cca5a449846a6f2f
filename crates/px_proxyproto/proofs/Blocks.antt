-- Version 2 while its bytes come.
use Rattle.std.proofs.Common.{◌≡◌, ℕ, ◌+◌, ◌-◌, ◌≤◌, ◌<◌, Bool, true, false, cond, List, ◌++◌, length, take, drop, replicate, get_or, inl, inr, refl, sym, ap, ◌∙◌, arith, length-append}
use Rattle.std.specs.Prelude.{Option, Some, None, ◌==◌}
use Rattle.std.specs.Int.{w16, w32, w128, from_be_bytes}
use Rattle.std.proofs.lemmas.List.{take-take, drop-take, take-append-le, length-replicate, get_or-take, get_or_append_left}
use Rattle.px_peer.specs.declared.Pair.{Pair}
use Rattle.px_proxyproto.specs.Binary.{IsBinary, signature, number_128, pair_4, pair_6, pair_in, may_stand, block_len}
use Rattle.px_proxyproto.specs.Lines.{Agrees}
use Rattle.px_proxyproto.specs.Headers.{IsHeader, MayStill}
use Rattle.px_proxyproto.proofs.Lengths.{more_len}
use Rattle.px_proxyproto.proofs.Fronts.{signed_by, agrees_signed, text_front_apart}

-- ---- fields of the first 107 bytes are those of all

piece : (at n : ℕ) (b : List ℕ) → at + n ≤ 91 → take n (drop at (take 91 b)) ≡ take n (drop at b)
piece at n b h =
    let e : 91 ≡ at + (91 - at) = omega (arith, h) in
    ap (λ (k : ℕ). take n (drop at (take k b))) e ∙ (ap (take n) (drop-take at (91 - at) b) ∙ take-take n (91 - at) (drop at b) (omega (arith, h)))

number_piece : (at : ℕ) (b : List ℕ) → at + 16 ≤ 91 → number_128 (drop at (take 91 b)) ≡ number_128 (drop at b)
unfolding number_128
number_piece at b h = ap (from_be_bytes w128) (piece at 16 b h)

kept_4 : (b : List ℕ) → pair_4 (take 91 b) ≡ pair_4 b
kept_4 b = λ i. record {
  src = record { v6 = false; addr = from_be_bytes w32 (piece 0 4 b (omega arith) i); port = from_be_bytes w16 (piece 8 2 b (omega arith) i) };
  dst = record { v6 = false; addr = from_be_bytes w32 (piece 4 4 b (omega arith) i); port = from_be_bytes w16 (piece 10 2 b (omega arith) i) };
}

kept_6 : (b : List ℕ) → pair_6 (take 91 b) ≡ pair_6 b
kept_6 b = λ i. record {
  src = record { v6 = true; addr = number_piece 0 b (omega arith) i; port = from_be_bytes w16 (piece 32 2 b (omega arith) i) };
  dst = record { v6 = true; addr = number_piece 16 b (omega arith) i; port = from_be_bytes w16 (piece 34 2 b (omega arith) i) };
}

cond_same : (b : Bool) (x y u v : Option Pair) → x ≡ u → y ≡ v → cond b x y ≡ cond b u v
cond_same true x y u v e f = e
cond_same false x y u v e f = f

abbrev six_at : (family : ℕ) → List ℕ → Option Pair
six_at family block = cond (family == 0x21) (Some (pair_6 block)) None

abbrev pair_at : (family : ℕ) → List ℕ → Option Pair
pair_at family block = cond (family == 0x11) (Some (pair_4 block)) (six_at family block)

kept_pair : (command family : ℕ) (bytes : List ℕ) → pair_in command family (drop 16 (take 107 bytes)) ≡ pair_in command family (drop 16 bytes)
kept_pair command family bytes =
    ap (pair_in command family) (drop-take 16 91 bytes)
    ∙ cond_same (command == 0x20) None (pair_at family (take 91 (drop 16 bytes))) None (pair_at family (drop 16 bytes)) refl
    (cond_same (family == 0x11) (Some (pair_4 (take 91 (drop 16 bytes)))) (six_at family (take 91 (drop 16 bytes))) (Some (pair_4 (drop 16 bytes))) (six_at family (drop 16 bytes)) (ap Some (kept_4 (drop 16 bytes)))
    (cond_same (family == 0x21) (Some (pair_6 (take 91 (drop 16 bytes)))) None (Some (pair_6 (drop 16 bytes))) None (ap Some (kept_6 (drop 16 bytes))) refl))

pub kept_len : (bytes : List ℕ) → block_len (take 107 bytes) ≡ block_len bytes
kept_len bytes = ap (λ (t : List ℕ). from_be_bytes w16 (take 2 t)) (drop-take 14 93 bytes) ∙ ap (from_be_bytes w16) (take-take 2 93 (drop 14 bytes) (omega arith))

pub kept_stands : (bytes : List ℕ) → may_stand (get_or (take 107 bytes) 12 0) (get_or (take 107 bytes) 13 0) (block_len (take 107 bytes)) ≡ may_stand (get_or bytes 12 0) (get_or bytes 13 0) (block_len bytes)
kept_stands bytes = λ i. may_stand (get_or-take 107 bytes 12 0 (omega arith) i) (get_or-take 107 bytes 13 0 (omega arith) i) (kept_len bytes i)

-- ---- and bytes that go on have them too

more_stands : (bytes rest : List ℕ) → 16 ≤ length bytes → may_stand (get_or (bytes ++ rest) 12 0) (get_or (bytes ++ rest) 13 0) (block_len (bytes ++ rest)) ≡ may_stand (get_or bytes 12 0) (get_or bytes 13 0) (block_len bytes)
more_stands bytes rest long = λ i. may_stand (get_or_append_left bytes rest 0 12 (omega (arith, long)) i) (get_or_append_left bytes rest 0 13 (omega (arith, long)) i) (more_len bytes rest long i)

-- ---- a block that is kept in part has what its family wants

-- ---- what is told

none_in : (bytes : List ℕ) → Agrees bytes signature → ((front rest : List ℕ) (pair : Option Pair) → bytes ≡ front ++ rest → IsBinary front pair → ⊥)
    → (front rest : List ℕ) (pair : Option Pair) → bytes ≡ front ++ rest → IsHeader front pair → ⊥
none_in bytes a binary front rest pair e (inl is) = text_front_apart bytes front rest pair e a is
none_in bytes a binary front rest pair e (inr is) = binary front rest pair e is

goes_on_by : (bytes rest : List ℕ) → take 12 bytes ≡ signature → 16 ≤ length bytes → may_stand (get_or bytes 12 0) (get_or bytes 13 0) (block_len bytes) ≡ true
    → length bytes + length rest ≡ 16 + block_len bytes → IsBinary (bytes ++ rest) (pair_in (get_or (bytes ++ rest) 12 0) (get_or (bytes ++ rest) 13 0) (drop 16 (bytes ++ rest)))
goes_on_by bytes rest signed long stands len = record {
  signed = take-append-le 12 bytes rest (omega (arith, long)) ∙ signed;
  len = omega (arith, length-append bytes rest, len, more_len bytes rest long);
  stands = more_stands bytes rest long ∙ stands;
  tells = refl;
}

pub goes_on : (bytes : List ℕ) → Agrees bytes signature → 16 ≤ length bytes → may_stand (get_or bytes 12 0) (get_or bytes 13 0) (block_len bytes) ≡ true → length bytes < 16 + block_len bytes → MayStill bytes
goes_on bytes a long stands short =
    let signed = agrees_signed bytes a (omega (arith, long)) in
    let rest : List ℕ = replicate (16 + block_len bytes - length bytes) 0 in
    let len : length bytes + length rest ≡ 16 + block_len bytes = omega (arith, length-replicate {A = ℕ} (16 + block_len bytes - length bytes) 0, short) in
    record {
      none_yet = none_in bytes a (λ front more pair e is.
          let fits : 16 ≤ length front = omega (arith, is.len) in
          absurd (omega (arith, is.len, ap length e, length-append front more, more_len front more fits, ap block_len e, short)));
      text = λ unsigned. absurd (let both : true ≡ false = sym (signed_by bytes signed) ∙ unsigned in cc);
      binary = λ _ _. (rest, pair_in (get_or (bytes ++ rest) 12 0) (get_or (bytes ++ rest) 13 0) (drop 16 (bytes ++ rest)), inr (goes_on_by bytes rest signed long stands len));
    }

pub got : (bytes : List ℕ) → Agrees bytes signature → 16 ≤ length bytes → may_stand (get_or bytes 12 0) (get_or bytes 13 0) (block_len bytes) ≡ true → length bytes ≡ 16 + block_len bytes
    → IsHeader bytes (pair_in (get_or (take 107 bytes) 12 0) (get_or (take 107 bytes) 13 0) (drop 16 (take 107 bytes)))
got bytes a long stands len = inr (record {
  signed = agrees_signed bytes a (omega (arith, long));
  len = len;
  stands = stands;
  tells = (λ i. pair_in (get_or-take 107 bytes 12 0 (omega arith) i) (get_or-take 107 bytes 13 0 (omega arith) i) (drop 16 (take 107 bytes))) ∙ kept_pair (get_or bytes 12 0) (get_or bytes 13 0) bytes;
})
