-- No header is a front of another, and a header has one pair.
use Rattle.std.proofs.Common.{◌≡◌, ℕ, ◌≤◌, Bool, true, false, List, [], ◌∷◌, ◌++◌, length, drop, get_or, inl, inr, refl, sym, ap, subst, ◌∙◌, arith, append_assoc, length-append}
use Rattle.std.specs.Prelude.{Option, Some, None, codes}
use Rattle.std.specs.Net.Addr.{ipv4_bits, ipv6_bits}
use Rattle.std.proofs.lemmas.List.{append-nil, append_cancel_left, nil_from_length}
use Rattle.std.proofs.lemmas.Fmt.{decimal_injective}
use Rattle.std.proofs.NetLemmas.Theorems.{IsIpv4Text_unique, IsIpv6Text_unique}
use Rattle.px_peer.specs.declared.Pair.{Pair}
use Rattle.px_proxyproto.specs.Addresses.{IsAddress, IsPort}
use Rattle.px_proxyproto.specs.Binary.{IsBinary, pair_in}
use Rattle.px_proxyproto.specs.Lines.{IsInLine, Words, AreOf, IsPairText, IsFamilyLine, IsLineOf, IsText, family_word, line_end}
use Rattle.px_proxyproto.specs.Headers.{IsHeader}
use Rattle.px_proxyproto.proofs.Cuts.{cut_at, words_only}
use Rattle.px_proxyproto.proofs.Fronts.{signed_agrees, text_front_apart, text_apart}
use Rattle.px_proxyproto.proofs.Lengths.{more_len}

address_only : (v6 : Bool) (text : List ℕ) (x y : ℕ) → IsAddress v6 text x → IsAddress v6 text y → x ≡ y
address_only true text x y p q = sym p.2 ∙ (ap ipv6_bits (IsIpv6Text_unique text p.0 q.0 p.1 q.1) ∙ q.2)
address_only false text x y p q = sym p.2 ∙ (ap ipv4_bits (IsIpv4Text_unique text p.0 q.0 p.1 q.1) ∙ q.2)

port_only : (text : List ℕ) (x y : ℕ) → IsPort text x → IsPort text y → x ≡ y
port_only text x y p q = decimal_injective x y (omega (arith, p.0)) (omega (arith, q.0)) (sym p.1 ∙ q.1)

pair_only : (v6 : Bool) (w : Words) (p q : Pair) → AreOf v6 w p → AreOf v6 w q → p ≡ q
pair_only v6 w p q a b =
    let src_v6 = a.src_family ∙ sym b.src_family in
    let dst_v6 = a.dst_family ∙ sym b.dst_family in
    let src = address_only v6 w.src p.src.addr q.src.addr a.src b.src in
    let dst = address_only v6 w.dst p.dst.addr q.dst.addr a.dst b.dst in
    let src_port = port_only w.src_port p.src.port q.src.port a.src_port b.src_port in
    let dst_port = port_only w.dst_port p.dst.port q.dst.port a.dst_port b.dst_port in
    λ i. record {
      src = record { v6 = src_v6 i; addr = src i; port = src_port i };
      dst = record { v6 = dst_v6 i; addr = dst i; port = dst_port i };
    }

text_only : (v6 : Bool) (text : List ℕ) (p q : Pair) → IsPairText v6 text p → IsPairText v6 text q → p ≡ q
text_only v6 text p q a b =
    let w = a.0 in
    let same = words_only text w.src (w.dst ++ (32 ∷ (w.src_port ++ (32 ∷ w.dst_port)))) w.dst (w.src_port ++ (32 ∷ w.dst_port)) w.src_port w.dst_port b.0 a.1.whole refl refl a.1.src a.1.dst a.1.src_port b.1 in
    pair_only v6 w p q a.2 (subst (λ (x : Words). AreOf v6 x q) same b.2)

family_only : (v6 : Bool) (line : List ℕ) (p q : Pair) → IsFamilyLine v6 line p → IsFamilyLine v6 line q → p ≡ q
family_only v6 line p q a b =
    let same = append_cancel_left (family_word v6) a.0 b.0 (sym a.1 ∙ b.1) in
    text_only v6 b.0 p q (subst (λ (t : List ℕ). IsPairText v6 t p) same a.2) b.2

-- the words of a line differ in their seventh or tenth byte
seventh : (line a b : List ℕ) (x y : ℕ) → line ≡ a → line ≡ b → get_or a 6 0 ≡ x → get_or b 6 0 ≡ y → x ≡ y
seventh line a b x y e f g h = sym g ∙ (ap (λ (t : List ℕ). get_or t 6 0) (sym e ∙ f) ∙ h)

tenth : (line a b : List ℕ) (x y : ℕ) → line ≡ a → line ≡ b → get_or a 9 0 ≡ x → get_or b 9 0 ≡ y → x ≡ y
tenth line a b x y e f g h = sym g ∙ (ap (λ (t : List ℕ). get_or t 9 0) (sym e ∙ f) ∙ h)

unknown_apart : (v6 : Bool) (line : List ℕ) (p : Pair) → ((rest : List ℕ) × (line ≡ codes "PROXY UNKNOWN" ++ rest)) → IsFamilyLine v6 line p → ⊥
unknown_apart true line p a b = absurd (omega (arith, seventh line (codes "PROXY UNKNOWN" ++ a.0) (family_word true ++ b.0) 85 84 a.1 b.1 refl refl))
unknown_apart false line p a b = absurd (omega (arith, seventh line (codes "PROXY UNKNOWN" ++ a.0) (family_word false ++ b.0) 85 84 a.1 b.1 refl refl))

families_apart : (line : List ℕ) (p q : Pair) → IsFamilyLine false line p → IsFamilyLine true line q → ⊥
families_apart line p q a b = absurd (omega (arith, tenth line (family_word false ++ a.0) (family_word true ++ b.0) 52 54 a.1 b.1 refl refl))

line_only : (line : List ℕ) (p q : Option Pair) → IsLineOf line p → IsLineOf line q → p ≡ q
line_only line None None a b = refl
line_only line None (Some q) a (inl b) = absurd (unknown_apart false line q a b)
line_only line None (Some q) a (inr b) = absurd (unknown_apart true line q a b)
line_only line (Some p) None (inl a) b = absurd (unknown_apart false line p b a)
line_only line (Some p) None (inr a) b = absurd (unknown_apart true line p b a)
line_only line (Some p) (Some q) (inl a) (inl b) = ap Some (family_only false line p q a b)
line_only line (Some p) (Some q) (inl a) (inr b) = absurd (families_apart line p q a b)
line_only line (Some p) (Some q) (inr a) (inl b) = absurd (families_apart line q p b a)
line_only line (Some p) (Some q) (inr a) (inr b) = ap Some (family_only true line p q a b)

not_13 : ¬ (IsInLine 13)
not_13 is = is.0 refl

texts : (bytes rest : List ℕ) (p q : Option Pair) → IsText bytes p → IsText (bytes ++ rest) q → (rest ≡ []) × (p ≡ q)
texts bytes rest p q a b =
    let e : a.line ++ (13 ∷ (10 ∷ rest)) ≡ b.line ++ (13 ∷ (10 ∷ [])) = sym (append_assoc a.line line_end rest) ∙ (ap (λ (t : List ℕ). t ++ rest) (sym a.ends) ∙ b.ends) in
    let t = cut_at IsInLine 13 13 not_13 not_13 a.line b.line (10 ∷ rest) (10 ∷ []) a.inside b.inside e in
    (ap (drop 1) t.2, line_only b.line p q (subst (λ (l : List ℕ). IsLineOf l p) t.0 a.tells) b.tells)

binaries : (bytes rest : List ℕ) (p q : Option Pair) → IsBinary bytes p → IsBinary (bytes ++ rest) q → (rest ≡ []) × (p ≡ q)
binaries bytes rest p q a b =
    let fits : 16 ≤ length bytes = omega (arith, a.len) in
    let none : rest ≡ [] = nil_from_length rest (omega (arith, a.len, b.len, length-append bytes rest, more_len bytes rest fits)) in
    let same : bytes ++ rest ≡ bytes = ap (λ (t : List ℕ). bytes ++ t) none ∙ append-nil bytes in
    (none, a.tells ∙ (ap (λ (t : List ℕ). pair_in (get_or t 12 0) (get_or t 13 0) (drop 16 t)) (sym same) ∙ sym b.tells))

pub prefix_free : (bytes rest : List ℕ) (p q : Option Pair) → IsHeader bytes p → IsHeader (bytes ++ rest) q → (rest ≡ []) × (p ≡ q)
prefix_free bytes rest p q (inl a) (inl b) = texts bytes rest p q a b
prefix_free bytes rest p q (inl a) (inr b) = absurd (text_front_apart (bytes ++ rest) bytes rest p refl (signed_agrees (bytes ++ rest) b.signed) a)
prefix_free bytes rest p q (inr a) (inl b) = absurd (text_apart bytes rest q (omega (arith, a.len)) (signed_agrees bytes a.signed) b)
prefix_free bytes rest p q (inr a) (inr b) = binaries bytes rest p q a b
