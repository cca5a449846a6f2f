-- Bytes that are all there, read piece by piece from their front.
use Rattle.std.proofs.Common.{◌≡◌, ℕ, ◌+◌, ◌-◌, ◌≤◌, List, ◌++◌, length, take, drop, sym, ap, subst, ◌∙◌, inl, inr, min, arith, append_assoc, take-add}
use Rattle.std.proofs.lemmas.List.{take_all, take-append-drop}
use Rattle.px_proxyproto.specs.Headers.{IsHeader, NoHeader, NoneYet, MayStill}
use Rattle.px_proxyproto.specs.Reading.{Read, HasRead, Told}
use Rattle.px_proxyproto.specs.declared.state.ProxyState.{ProxyState}
use Rattle.px_proxyproto.proofs.Reading.{splits}

-- one more piece
joined : (bytes piece : List ℕ) (at most : ℕ) → piece ≡ take most (drop at bytes) → take at bytes ++ piece ≡ take (at + most) bytes
joined bytes piece at most e = ap (λ (p : List ℕ). take at bytes ++ p) e ∙ sym (take-add at most bytes)

pub told_front : (state : ProxyState) (new : Read) (bytes piece : List ℕ) (at most : ℕ) → piece ≡ take most (drop at bytes) → Told state new (take at bytes ++ piece) → Told state new (take (at + most) bytes)
told_front state new bytes piece at most e h = subst (λ (l : List ℕ). Told state new l) (joined bytes piece at most e) h

-- all were fed
pub all_read : (reader : Read) (bytes : List ℕ) (at most wanted : ℕ) → most ≡ min wanted (length bytes - at) → most ≡ 0 → 1 ≤ wanted → HasRead reader (take at bytes) → MayStill bytes
all_read reader bytes at most wanted is none some has =
    let past : length bytes ≤ at = omega (arith, is, none, some) in
    subst (λ (l : List ℕ). MayStill l) (take_all at bytes past) has.may

-- no header begins as so many of them do
pub other_in_front : (bytes : List ℕ) (n : ℕ) → NoHeader (take n bytes) → NoneYet (take n bytes) → NoHeader bytes × NoneYet bytes
other_in_front bytes n never before = (
  λ rest pair is.
      let all : bytes ++ rest ≡ take n bytes ++ (drop n bytes ++ rest) = ap (λ (l : List ℕ). l ++ rest) (sym (take-append-drop n bytes)) ∙ append_assoc (take n bytes) (drop n bytes) rest in
      never (drop n bytes ++ rest) pair (subst (λ (x : List ℕ). IsHeader x pair) all is),
  λ front rest pair e is.
      elim (splits (take n bytes) (drop n bytes) front rest (take-append-drop n bytes ∙ e)) [
        | inl t ↦ before front t.0 pair t.1 is
        | inr t ↦ never t.0 pair (subst (λ (x : List ℕ). IsHeader x pair) t.1 is)
      ],
)
