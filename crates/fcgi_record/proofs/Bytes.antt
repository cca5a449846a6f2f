-- What was read are the bytes that it was read from.
use Rattle.std.proofs.Common.{◌≡◌, ℕ, zero, suc, ◌+◌, ◌-◌, ◌*◌, ◌^◌, ◌<◌, ◌≤◌, ◌⊎◌, Bool, true, false, cond, nat_eq, nat_lt, List, [], ◌∷◌, ◌++◌, length, get_or, take, drop, Option, Some, None, refl, sym, ap, subst, ◌∙◌, arith, inl, inr}
use Rattle.std.specs.Int.{w16, w32, from_be_bytes, to_be_bytes}
use Rattle.std.proofs.lemmas.Nat.{be_bytes_2, be_bytes_4}
use Rattle.std.proofs.lemmas.Bool.{ltb-true, ltb-false, lt-ltb, eqb-true}
use Rattle.fcgi_record.specs.Heads.{head_bytes, head_of, FitsHead, AreBytes}
use Rattle.fcgi_record.specs.Pairs.{length_bytes, length_at, lengths_at, IsLength, behind_name, value_at}
use Rattle.fcgi_record.specs.declared.record_head.RecordHead.{RecordHead}

some_is : {A : Type 0} (x y : A) → Some x ≡ Some y → x ≡ y
some_is x y e = cc

guard_some : {A : Type 0} (b : Bool) (x y : A) → cond b (Some x) None ≡ Some y → (b ≡ true) × (x ≡ y)
guard_some true x y e = (refl, some_is x y e)
guard_some false x y e = absurd cc

two_bytes : (a b : ℕ) → a < 256 → b < 256 → (i : ℕ) → get_or (a ∷ b ∷ []) i 0 < 256
two_bytes a b ha hb zero = ha
two_bytes a b ha hb (suc zero) = hb
two_bytes a b ha hb (suc (suc i)) = omega arith

guard_none : {A : Type 0} (b : Bool) (x y : A) → cond b None (Some x) ≡ Some y → x ≡ y
guard_none true x y e = absurd cc
guard_none false x y e = some_is x y e

-- two bytes are those of the number that they are
two : (a b : ℕ) → a < 256 → b < 256 → to_be_bytes w16 (from_be_bytes w16 (a ∷ b ∷ [])) ≡ a ∷ b ∷ []
two a b ha hb = be_bytes_2 (a ∷ b ∷ []) _ refl (two_bytes a b ha hb) refl

join : (b0 b1 b6 b7 : ℕ) (a b c d : List ℕ) → b0 ≡ 1 → c ≡ a → d ≡ b → (b0 ∷ b1 ∷ (a ++ (b ++ b6 ∷ b7 ∷ []))) ≡ 1 ∷ b1 ∷ (c ++ (d ++ b6 ∷ b7 ∷ []))
join b0 b1 b6 b7 a b c d h ha hb = rw (h, ha, hb) refl

-- eight bytes that have a head
pub eight : (b0 b1 b2 b3 b4 b5 b6 b7 : ℕ) (head : RecordHead) → AreBytes (b0 ∷ b1 ∷ b2 ∷ b3 ∷ b4 ∷ b5 ∷ b6 ∷ b7 ∷ [])
    → head_of (b0 ∷ b1 ∷ b2 ∷ b3 ∷ b4 ∷ b5 ∷ b6 ∷ b7 ∷ []) ≡ Some head
    → (b0 ∷ b1 ∷ b2 ∷ b3 ∷ b4 ∷ b5 ∷ b6 ∷ b7 ∷ []) ≡ head_bytes head b7
eight b0 b1 b2 b3 b4 b5 b6 b7 head fits e =
    let g = guard_some (nat_eq b0 1) _ head e in
    let id = two b2 b3 (fits 2) (fits 3) in
    let len = two b4 b5 (fits 4) (fits 5) in
    subst (λ (h : RecordHead). (b0 ∷ b1 ∷ b2 ∷ b3 ∷ b4 ∷ b5 ∷ b6 ∷ b7 ∷ []) ≡ head_bytes h b7) g.1 (join b0 b1 b6 b7 (b2 ∷ b3 ∷ []) (b4 ∷ b5 ∷ []) _ _ (eqb-true b0 1 g.0) id len)

pub head_alone : (head : RecordHead) (bytes : List ℕ) → length bytes ≡ 8 → AreBytes bytes → head_of bytes ≡ Some head → bytes ≡ head_bytes head (get_or bytes 7 0)
head_alone head (b0 ∷ b1 ∷ b2 ∷ b3 ∷ b4 ∷ b5 ∷ b6 ∷ b7 ∷ []) len fits e = eight b0 b1 b2 b3 b4 b5 b6 b7 head fits e
head_alone head bytes len fits e = absurd (omega (arith, len))

-- ---- lengths

IsBytes-tail : (b : ℕ) (bytes : List ℕ) → AreBytes (b ∷ bytes) → AreBytes bytes
IsBytes-tail b bytes h i = h (suc i)

-- the length that was read stands in front of the rest
pub record HasLength (bytes : List ℕ) (n : ℕ) (rest : List ℕ) : Type 0 where
  pub text : List ℕ
  pub parts : bytes ≡ text ++ rest
  pub is : IsLength n text
  pub fits : AreBytes rest

four : (b b1 b2 b3 : ℕ) (rest : List ℕ) → AreBytes (b ∷ b1 ∷ b2 ∷ b3 ∷ rest) → (i : ℕ) → get_or (b ∷ b1 ∷ b2 ∷ b3 ∷ []) i 0 < 256
four b b1 b2 b3 rest h zero = h 0
four b b1 b2 b3 rest h (suc zero) = h 1
four b b1 b2 b3 rest h (suc (suc zero)) = h 2
four b b1 b2 b3 rest h (suc (suc (suc zero))) = h 3
four b b1 b2 b3 rest h (suc (suc (suc (suc i)))) = omega arith

four_rest : (b b1 b2 b3 : ℕ) (rest : List ℕ) → AreBytes (b ∷ b1 ∷ b2 ∷ b3 ∷ rest) → AreBytes rest
four_rest b b1 b2 b3 rest h i = h (suc (suc (suc (suc i))))

-- four bytes of which the first is 128 or more
long_length : (b b1 b2 b3 : ℕ) (rest : List ℕ) → 128 ≤ b → AreBytes (b ∷ b1 ∷ b2 ∷ b3 ∷ rest)
    → HasLength (b ∷ b1 ∷ b2 ∷ b3 ∷ rest) (from_be_bytes w32 (b ∷ b1 ∷ b2 ∷ b3 ∷ []) - 2 ^ 31) rest
long_length b b1 b2 b3 rest big fits =
    let n = from_be_bytes w32 (b ∷ b1 ∷ b2 ∷ b3 ∷ []) in
    let top : 2 ^ 31 ≤ n = omega (arith, big) in
    let back : n - 2 ^ 31 + 2 ^ 31 ≡ n = omega (arith, top) in
    let all : n < 2 ^ 32 = omega (arith, fits 0, fits 1, fits 2, fits 3) in
    record {
      text = b ∷ b1 ∷ b2 ∷ b3 ∷ [];
      parts = refl;
      is = (omega (arith, all), inr (sym (be_bytes_4 (b ∷ b1 ∷ b2 ∷ b3 ∷ []) _ refl (four b b1 b2 b3 rest fits) back)));
      fits = four_rest b b1 b2 b3 rest fits;
    }

pair_is : (a b : ℕ × List ℕ) → Some a ≡ Some b → a ≡ b
pair_is a b e = cc

short_length : (b : ℕ) (bytes : List ℕ) → b < 128 → AreBytes (b ∷ bytes) → HasLength (b ∷ bytes) b bytes
short_length b bytes lt fits =
    let one : length_bytes b ≡ b ∷ [] = ap (λ (t : Bool). cond t (b ∷ []) (to_be_bytes w32 (b + 2 ^ 31))) (lt-ltb b 128 lt) in
    record { text = b ∷ []; parts = refl; is = (omega (arith, lt), inl (sym one)); fits = IsBytes-tail b bytes fits }

-- what the test of a first byte gives
abbrev length_if : Bool → ℕ → List ℕ → Option (ℕ × List ℕ)
length_if short b bytes =
    cond short (Some (b, bytes)) (cond (nat_lt (length bytes) 3) None (Some (from_be_bytes w32 (b ∷ take 3 bytes) - 2 ^ 31, drop 3 bytes)))

length_by : (b : ℕ) (bytes : List ℕ) (n : ℕ) (rest : List ℕ) (short : Bool) → nat_lt b 128 ≡ short → AreBytes (b ∷ bytes) → length_if short b bytes ≡ Some (n, rest) → HasLength (b ∷ bytes) n rest
length_by b bytes n rest true is fits e =
    subst (λ (p : ℕ × List ℕ). HasLength (b ∷ bytes) p.0 p.1) (pair_is _ (n, rest) e) (short_length b bytes (ltb-true b 128 is) fits)
length_by b [] n rest false is fits e = absurd cc
length_by b (b1 ∷ []) n rest false is fits e = absurd cc
length_by b (b1 ∷ b2 ∷ []) n rest false is fits e = absurd cc
length_by b (b1 ∷ b2 ∷ b3 ∷ bytes) n rest false is fits e =
    subst (λ (p : ℕ × List ℕ). HasLength (b ∷ b1 ∷ b2 ∷ b3 ∷ bytes) p.0 p.1) (guard_none (nat_lt (length (b1 ∷ b2 ∷ b3 ∷ bytes)) 3) _ (n, rest) e) (long_length b b1 b2 b3 bytes (ltb-false b 128 is) fits)

length_alone : (bytes : List ℕ) (n : ℕ) (rest : List ℕ) → AreBytes bytes → length_at bytes ≡ Some (n, rest) → HasLength bytes n rest
length_alone [] n rest fits e = absurd cc
length_alone (b ∷ bytes) n rest fits e = length_by b bytes n rest (nat_lt b 128) refl fits e

triple_is : (a b : ℕ × ℕ × List ℕ) → Some a ≡ Some b → a ≡ b
triple_is a b e = cc

abbrev BothStand : (bytes : List ℕ) → ℕ × ℕ × List ℕ → Type 0
BothStand bytes t = (a : List ℕ) × (b : List ℕ) × (bytes ≡ a ++ (b ++ t.2)) × IsLength t.0 a × IsLength t.1 b

both : (bytes behind : List ℕ) (name : ℕ) → HasLength bytes name behind → (value : ℕ) (rest : List ℕ) → HasLength behind value rest → BothStand bytes (name, value, rest)
both bytes behind name a value rest b = (a.text, b.text, a.parts ∙ ap (λ (t : List ℕ). a.text ++ t) b.parts, a.is, b.is)

values_by : (bytes behind : List ℕ) (name : ℕ) (t : ℕ × ℕ × List ℕ) (read : Option (ℕ × List ℕ)) → length_at behind ≡ read → HasLength bytes name behind → value_at name read ≡ Some t → BothStand bytes t
values_by bytes behind name t None is a e = absurd cc
values_by bytes behind name t (Some (value, rest)) is a e = subst (BothStand bytes) (triple_is _ t e) (both bytes behind name a value rest (length_alone behind value rest a.fits is))

names_by : (bytes : List ℕ) (t : ℕ × ℕ × List ℕ) (read : Option (ℕ × List ℕ)) → length_at bytes ≡ read → AreBytes bytes → behind_name read ≡ Some t → BothStand bytes t
names_by bytes t None is fits e = absurd cc
names_by bytes t (Some (name, behind)) is fits e = values_by bytes behind name t (length_at behind) refl (length_alone bytes name behind fits is) e

pub lengths_alone : (name value : ℕ) (rest bytes : List ℕ) → AreBytes bytes → lengths_at bytes ≡ Some (name, value, rest)
    → (a : List ℕ) × (b : List ℕ) × (bytes ≡ a ++ (b ++ rest)) × IsLength name a × IsLength value b
lengths_alone name value rest bytes fits e = names_by bytes (name, value, rest) (length_at bytes) refl fits e
