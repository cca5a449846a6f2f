-- The texts of numbers and addresses: no space, CR or LF stands in them, and they are read as they were written.
use Rattle.std.proofs.Common.{ℕ, suc, ◌^◌, ◌<◌, ◌≤◌, Bool, false, List, [], ◌∷◌, ◌++◌, get_or, All, flat_map, inl, inr, refl, arith, append_assoc, lt-ltb}
use Rattle.std.specs.Prelude.{decimal}
use Rattle.std.specs.Char.{digit_value}
use Rattle.std.specs.Str.Parse.{AllDigits}
use Rattle.std.specs.Net.Grammar.{IsDotted, IsGroup, IsGroupsAfter, IsGroups}
use Rattle.std.proofs.lemmas.Bool.{cases_lt}
use Rattle.std.proofs.lemmas.Fmt.{digits_is_IsNumeral, decimal_is_IsNumeral}
use Rattle.std.proofs.lemmas.List.Elements.{All-nil, All-cons, All-append, All-weaker}
use Rattle.px_bytes.proofs.PublicLaws.{length-hex-le}
use Rattle.px_proxyproto.specs.Lines.{IsInLine, IsInWord}
use Rattle.px_proxyproto.specs.Texts.{group_text, next_group, groups_text, dotted_text}

-- behind the space in ASCII
abbrev pub IsShown : ℕ → Type 0
IsShown b = 33 ≤ b

pub in_word : (text : List ℕ) → All IsShown text → All IsInWord text
in_word text h = All-weaker IsShown IsInWord (λ x shown e. absurd (omega (arith, shown, e))) text h

pub in_line : (text : List ℕ) → All IsShown text → All IsInLine text
in_line text h = All-weaker IsShown IsInLine (λ x shown. (λ e. absurd (omega (arith, shown, e)), λ e. absurd (omega (arith, shown, e)))) text h

digit_shown : (c : ℕ) → digit_value c < 16 → 33 ≤ c
digit_shown c h =
    elim (cases_lt c 48) [
      | inl low ↦ let bad : 36 < 16 = rw (lt-ltb c 48 low) at h in absurd (omega (arith, bad))
      | inr high ↦ omega (arith, high)
    ]

digits_shown : (radix : ℕ) → radix ≤ 16 → (ds : List ℕ) → AllDigits radix ds → All IsShown ds
digits_shown radix le [] h = All-nil IsShown
digits_shown radix le (c ∷ ds) h = All-cons IsShown c ds (digit_shown c (omega (arith, le, h.0))) (digits_shown radix le ds h.1)

pub decimal_shown : (n : ℕ) → n < 2 ^ 16 → All IsShown (decimal n)
decimal_shown n fits = digits_shown 10 (omega arith) (decimal n) (decimal_is_IsNumeral n (omega (arith, fits))).0.1

group_is : (n : ℕ) → n < 2 ^ 16 → IsGroup (group_text n) n
group_is n fits =
    let is = digits_is_IsNumeral 16 false (omega arith) (omega arith) n (omega (arith, fits)) in
    ((is.0, is.1), length-hex-le 4 n (omega arith) (omega (arith, fits)) (omega (arith, fits)))

group_shown : (n : ℕ) → n < 2 ^ 16 → All IsShown (group_text n)
group_shown n fits = digits_shown 16 (omega arith) (group_text n) (digits_is_IsNumeral 16 false (omega arith) (omega arith) n (omega (arith, fits))).0.1

abbrev pub AreSegments : List ℕ → Type 0
AreSegments xs = (k : ℕ) → get_or xs k 0 < 2 ^ 16

more_shown : (xs : List ℕ) → AreSegments xs → All IsShown (flat_map (next_group false) xs)
more_shown [] h = All-nil IsShown
more_shown (x ∷ xs) h =
    All-append IsShown (next_group false x) (flat_map (next_group false) xs) (All-cons IsShown 58 (group_text x) (omega arith) (group_shown x (h 0))) (more_shown xs (λ k. h (suc k)))

pub groups_shown : (xs : List ℕ) → AreSegments xs → All IsShown (groups_text xs)
groups_shown [] h = All-nil IsShown
groups_shown (x ∷ xs) h = All-append IsShown (group_text x) (flat_map (next_group false) xs) (group_shown x (h 0)) (more_shown xs (λ k. h (suc k)))

more_groups : (ipv4 : Bool) (xs : List ℕ) → AreSegments xs → IsGroupsAfter ipv4 (58 ∷ []) (flat_map (next_group false) xs) xs
more_groups ipv4 [] h = refl
more_groups ipv4 (x ∷ xs) h = inl (group_text x, flat_map (next_group false) xs, refl, group_is x (h 0), more_groups ipv4 xs (λ k. h (suc k)))

pub groups_are : (ipv4 : Bool) (xs : List ℕ) → AreSegments xs → IsGroups ipv4 (groups_text xs) xs
groups_are ipv4 [] h = refl
groups_are ipv4 (x ∷ xs) h = inl (group_text x, flat_map (next_group false) xs, refl, group_is x (h 0), more_groups ipv4 xs (λ k. h (suc k)))

abbrev pub AreOctets : List ℕ → Type 0
AreOctets xs = (k : ℕ) → get_or xs k 0 < 256

dotted_by : (a b c d : ℕ) → a < 256 → b < 256 → c < 256 → d < 256 → IsDotted (dotted_text (a ∷ b ∷ c ∷ d ∷ [])) (a ∷ b ∷ c ∷ d ∷ [])
dotted_by a b c d ha hb hc hd = record {
  a = a;
  b = b;
  c = c;
  d = d;
  fit = (ha, hb, hc, hd);
  value = refl;
  spelled = simp append_assoc;
}

dot_shown : (n : ℕ) (rest : List ℕ) → n < 256 → All IsShown rest → All IsShown (decimal n ++ (46 ∷ rest))
dot_shown n rest fits h = All-append IsShown (decimal n) (46 ∷ rest) (decimal_shown n (omega (arith, fits))) (All-cons IsShown 46 rest (omega arith) h)

pub dotted_is : (a b c d : ℕ) → a < 256 → b < 256 → c < 256 → d < 256
    → IsDotted (dotted_text (a ∷ b ∷ c ∷ d ∷ [])) (a ∷ b ∷ c ∷ d ∷ []) × All IsShown (dotted_text (a ∷ b ∷ c ∷ d ∷ []))
dotted_is a b c d ha hb hc hd = (
  dotted_by a b c d ha hb hc hd,
  dot_shown a (decimal b ++ (46 ∷ (decimal c ++ (46 ∷ decimal d)))) ha
      (dot_shown b (decimal c ++ (46 ∷ decimal d)) hb (dot_shown c (decimal d) hc (decimal_shown d (omega (arith, hd))))),
)
