-- Numbers as bytes, and back.
use Rattle.std.proofs.Common.{◌≡◌, ℕ, zero, suc, ◌+◌, ◌-◌, ◌*◌, ◌/◌, ◌%◌, ◌^◌, ◌<◌, List, [], ◌∷◌, ◌++◌, length, get_or, refl, ◌∙◌, arith}
use Rattle.std.specs.Int.{w64, w128, to_be_bytes, from_be_bytes, byte_at, bytes_high_first}
use Rattle.std.specs.Net.Addr.{segments_of, octets_of}
use Rattle.std.proofs.lemmas.Nat.{from_be_bytes-to_be_bytes_8}
use Rattle.px_proxyproto.specs.Binary.{number_128}
use Rattle.px_proxyproto.specs.Texts.{octets_6}
use Rattle.px_proxyproto.proofs.Shown.{AreOctets, AreSegments}

assemble : (a b c d e f g h i j k l m n o p high low all : ℕ)
    → from_be_bytes w64 (a ∷ b ∷ c ∷ d ∷ e ∷ f ∷ g ∷ h ∷ []) ≡ high
    → from_be_bytes w64 (i ∷ j ∷ k ∷ l ∷ m ∷ n ∷ o ∷ p ∷ []) ≡ low
    → high * 2 ^ 64 + low ≡ all
    → from_be_bytes w128 (a ∷ b ∷ c ∷ d ∷ e ∷ f ∷ g ∷ h ∷ i ∷ j ∷ k ∷ l ∷ m ∷ n ∷ o ∷ p ∷ []) ≡ all
assemble a b c d e f g h i j k l m n o p high low all x y z = omega (arith, x, y, z)

high_half : (n : ℕ) → n < 2 ^ 128 → from_be_bytes w64 (byte_at 15 n ∷ byte_at 14 n ∷ byte_at 13 n ∷ byte_at 12 n ∷ byte_at 11 n ∷ byte_at 10 n ∷ byte_at 9 n ∷ byte_at 8 n ∷ []) ≡ n / 2 ^ 64
high_half n fits =
    let a : byte_at 15 n ≡ byte_at 7 (n / 2 ^ 64) = omega arith in
    let b : byte_at 14 n ≡ byte_at 6 (n / 2 ^ 64) = omega arith in
    let c : byte_at 13 n ≡ byte_at 5 (n / 2 ^ 64) = omega arith in
    let d : byte_at 12 n ≡ byte_at 4 (n / 2 ^ 64) = omega arith in
    let e : byte_at 11 n ≡ byte_at 3 (n / 2 ^ 64) = omega arith in
    let f : byte_at 10 n ≡ byte_at 2 (n / 2 ^ 64) = omega arith in
    let g : byte_at 9 n ≡ byte_at 1 (n / 2 ^ 64) = omega arith in
    let h : byte_at 8 n ≡ byte_at 0 (n / 2 ^ 64) = omega arith in
    (λ i. from_be_bytes w64 (a i ∷ b i ∷ c i ∷ d i ∷ e i ∷ f i ∷ g i ∷ h i ∷ [])) ∙ from_be_bytes-to_be_bytes_8 (n / 2 ^ 64) (omega (arith, fits))

low_half : (n : ℕ) → from_be_bytes w64 (byte_at 7 n ∷ byte_at 6 n ∷ byte_at 5 n ∷ byte_at 4 n ∷ byte_at 3 n ∷ byte_at 2 n ∷ byte_at 1 n ∷ byte_at 0 n ∷ []) ≡ n % 2 ^ 64
low_half n =
    let a : byte_at 7 n ≡ byte_at 7 (n % 2 ^ 64) = omega arith in
    let b : byte_at 6 n ≡ byte_at 6 (n % 2 ^ 64) = omega arith in
    let c : byte_at 5 n ≡ byte_at 5 (n % 2 ^ 64) = omega arith in
    let d : byte_at 4 n ≡ byte_at 4 (n % 2 ^ 64) = omega arith in
    let e : byte_at 3 n ≡ byte_at 3 (n % 2 ^ 64) = omega arith in
    let f : byte_at 2 n ≡ byte_at 2 (n % 2 ^ 64) = omega arith in
    let g : byte_at 1 n ≡ byte_at 1 (n % 2 ^ 64) = omega arith in
    let h : byte_at 0 n ≡ byte_at 0 (n % 2 ^ 64) = omega arith in
    (λ i. from_be_bytes w64 (a i ∷ b i ∷ c i ∷ d i ∷ e i ∷ f i ∷ g i ∷ h i ∷ [])) ∙ from_be_bytes-to_be_bytes_8 (n % 2 ^ 64) (omega arith)

pub wide : (n : ℕ) → n < 2 ^ 128 → from_be_bytes w128 (to_be_bytes w128 n) ≡ n
wide n fits =
    assemble (byte_at 15 n) (byte_at 14 n) (byte_at 13 n) (byte_at 12 n) (byte_at 11 n) (byte_at 10 n) (byte_at 9 n) (byte_at 8 n) (byte_at 7 n) (byte_at 6 n) (byte_at 5 n) (byte_at 4 n) (byte_at 3 n) (byte_at 2 n) (byte_at 1 n) (byte_at 0 n)
    (n / 2 ^ 64) (n % 2 ^ 64) n (high_half n fits) (low_half n) (omega arith)

pub number_back : (n : ℕ) (rest : List ℕ) → n < 2 ^ 128 → number_128 (octets_6 n ++ rest) ≡ n
unfolding number_128 octets_6
number_back n rest fits = wide n fits

below : (n : ℕ) → n % 256 < 256
below n = omega arith

byte_small : (k n : ℕ) → byte_at k n < 256
byte_small zero n = below n
byte_small (suc k) n = below (n / 256 ^ suc k)

pub bytes_small : (k n : ℕ) → AreOctets (bytes_high_first k n)
bytes_small zero n j = omega arith
bytes_small (suc k) n j = elim j as (λ m. get_or (byte_at k n ∷ bytes_high_first k n) m 0 < 256) [ zero ↦ byte_small k n | suc m ↦ bytes_small k n m ]

pub octets_back : (n : ℕ) (xs : List ℕ) → length xs ≡ 2 * n → AreOctets xs → octets_of (segments_of xs) ≡ xs
octets_back n [] even small = refl
octets_back n (a ∷ []) even small = absurd (omega (arith, even))
octets_back n (a ∷ b ∷ xs) even small =
    let low : b < 256 = small 1 in
    let high : (a * 256 + b) / 256 ≡ a = omega (arith, low) in
    let rest : (a * 256 + b) % 256 ≡ b = omega (arith, low) in
    λ i. high i ∷ rest i ∷ octets_back (n - 1) xs (omega (arith, even)) (λ k. small (suc (suc k))) i

pub segments_small : (xs : List ℕ) → AreOctets xs → AreSegments (segments_of xs)
segments_small [] small k = omega arith
segments_small (a ∷ []) small k = omega arith
segments_small (a ∷ b ∷ xs) small k =
    let later = segments_small xs (λ j. small (suc (suc j))) in
    elim k as (λ m. get_or ((a * 256 + b) ∷ segments_of xs) m 0 < 2 ^ 16) [ zero ↦ omega (arith, small 0, small 1) | suc m ↦ later m ]
