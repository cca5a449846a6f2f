-- Sizes, times, ports and counts as they are spelled, and read.
use Rattle.std.proofs.Common.{◌≡◌, ℕ, ◌+◌, ◌*◌, ◌^◌, ◌<◌, ◌≤◌, Bool, true, false, cond, List, [], ◌∷◌, ◌++◌, length, take, drop, refl, ap, ◌∙◌, arith}
use Rattle.std.proofs.lemmas.Bool.{le-leb, le-ltb, and_parts}
use Rattle.std.proofs.lemmas.Str.Parse.{IsNumeralModel, numerals_by_value, tells_all_ascii_digits}
use Rattle.std.proofs.lemmas.Fmt.{digits_decimal, digits_value-decimal, decimal_nonempty, length-decimal-le}
use Rattle.std.proofs.Math.Seq.{take-append_seam, drop-append_seam}
use Rattle.std.specs.Prelude.{◌==◌, ◌&&◌, ◌||◌, not, nat_lt, nat_le, min, Some, None, Result, Ok, Err, codes}
use Rattle.std.specs.Fmt.{decimal}
use Rattle.std.specs.Char.{is_ascii_digit}
use Rattle.std.specs.List.{list_all, prefix_len}
use Rattle.std.specs.Str.{all_ascii_digits}
use Rattle.std.specs.Str.Parse.{digits_value}
use Rattle.px_bytes.specs.Numbers.{decimal_of}
use Rattle.cfg_parse.specs.declared.fault.CfgKind.{CfgKind}
use Rattle.cfg_parse.specs.declared.fault.CfgKind.TheVariants.{Argument, Limit}
use Rattle.cfg_parse.specs.Reading.{◌>>=◌}
use Rattle.cfg_parse.specs.Numbers.{number_up_to, size_of, most_time, most_count, unit_of, in_milliseconds, time_of}
use Rattle.cfg_parse.specs.Addresses.{as_port, port_of}
use Rattle.cfg_parse.specs.Filters.{counted, count_of}

-- ---- digits

own : IsNumeralModel (λ ds. all_ascii_digits ds ≡ true) (digits_value 10)
own = numerals_by_value (λ ds. all_ascii_digits ds ≡ true) tells_all_ascii_digits

each_digit : (ds : List ℕ) → all_ascii_digits ds ≡ true → list_all is_ascii_digit ds ≡ true
each_digit [] h = refl
each_digit (d ∷ ds) h =
    let both = and_parts (is_ascii_digit d) (all_ascii_digits ds) h in
    ap (λ t. t && list_all is_ascii_digit ds) both.0 ∙ each_digit ds both.1

-- a number is spelled in digits
pub all_digits : (n : ℕ) → n < 2 ^ 64 → list_all is_ascii_digit (decimal n) ≡ true
all_digits n h = each_digit (decimal n) (digits_decimal own n h)

value : (n : ℕ) → n < 2 ^ 64 → digits_value 10 (decimal n) ≡ n
value n h = digits_value-decimal own n h

-- ---- numbers

number_by : (empty digits : Bool) (n m : ℕ) → empty ≡ false → digits ≡ true → n ≡ m → cond (empty || not digits) (Err Argument) (Ok n) ≡ Ok m
number_by empty digits n m x y z = cc

no_less : (n most m : ℕ) → n ≡ m → m ≤ most → min n most ≡ m
no_less n most m e h = omega arith

not_empty : (n : ℕ) → n < 2 ^ 64 → (length (decimal n) == 0) ≡ false
not_empty n h = let some = decimal_nonempty n h in grind (arith)

pub number_back : (most n : ℕ) → n ≤ most → n < 2 ^ 64 → number_up_to most (decimal n) ≡ Ok n
unfolding number_up_to
number_back most n h small =
    number_by (length (decimal n) == 0) (list_all is_ascii_digit (decimal n)) (min (digits_value 10 (decimal n)) most) n
    (not_empty n small) (all_digits n small) (no_less (digits_value 10 (decimal n)) most n (value n small) h)

within : (few many : Bool) (n : ℕ) → few ≡ false → many ≡ false → cond (few || many) (Err Limit) (Ok n) ≡ Ok n
within few many n x y = cc

pub size_back : (least most n : ℕ) → least ≤ n → n ≤ most → n < 2 ^ 64 → size_of least most (decimal n) ≡ Ok n
unfolding size_of
size_back least most n low high small =
    ap (λ (read : Result ℕ CfgKind). read >>= λ size. cond (nat_lt size least || nat_lt most size) (Err Limit) (Ok size)) (number_back (most + 1) n (omega arith) small)
    ∙ within (nat_lt n least) (nat_lt most n) n (le-ltb n least low) (le-ltb most n high)

-- ---- times

front_digits : (ds : List ℕ) → list_all is_ascii_digit ds ≡ true → prefix_len is_ascii_digit (ds ++ codes "ms") ≡ length ds
front_digits [] h = refl
front_digits (d ∷ ds) h =
    let both = and_parts (is_ascii_digit d) (list_all is_ascii_digit ds) h in
    let more : 1 + length ds ≡ length (d ∷ ds) = omega arith in
    ap (λ t. cond t (1 + prefix_len is_ascii_digit (ds ++ codes "ms")) 0) both.0 ∙ ap (λ n. 1 + n) (front_digits ds both.1) ∙ more

milliseconds : (n : ℕ) → n ≤ most_time → in_milliseconds (codes "ms") n ≡ Ok n
unfolding in_milliseconds unit_of
milliseconds n h = ap Ok (no_less (n * 1) most_time n (omega arith) h)

-- a count with what is behind it
timed : (count unit : List ℕ) → Result ℕ CfgKind
timed count unit = number_up_to most_count count >>= λ n. in_milliseconds unit n

cut : (word : List ℕ) (at : ℕ) (count unit : List ℕ) → at ≡ length count → word ≡ count ++ unit → (take at word ≡ count) × (drop at word ≡ unit)
cut word at count unit e is = (ap (take at) is ∙ ap (λ k. take k (count ++ unit)) e ∙ take-append_seam count unit, ap (drop at) is ∙ ap (λ k. drop k (count ++ unit)) e ∙ drop-append_seam count unit)

pub time_back : (n : ℕ) → n ≤ most_time → time_of (decimal n ++ codes "ms") ≡ Ok n
unfolding time_of timed
time_back n h =
    let ds = decimal n in
    let word = ds ++ codes "ms" in
    let at = prefix_len is_ascii_digit word in
    let parts = cut word at ds (codes "ms") (front_digits ds (all_digits n (omega arith))) refl in
    ap (λ (count : List ℕ). timed count (drop at word)) parts.0 ∙ ap (λ (unit : List ℕ). timed ds unit) parts.1
    ∙ ap (λ (read : Result ℕ CfgKind). read >>= λ count. in_milliseconds (codes "ms") count) (number_back most_count n (omega arith) (omega arith))
    ∙ milliseconds n h

-- ---- ports and counts

few_digits : (some few digits : Bool) (n m : ℕ) → some ≡ true → few ≡ true → digits ≡ true → n ≡ m → cond (some && few && digits) (Some n) None ≡ Some m
few_digits some few digits n m x y z e = cc

decimal_back : (most n : ℕ) → 0 < most → n < 10 ^ most → n < 2 ^ 64 → decimal_of most (decimal n) ≡ Some n
decimal_back most n some fits small =
    let ds = decimal n in
    few_digits (nat_le 1 (length ds)) (nat_le (length ds) most) (list_all is_ascii_digit ds) (digits_value 10 ds) n
    (le-leb 1 (length ds) (decimal_nonempty n small)) (le-leb (length ds) most (length-decimal-le most n some fits small)) (all_digits n small) (value n small)

a_port : (low high : Bool) (n : ℕ) → low ≡ true → high ≡ true → cond (low && high) (Ok n) (Err Argument) ≡ Ok n
a_port low high n x y = cc

pub port_back : (n : ℕ) → 1 ≤ n → n ≤ 65535 → port_of (decimal n) ≡ Ok n
unfolding port_of
port_back n low high = ap as_port (decimal_back 18 n (omega arith) (omega arith) (omega arith)) ∙ a_port (nat_le 1 n) (nat_le n 65535) n (le-leb 1 n low) (le-leb n 65535 high)

pub count_back : (n : ℕ) → n < 10 ^ 18 → count_of (decimal n) ≡ Ok n
unfolding count_of
count_back n fits = ap counted (decimal_back 18 n (omega arith) fits (omega arith))
