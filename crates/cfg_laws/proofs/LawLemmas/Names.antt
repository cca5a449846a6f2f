-- The names of the table: each may be declared, and each number has its own.
use Rattle.std.proofs.Common.{◌≡◌, ◌≢◌, ℕ, ◌<◌, ◌^◌, Bool, true, false, cond, List, [], ◌∷◌, length, drop, refl, sym, ap, ◌∙◌, arith}
use Rattle.std.proofs.lemmas.Bool.Decides.{nat_tests}
use Rattle.std.proofs.lemmas.Bool.{le-leb}
use Rattle.std.proofs.lemmas.Slice.Eq.{bytes_eq-Decides}
use Rattle.std.proofs.lemmas.Fmt.{digits_decimal, digits_value-decimal}
use Rattle.std.specs.Prelude.{◌&&◌, not, Ok, Err}
use Rattle.std.specs.Fmt.{decimal}
use Rattle.std.specs.Char.{is_ascii_digit}
use Rattle.std.specs.List.{list_all}
use Rattle.std.specs.Str.{all_ascii_digits, bytes_eq}
use Rattle.std.specs.Str.Parse.{digits_value}
use Rattle.cfg_expr.specs.declared.fault.TextKind.TheVariants.{Argument, Acl}
use Rattle.cfg_expr.specs.Condition.Lines.{is_name_byte, is_predefined, predefined_of, declared_name}
use Rattle.cfg_print.specs.Table.{name_at}
use Rattle.cfg_laws.proofs.LawLemmas.Words.{both_left, both_right}
use Rattle.cfg_laws.proofs.LawLemmas.Numbers.{own}

-- ---- names may be declared

digit_named : (b : ℕ) → is_ascii_digit b ≡ true → is_name_byte b ≡ true
digit_named b h = grind (arith, nat_tests)

digits_named : (ds : List ℕ) → all_ascii_digits ds ≡ true → list_all is_name_byte ds ≡ true
digits_named [] h = refl
digits_named (d ∷ ds) h =
    ap (λ t. t && list_all is_name_byte ds) (digit_named d (both_left (is_ascii_digit d) (all_ascii_digits ds) h))
    ∙ digits_named ds (both_right (is_ascii_digit d) (all_ascii_digits ds) h)

not_predefined : (ds : List ℕ) → is_predefined (99 ∷ ds) ≡ false
unfolding predefined_of
not_predefined ds = refl

pub name_declared : (n : ℕ) → n < 2 ^ 64 → declared_name (name_at n) ≡ Ok (name_at n)
name_declared n small =
    let ds = decimal n in
    let word = name_at n in
    ap (λ t. cond (not (t && list_all is_name_byte word)) (Err Argument) (cond (is_predefined word) (Err Acl) (Ok word))) (le-leb 1 (length word) (omega arith))
    ∙ ap (λ t. cond (not t) (Err Argument) (cond (is_predefined (99 ∷ ds)) (Err Acl) (Ok (99 ∷ ds)))) (digits_named ds (digits_decimal own n small))
    ∙ ap (λ t. cond t (Err Acl) (Ok (99 ∷ ds))) (not_predefined ds)

-- ---- names differ

not_so : (t : Bool) → t ≢ true → t ≡ false
not_so true h = absurd (h refl)
not_so false h = refl

same_number : (m n : ℕ) → m < 2 ^ 64 → n < 2 ^ 64 → name_at m ≡ name_at n → m ≡ n
same_number m n small less h =
    sym (digits_value-decimal own m small) ∙ ap (λ name. digits_value 10 (drop 1 name)) h ∙ digits_value-decimal own n less

pub other_name : (m n : ℕ) → m < 2 ^ 64 → n < 2 ^ 64 → m ≢ n → bytes_eq (name_at m) (name_at n) ≡ false
other_name m n small less apart =
    not_so (bytes_eq (name_at m) (name_at n)) (λ h. apart (same_number m n small less ((bytes_eq-Decides (name_at m) (name_at n)).0 h)))

pub same_bytes : (text : List ℕ) → bytes_eq text text ≡ true
same_bytes text = (bytes_eq-Decides text text).1 refl

pub are_same : (text other : List ℕ) → bytes_eq text other ≡ true → text ≡ other
are_same text other h = (bytes_eq-Decides text other).0 h
