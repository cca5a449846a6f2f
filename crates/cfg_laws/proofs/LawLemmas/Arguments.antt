-- Arguments of fetches and converters as they are spelled, and read.
use Rattle.std.proofs.Common.{◌≡◌, ℕ, ℤ, pos, true, cond, List, length, ap, ◌∙◌}
use Rattle.std.proofs.lemmas.Bool.{not-true}
use Rattle.std.specs.Prelude.{◌&&◌, not, nat_le, int_le, Ok, Err}
use Rattle.std.specs.Ordering.{int_eq}
use Rattle.std.specs.Fmt.{signed_decimal}
use Rattle.px_bytes.specs.Tokens.{is_token}
use Rattle.cfg_expr.specs.declared.fault.TextKind.TheVariants.{Expr}
use Rattle.cfg_expr.specs.Steps.{◌>>=◌}
use Rattle.cfg_expr.specs.Fetches.{expected, number, count, occurrence, field_name}
use Rattle.cfg_laws.specs.Spelled.{is_spellable, is_within, is_count, is_occurrence, is_field}
use Rattle.cfg_laws.proofs.LawLemmas.Words.{both_left, both_right}
use Rattle.cfg_laws.proofs.LawLemmas.Numbers.{number_back, number_spellable}

-- ---- numbers

pub number_read : (n : ℤ) → is_within n ≡ true → number (signed_decimal n) ≡ Ok n
number_read n h = ap expected (number_back n h)

pub count_read : (n : ℤ) → is_count n ≡ true → count (signed_decimal n) ≡ Ok n
count_read n h =
    ap (λ told. told >>= λ m. cond (int_le (pos 0) m) (Ok m) (Err Expr)) (number_read n (both_left (is_within n) (int_le (pos 0) n) h))
    ∙ ap (λ t. cond t (Ok n) (Err Expr)) (both_right (is_within n) (int_le (pos 0) n) h)

pub occurrence_read : (n : ℤ) → is_occurrence n ≡ true → occurrence (signed_decimal n) ≡ Ok n
occurrence_read n h =
    ap (λ told. told >>= λ m. cond (int_eq m (pos 0)) (Err Expr) (Ok m)) (number_read n (both_left (is_within n) (not (int_eq n (pos 0))) h))
    ∙ ap (λ t. cond t (Err Expr) (Ok n)) (not-true (int_eq n (pos 0)) (both_right (is_within n) (not (int_eq n (pos 0))) h))

pub count_spellable : (n : ℤ) → is_count n ≡ true → is_spellable (signed_decimal n) ≡ true
count_spellable n h = number_spellable n (both_left (is_within n) (int_le (pos 0) n) h)

pub occurrence_spellable : (n : ℤ) → is_occurrence n ≡ true → is_spellable (signed_decimal n) ≡ true
occurrence_spellable n h = number_spellable n (both_left (is_within n) (not (int_eq n (pos 0))) h)

-- ---- what follows a number

pub with_number : {A : Type 0} (n : ℤ) (f : ℤ → A) → is_within n ≡ true → (number (signed_decimal n) >>= λ m. Ok (f m)) ≡ Ok (f n)
with_number n f h = ap (λ told. told >>= λ m. Ok (f m)) (number_read n h)

pub with_count : {A : Type 0} (n : ℤ) (f : ℤ → A) → is_count n ≡ true → (count (signed_decimal n) >>= λ m. Ok (f m)) ≡ Ok (f n)
with_count n f h = ap (λ told. told >>= λ m. Ok (f m)) (count_read n h)

-- ---- fields

field_read : (name : List ℕ) → is_field name ≡ true → field_name name ≡ Ok name
field_read name h = ap (λ t. cond t (Ok name) (Err Expr)) (both_left (is_token name && nat_le (length name) 255) (is_spellable name) h)

pub field_spellable : (name : List ℕ) → is_field name ≡ true → is_spellable name ≡ true
field_spellable name h = both_right (is_token name && nat_le (length name) 255) (is_spellable name) h

pub with_field : {A : Type 0} (name : List ℕ) (f : List ℕ → A) → is_field name ≡ true → (field_name name >>= λ field. Ok (f field)) ≡ Ok (f name)
with_field name f h = ap (λ told. told >>= λ field. Ok (f field)) (field_read name h)

pub with_place : {A : Type 0} (name : List ℕ) (n : ℤ) (f : List ℕ → ℤ → A) → is_field name ≡ true → is_occurrence n ≡ true
    → (field_name name >>= λ field. occurrence (signed_decimal n) >>= λ occ. Ok (f field occ)) ≡ Ok (f name n)
with_place name n f h i =
    ap (λ told. told >>= λ field. occurrence (signed_decimal n) >>= λ occ. Ok (f field occ)) (field_read name h)
    ∙ ap (λ told. told >>= λ occ. Ok (f name occ)) (occurrence_read n i)
