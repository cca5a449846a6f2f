-- Words that are numbers may name files.
use Rattle.std.proofs.Common.{◌≡◌, ℕ, List, [], ◌∷◌, ap, subst, Bool, true, false, cond, ◌&&◌, length}
use Rattle.std.specs.Prelude.{Some, None, is_some, nat_le}
use Rattle.std.specs.Str.Parse.{digits_value}
use Rattle.std.proofs.lemmas.Bool.{false≢true}
use Rattle.px_bytes.specs.Numbers.{decimal_of}
use Rattle.px_command.specs.Command.{IsFileWord, IsNumber}

-- what begins with a dash is no number
not_decimal : (bytes : List ℕ) (n : ℕ) → decimal_of 10 (45 ∷ bytes) ≡ Some n → ⊥
not_decimal bytes n is = by (nat_le 1 (length (45 ∷ bytes))) (nat_le (length (45 ∷ bytes)) 10) is
  where
    by : (least most : Bool) → cond (least && most && false) (Some (digits_value 10 (45 ∷ bytes))) None ≡ Some n → ⊥
    by true true e = false≢true (ap is_some e)
    by true false e = false≢true (ap is_some e)
    by false most e = false≢true (ap is_some e)

pub number_word : (least most : ℕ) (word : List ℕ) (n : ℕ) → IsNumber least most word n → IsFileWord word
number_word least most [] n number = false≢true (ap is_some number.0)
number_word least most (b ∷ bytes) n number = λ dash. not_decimal bytes n (subst (λ (x : ℕ). decimal_of 10 (x ∷ bytes) ≡ Some n) dash number.0)
