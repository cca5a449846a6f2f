-- Lists of one to four words, of two and those behind them, and a text behind another.
use Rattle.std.proofs.Common.{◌≡◌, ◌<◌, ◌≤◌, ◌-◌, List, [], ◌∷◌, ◌++◌, Bool, sym, ap, ◌∙◌, length, get_or, take, drop, take_all, arith}
use Rattle.std.specs.Prelude.{ℕ, map, string_bytes, IsTrue}
use Rattle.std.specs.declared.string.String.{String}
use Rattle.std.specs.declared.alloc.Global.{Global}
use Rattle.std.proofs.lemmas.List.{append_assoc}
use Rattle.px_command.specs.Texts.{EndsLine}

-- a list of one is its item
one : (ws : List (String Global)) (a : String Global) → 1 ≤ length ws → length ws < 2 → a ≡ get_or ws 0 a → ws ≡ a ∷ []
one [] a least most p = absurd (omega arith)
one (x ∷ []) a least most p = cc
one (x ∷ y ∷ ws) a least most p = absurd (omega arith)

-- a list of two is its two items
pub two : (ws : List (String Global)) (a b : String Global) → 2 ≤ length ws → length ws < 3 → a ≡ get_or ws 0 a → b ≡ get_or ws 1 b → ws ≡ a ∷ b ∷ []
two [] a b least most p q = absurd (omega arith)
two (x ∷ []) a b least most p q = absurd (omega arith)
two (x ∷ y ∷ []) a b least most p q = cc
two (x ∷ y ∷ z ∷ ws) a b least most p q = absurd (omega arith)

-- a list of two or more is its first two items and those behind them
pub two_and : (ws : List (String Global)) (a b : String Global) → 2 ≤ length ws → a ≡ get_or ws 0 a → b ≡ get_or ws 1 b → ws ≡ a ∷ b ∷ take (length ws - 2) (drop 2 ws)
two_and [] a b least p q = absurd (omega arith)
two_and (x ∷ []) a b least p q = absurd (omega arith)
two_and (x ∷ y ∷ zs) a b least p q =
    let behind : take (length (x ∷ y ∷ zs) - 2) zs ≡ zs = take_all (length (x ∷ y ∷ zs) - 2) zs (omega arith) in by_items x y zs a b _ p q behind
  where
    by_items : (x y : String Global) (zs : List (String Global)) (a b : String Global) (behind : List (String Global)) → a ≡ x → b ≡ y → behind ≡ zs → x ∷ y ∷ zs ≡ a ∷ b ∷ behind
    by_items x y zs a b behind p q r = cc

-- a list of three is its three items
pub three : (ws : List (String Global)) (a b d : String Global) → 3 ≤ length ws → length ws < 4 → a ≡ get_or ws 0 a → b ≡ get_or ws 1 b → d ≡ get_or ws 2 d → ws ≡ a ∷ b ∷ d ∷ []
three [] a b d least most p q r = absurd (omega arith)
three (x ∷ []) a b d least most p q r = absurd (omega arith)
three (x ∷ y ∷ []) a b d least most p q r = absurd (omega arith)
three (x ∷ y ∷ z ∷ []) a b d least most p q r = cc
three (x ∷ y ∷ z ∷ w ∷ ws) a b d least most p q r = absurd (omega arith)

-- a list of four is its four items
pub four : (ws : List (String Global)) (a b d e : String Global) → 4 ≤ length ws → length ws < 5 → a ≡ get_or ws 0 a → b ≡ get_or ws 1 b → d ≡ get_or ws 2 d → e ≡ get_or ws 3 e
    → ws ≡ a ∷ b ∷ d ∷ e ∷ []
four [] a b d e least most p q r s = absurd (omega arith)
four (x ∷ []) a b d e least most p q r s = absurd (omega arith)
four (x ∷ y ∷ []) a b d e least most p q r s = absurd (omega arith)
four (x ∷ y ∷ z ∷ []) a b d e least most p q r s = absurd (omega arith)
four (x ∷ y ∷ z ∷ w ∷ []) a b d e least most p q r s = cc
four (x ∷ y ∷ z ∷ w ∷ v ∷ ws) a b d e least most p q r s = absurd (omega arith)

head_is : (a b : List ℕ) → a ∷ [] ≡ b ∷ [] → a ≡ b
head_is a b is = cc

pub first_of_two : (a b x y : List ℕ) → a ∷ b ∷ [] ≡ x ∷ y ∷ [] → a ≡ x
first_of_two a b x y is = cc

pub first_of_three : (a b d x y z : List ℕ) → a ∷ b ∷ d ∷ [] ≡ x ∷ y ∷ z ∷ [] → a ≡ x
first_of_three a b d x y z is = cc

pub first_of_four : (a b d e x y z w : List ℕ) → a ∷ b ∷ d ∷ e ∷ [] ≡ x ∷ y ∷ z ∷ w ∷ [] → a ≡ x
first_of_four a b d e x y z w is = cc

pub front_are : (a b x y : List ℕ) (rest : List (List ℕ)) → a ≡ x → b ≡ y → a ∷ b ∷ rest ≡ x ∷ y ∷ rest
front_are a b x y rest p q = cc

pub two_are : (a b x y : List ℕ) → a ≡ x → b ≡ y → a ∷ b ∷ [] ≡ x ∷ y ∷ []
two_are a b x y p q = cc

pub three_are : (a b d x y z : List ℕ) → a ≡ x → b ≡ y → d ≡ z → a ∷ b ∷ d ∷ [] ≡ x ∷ y ∷ z ∷ []
three_are a b d x y z p q r = cc

pub four_are : (a b d e x y z w : List ℕ) → a ≡ x → b ≡ y → d ≡ z → e ≡ w → a ∷ b ∷ d ∷ e ∷ [] ≡ x ∷ y ∷ z ∷ w ∷ []
four_are a b d e x y z w p q r s = cc

-- one word is alone where it is this one
pub alone_word : (ws : List (String Global)) (a : String Global) (word : List ℕ) (result : Bool) → 1 ≤ length ws → length ws < 2 → a ≡ get_or ws 0 a
    → (IsTrue result → string_bytes a ≡ word) → (string_bytes a ≡ word → IsTrue result)
    → (IsTrue result → map string_bytes ws ≡ word ∷ []) × (map string_bytes ws ≡ word ∷ [] → IsTrue result)
alone_word ws a word result least most p to from =
    let is : map string_bytes ws ≡ string_bytes a ∷ [] = ap (map string_bytes) (one ws a least most p) in
    (λ t. is ∙ ap (λ (x : List ℕ). x ∷ []) (to t), λ all. from (head_is (string_bytes a) word (sym is ∙ all)))

-- a text behind another ends its last line
pub ends_behind : (front behind whole : List ℕ) → EndsLine behind → whole ≡ front ++ behind → EndsLine whole
ends_behind front behind whole (rest, is) joined = (front ++ rest, joined ∙ ap (λ (b : List ℕ). front ++ b) is ∙ sym (append_assoc front rest (10 ∷ [])))
