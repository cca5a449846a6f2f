-- Texts and their parts, with the case of letters ignored or not.
use Rattle.std.proofs.Common.{◌≡◌, ℕ, zero, suc, Bool, true, false, ◌+◌, ◌-◌, ◌<◌, ◌≤◌, ◌||◌, List, [], ◌∷◌, length, take, drop, refl, sym, ap, ap₂, ◌∙◌, add-one, arith}
use Rattle.std.specs.Prelude.{nat_eq}
use Rattle.std.specs.Char.{to_ascii_lowercase}
use Rattle.std.specs.Str.{bytes_eq}
use Rattle.std.specs.List.{starts_with, ends_with}
use Rattle.std.proofs.lemmas.List.{take-map, drop-map, length-map, length-drop, take_all}
use Rattle.std.proofs.Math.ListN.{drop_of_length-le}
use Rattle.std.proofs.Math.Seq.{drop-length}
use Rattle.acl_eval.specs.Matches.{compared, contains_text}

pub compared-take : (icase : Bool) (n : ℕ) (text : List ℕ) → compared icase (take n text) ≡ take n (compared icase text)
compared-take true n text = sym (take-map to_ascii_lowercase n text)
compared-take false n text = refl

pub compared-drop : (icase : Bool) (n : ℕ) (text : List ℕ) → compared icase (drop n text) ≡ drop n (compared icase text)
compared-drop true n text = sym (drop-map to_ascii_lowercase n text)
compared-drop false n text = refl

pub length-compared : (icase : Bool) (text : List ℕ) → length (compared icase text) ≡ length text
length-compared true text = length-map text to_ascii_lowercase
length-compared false text = refl

-- a text from a place to its end
pub to_end : (text : List ℕ) (at : ℕ) → take (length text - at) (drop at text) ≡ drop at text
to_end text at = take_all (length text - at) (drop at text) (omega (arith, length-drop at text))

-- the front of a text is equal to the literal where the text begins with it
pub at_front : (icase : Bool) (text literal : List ℕ) → bytes_eq (compared icase literal) (compared icase (take (length literal) text)) ≡ starts_with nat_eq (compared icase text) (compared icase literal)
at_front icase text literal =
    ap (λ (front : List ℕ). bytes_eq (compared icase literal) front) (compared-take icase (length literal) text)
    ∙ ap (λ (n : ℕ). bytes_eq (compared icase literal) (take n (compared icase text))) (sym (length-compared icase literal))

-- its end where the text ends with it
pub at_end : (icase : Bool) (text literal : List ℕ) → bytes_eq (compared icase literal) (compared icase (drop (length text - length literal) text)) ≡ ends_with nat_eq (compared icase text) (compared icase literal)
at_end icase text literal =
    ap (λ (end' : List ℕ). bytes_eq (compared icase literal) end') (compared-drop icase (length text - length literal) text)
    ∙ ap₂ (λ (m n : ℕ). bytes_eq (compared icase literal) (drop (m - n) (compared icase text))) (sym (length-compared icase text)) (sym (length-compared icase literal))

-- a text that begins with the literal contains it
pub contains_here : (text literal : List ℕ) (whole : Bool) → true ≡ starts_with nat_eq text literal → contains_text text literal ≡ whole → true ≡ whole
contains_here [] literal whole here left = here ∙ left
contains_here (b ∷ text) literal whole here left = ap (λ (first : Bool). first || contains_text text literal) here ∙ left

-- the bytes from a place on, compared
from_place : (icase : Bool) (text : List ℕ) (at : ℕ) → at < length text → (b : ℕ) × (compared icase (drop at text) ≡ b ∷ compared icase (drop (suc at) text))
from_place icase [] at below = absurd (omega arith)
from_place true (b ∷ text) zero below = (to_ascii_lowercase b, refl)
from_place false (b ∷ text) zero below = (b, refl)
from_place icase (b ∷ text) (suc at) below = from_place icase text at (omega arith)

-- where the literal doesn't stand at a place, what is left behind it decides
pub contains_behind : (icase : Bool) (text literal : List ℕ) (at : ℕ) (whole : Bool) → at < length text
    → false ≡ starts_with nat_eq (compared icase (drop at text)) literal → contains_text (compared icase (drop at text)) literal ≡ whole
    → contains_text (compared icase (drop (at + 1) text)) literal ≡ whole
contains_behind icase text literal at whole below fails left =
    let place = from_place icase text at below in
    let rest = compared icase (drop (suc at) text) in
    let here : false ≡ starts_with nat_eq (place.0 ∷ rest) literal = fails ∙ ap (λ (xs : List ℕ). starts_with nat_eq xs literal) place.1 in
    let first : contains_text rest literal ≡ contains_text (place.0 ∷ rest) literal = ap (λ (b : Bool). b || contains_text rest literal) here in
    rw add-one (first ∙ (ap (λ (xs : List ℕ). contains_text xs literal) (sym place.1) ∙ left))

-- behind the last byte nothing is left but the empty text
pub contains_at_end : (icase : Bool) (text literal : List ℕ) (at : ℕ) (whole : Bool) → length text ≤ at
    → contains_text (compared icase (drop at text)) literal ≡ whole → starts_with nat_eq (compared icase (drop (length text) text)) literal ≡ whole
contains_at_end icase text literal at whole all left =
    let none = drop_of_length-le text all in
    let last = drop-length text in
    let empty = compared_nil icase in
    ap (λ (xs : List ℕ). starts_with nat_eq (compared icase xs) literal) last
    ∙ (ap (λ (xs : List ℕ). starts_with nat_eq xs literal) empty
    ∙ (sym (ap (λ (xs : List ℕ). contains_text xs literal) empty)
    ∙ (sym (ap (λ (xs : List ℕ). contains_text (compared icase xs) literal) none) ∙ left)))
  where
    compared_nil : (icase : Bool) → compared icase [] ≡ []
    compared_nil true = refl
    compared_nil false = refl
