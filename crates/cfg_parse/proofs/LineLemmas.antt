-- The first line of a text.
use Rattle.std.proofs.Common.{◌≡◌, ℕ, ◌+◌, ◌-◌, ◌<◌, Bool, true, false, cond, eqb, List, [], ◌∷◌, length, take, drop, refl, sym, ap, ◌∙◌, arith}
use Rattle.std.specs.List.{slice_split, onto_first, position_or_len}
use Rattle.std.specs.Str.Lines.{lines, lines_of_parts, strip_carriage_return}
use Rattle.std.proofs.lemmas.List.{drop_all, take_rest}
use Rattle.std.proofs.lemmas.Bool.Decides.{nat_tests}
use Rattle.std.proofs.lemmas.List.Elements.{All-from_get_or}
use Rattle.std.proofs.lemmas.List.Splits.{slice_split_first, slice_split_none}
use Rattle.std.proofs.lemmas.List.Sums.{fails_before_first}

-- a line feed
abbrev pub ends_line : ℕ → Bool
ends_line b = eqb b 10

-- there is always a first part
parts_some : (text : List ℕ) → (first : List ℕ) × ((others : List (List ℕ)) × (slice_split ends_line text ≡ first ∷ others))
parts_some [] = ([], ([], refl))
parts_some (x ∷ xs) = by_test (ends_line x) (parts_some xs)
  where
    onto : (parts : List (List ℕ)) → (f : List ℕ) × ((o : List (List ℕ)) × (parts ≡ f ∷ o)) → (first : List ℕ) × ((others : List (List ℕ)) × (onto_first x parts ≡ first ∷ others))
    onto parts some = (x ∷ some.0, (some.1.0, ap (onto_first x) some.1.1))

    by_test : (b : Bool) → (f : List ℕ) × ((o : List (List ℕ)) × (slice_split ends_line xs ≡ f ∷ o))
        → (first : List ℕ) × ((others : List (List ℕ)) × (cond b ([] ∷ slice_split ends_line xs) (onto_first x (slice_split ends_line xs)) ≡ first ∷ others))
    by_test true rest = ([], (slice_split ends_line xs, refl))
    by_test false rest = onto (slice_split ends_line xs) rest

-- a line that ends with a line feed
pub lines_first : (text : List ℕ) → position_or_len ends_line text < length text
    → lines text ≡ strip_carriage_return (take (position_or_len ends_line text) text) ∷ lines (drop (position_or_len ends_line text + 1) text)
lines_first text inside =
    let rest = drop (position_or_len ends_line text + 1) text in
    let some = parts_some rest in
    let cut = slice_split_first ends_line text 0 inside in
    let parts = cut ∙ ap (λ (ps : List (List ℕ)). take (position_or_len ends_line text) text ∷ ps) some.1.1 in
    ap lines_of_parts parts ∙ ap (λ (ps : List (List ℕ)). strip_carriage_return (take (position_or_len ends_line text) text) ∷ lines_of_parts ps) (sym some.1.1)

whole_part : (text : List ℕ) → 0 < length text → lines_of_parts (text ∷ []) ≡ text ∷ []
whole_part text some =
    let test : eqb (length text) 0 ≡ false = grind (arith, nat_tests) in
    ap (λ b. cond b [] (text ∷ [])) test

-- a last line without a line feed
pub lines_last : (text : List ℕ) → 0 < length text → position_or_len ends_line text ≡ length text → lines text ≡ text ∷ lines (drop (length text) text)
lines_last text some all =
    let none = slice_split_none ends_line text (All-from_get_or (λ x. ends_line x ≡ false) text 0 (λ i lt. fails_before_first ends_line text i 0 (omega arith))) in
    ap lines_of_parts none ∙ whole_part text some ∙ ap (λ (l : List ℕ). text ∷ lines l) (sym (drop_all (length text) text (omega arith)))

-- the first line, by how many bytes stand in front of its end
pub lines_first_at : (text : List ℕ) (n : ℕ) (line : List ℕ) → n ≡ position_or_len ends_line text → n < length text → line ≡ strip_carriage_return (take n text)
    → lines text ≡ line ∷ lines (take (length text - (n + 1)) (drop (n + 1) text))
lines_first_at text n line is inside line-is =
    rw (take_rest text (n + 1), line-is, is) (lines_first text (omega arith))

pub lines_last_at : (text : List ℕ) (n : ℕ) → 0 < length text → n ≡ position_or_len ends_line text → n ≡ length text → lines text ≡ text ∷ lines (take (length text - n) (drop n text))
lines_last_at text n some is all =
    rw (take_rest text n, all) (lines_last text some (sym is ∙ all))
