-- What terms come to in a table, by the definitions of its text, its keys and its lines.
use Rattle.std.proofs.Common.{◌≡◌, ℕ, ◌+◌, ◌≤◌, Bool, true, false, List, [], ◌∷◌, ◌++◌, length, refl, sym, ap, ◌∙◌, append_assoc, append-nil, zero-add, arith}
use Rattle.std.proofs.lemmas.Bool.Decides.{nat_tests}
use Rattle.std.specs.Prelude.{not, fold, min, position, unwrap_or, Some, None, nat_lt, if◌then◌else◌}
use Rattle.std.specs.List.{position_or_len}
use Rattle.std.proofs.lemmas.List.Sums.{prefix_len-le-length}
use Rattle.acl_eval.specs.declared.condition.Term.{Term}
use Rattle.cfg_expr.specs.Condition.Lines.{most_lines}
use Rattle.cfg_print.specs.Table.{key_of, is_among, name_at, acl_lines, table_text, keys_from, count_lines, Tabled, tabled, with_new, with_term}

-- parts that are the same make the same
same : (t u : List ℕ) (k j : List (List ℕ)) (m n : ℕ) → t ≡ u → k ≡ j → m ≡ n → tabled t k m ≡ tabled u j n
same t u k j m n a b c = cc

-- a number under the cap stays there, however often it is put there
within_cap : (a : ℕ) → min a (most_lines + 1) ≤ most_lines + 1
within_cap a = omega arith

capped : (a b c : ℕ) → min (min (a + b) (most_lines + 1) + c) (most_lines + 1) ≡ min (a + (b + c)) (most_lines + 1)
capped a b c = omega arith

-- what terms come to
pub tabled_all : (terms : List Term) (text : List ℕ) (keys : List (List ℕ)) (lines : ℕ) → lines ≤ most_lines + 1
    → fold with_term (tabled text keys lines) terms ≡ tabled (text ++ table_text keys terms) (keys_from keys terms) (min (lines + count_lines keys terms) (most_lines + 1))
unfolding table_text keys_from count_lines
tabled_all [] text keys lines small = same text (text ++ []) keys keys lines (min (lines + 0) (most_lines + 1)) (simp append-nil) refl (omega arith)
tabled_all (term ∷ terms) text keys lines small = by_test (is_among keys (key_of term)) (tabled_all terms)
  where
    by_test : (b : Bool) → ((t : List ℕ) (k : List (List ℕ)) (n : ℕ) → n ≤ most_lines + 1 → fold with_term (tabled t k n) terms ≡ tabled (t ++ table_text k terms) (keys_from k terms) (min (n + count_lines k terms) (most_lines + 1)))
        → fold with_term (if b then tabled text keys lines else with_new (tabled text keys lines) term) terms
        ≡ tabled (text ++ ((if b then [] else acl_lines (name_at (length keys + 1)) term) ++ table_text (if b then keys else keys ++ key_of term ∷ []) terms))
        (keys_from (if b then keys else keys ++ key_of term ∷ []) terms)
        (min (lines + ((if b then 0 else length term.tests) + count_lines (if b then keys else keys ++ key_of term ∷ []) terms)) (most_lines + 1))
    by_test true again =
        again text keys lines small ∙ ap (λ (m : ℕ). tabled (text ++ table_text keys terms) (keys_from keys terms) (min (lines + m) (most_lines + 1))) (sym (zero-add (count_lines keys terms)))
    by_test false again =
        let added : List ℕ = acl_lines (name_at (length keys + 1)) term in
        let more : List (List ℕ) = keys ++ key_of term ∷ [] in
        again (text ++ added) more (min (lines + length term.tests) (most_lines + 1)) (within_cap (lines + length term.tests))
        ∙ ap (λ (t : List ℕ). tabled t (keys_from more terms) (min (min (lines + length term.tests) (most_lines + 1) + count_lines more terms) (most_lines + 1))) (append_assoc text added (table_text more terms))
        ∙ ap (λ (m : ℕ). tabled (text ++ (added ++ table_text more terms)) (keys_from more terms) m) (capped lines (length term.tests) (count_lines more terms))

-- what they come to where the table was empty
from_nothing : (terms : List Term) (text t : List ℕ) (none k : List (List ℕ)) (n : ℕ) → none ≡ [] → tabled t k n ≡ fold with_term (tabled text none 0) terms
    → tabled t k n ≡ tabled (text ++ table_text [] terms) (keys_from [] terms) (min (0 + count_lines [] terms) (most_lines + 1))
from_nothing terms text t none k n empty is = is ∙ ap (λ (keys : List (List ℕ)). fold with_term (tabled text keys 0) terms) empty ∙ tabled_all terms text [] 0 (omega arith)

pub text_of_terms : (terms : List Term) (text t : List ℕ) (none k : List (List ℕ)) (n : ℕ) → none ≡ [] → tabled t k n ≡ fold with_term (tabled text none 0) terms → t ≡ text ++ table_text [] terms
text_of_terms terms text t none k n empty is = ap (λ (it : Tabled). it.text) (from_nothing terms text t none k n empty is)

pub keys_of_terms : (terms : List Term) (text t : List ℕ) (none k : List (List ℕ)) (n : ℕ) → none ≡ [] → tabled t k n ≡ fold with_term (tabled text none 0) terms → k ≡ keys_from [] terms
keys_of_terms terms text t none k n empty is = ap (λ (it : Tabled). it.keys) (from_nothing terms text t none k n empty is)

pub lines_of_terms : (terms : List Term) (text t : List ℕ) (none k : List (List ℕ)) (n : ℕ) → none ≡ [] → tabled t k n ≡ fold with_term (tabled text none 0) terms → n ≡ min (count_lines [] terms) (most_lines + 1)
lines_of_terms terms text t none k n empty is =
    ap (λ (it : Tabled). it.lines) (from_nothing terms text t none k n empty is) ∙ ap (λ (m : ℕ). min m (most_lines + 1)) (zero-add (count_lines [] terms))

-- a number that isn't below its bound
full : (n m : ℕ) → n ≤ m → nat_lt n m ≡ false → n ≡ m
full n m within outside = grind (arith, nat_tests)

-- where an element stands, or how many there are, by both words of it
pub place_is : {X : Type 0} (p : X → Bool) (xs : List X) (n : ℕ) → n ≡ position_or_len p xs → n + 1 ≡ unwrap_or (position p xs) (length xs) + 1
place_is {X = X} p xs n is = ap (λ (k : ℕ). k + 1) (is ∙ by_test (nat_lt (position_or_len p xs) (length xs)) refl)
  where
    by_test : (b : Bool) → nat_lt (position_or_len p xs) (length xs) ≡ b → position_or_len p xs ≡ unwrap_or (if b then Some (position_or_len p xs) else None) (length xs)
    by_test true inside = refl
    by_test false outside = full _ _ (prefix_len-le-length (λ (x : X). not (p x)) xs) outside
