-- A text without the blanks at its ends, of which a buffer holds the front.
use Rattle.std.proofs.Common.{inl, inr, ◌≡◌, ℕ, zero, suc, ◌+◌, ◌-◌, ◌<◌, ◌≤◌, List, [], ◌∷◌, ◌++◌, Bool, true, false, cond, eqb, ◌&&◌, refl, sym, ap, ◌∙◌, subst, length, take, drop, min, arith, append_assoc, length-append, length-drop, reverse}
use Rattle.std.specs.Prelude.{◌⊎◌}
use Rattle.std.specs.List.{list_all, prefix_len, suffix_len}
use Rattle.std.proofs.lemmas.Bool.{false≢true, cases_lt, ne_eqb}
use Rattle.std.proofs.lemmas.List.{length-take, length-take-le, take_all, drop_all, take-append-le, drop-append-le, take-append-drop, reverse-append, length-reverse}
use Rattle.std.proofs.lemmas.List.Folds.{prefix_len-append, list_all-append}
use Rattle.std.proofs.lemmas.List.Sums.{prefix_len-le-length, suffix_len-le-length}
use Rattle.px_bytes.specs.Blanks.{is_blank, trimmed, trimmed_behind}
use Rattle.http_rules.specs.Action.Joining.{begun, are_blanks, piece_behind}

drop_one : (n b : ℕ) (bytes : List ℕ) → drop (1 + n) (b ∷ bytes) ≡ drop n bytes
drop_one n b bytes = let one : 1 + n ≡ suc n = omega arith in ap (λ (k : ℕ). drop k (b ∷ bytes)) one

-- ---- in front

-- what comes behind blanks begins anew, and what comes behind another byte stands as it is
abbrev Behind : (pieces more : List ℕ) → Type 0
Behind pieces more = ((begun pieces ≡ []) × (begun (pieces ++ more) ≡ begun more)) ⊎ ((0 < length (begun pieces)) × (begun (pieces ++ more) ≡ begun pieces ++ more))

abbrev from : ℕ → Bool → List ℕ → List ℕ
from b t rest = drop (cond t (1 + prefix_len is_blank rest) 0) (b ∷ rest)

pub behind : (pieces more : List ℕ) → Behind pieces more
behind [] more = inl (refl, refl)
behind (b ∷ pieces) more = at (behind pieces more) (is_blank b)
  where
    at : Behind pieces more → (t : Bool) → ((from b t pieces ≡ []) × (from b t (pieces ++ more) ≡ begun more)) ⊎ ((0 < length (from b t pieces)) × (from b t (pieces ++ more) ≡ from b t pieces ++ more))
    at later true = rw (drop_one (prefix_len is_blank pieces) b pieces, drop_one (prefix_len is_blank (pieces ++ more)) b (pieces ++ more)) later
    at later false = inr (omega arith, refl)

-- blanks in front count for nothing
pub blanks_of : (bytes : List ℕ) → are_blanks (begun bytes) ≡ are_blanks bytes
blanks_of [] = refl
blanks_of (b ∷ bytes) = at (blanks_of bytes) (is_blank b) refl
  where
    at : are_blanks (begun bytes) ≡ are_blanks bytes → (t : Bool) → is_blank b ≡ t → are_blanks (drop (cond t (1 + prefix_len is_blank bytes) 0) (b ∷ bytes)) ≡ (t && are_blanks bytes)
    at later true e = ap are_blanks (drop_one (prefix_len is_blank bytes) b bytes) ∙ later
    at later false e = ap (λ (t : Bool). t && are_blanks bytes) e

-- no blank stands in front of what begins
pub begun_first : (bytes : List ℕ) → prefix_len is_blank (begun bytes) ≡ 0
begun_first [] = refl
begun_first (b ∷ bytes) = at (begun_first bytes) (is_blank b) refl
  where
    at : prefix_len is_blank (begun bytes) ≡ 0 → (t : Bool) → is_blank b ≡ t → prefix_len is_blank (drop (cond t (1 + prefix_len is_blank bytes) 0) (b ∷ bytes)) ≡ 0
    at later true e = ap (λ (bs : List ℕ). prefix_len is_blank bs) (drop_one (prefix_len is_blank bytes) b bytes) ∙ later
    at later false e = ap (λ (t : Bool). cond t (1 + prefix_len is_blank bytes) 0) e

-- nor of the front of it
pub front_first : (n : ℕ) (bytes : List ℕ) → prefix_len is_blank bytes ≡ 0 → prefix_len is_blank (take n bytes) ≡ 0
front_first zero bytes h = refl
front_first (suc n) [] h = refl
front_first (suc n) (b ∷ bytes) h = at (is_blank b) h
  where
    at : (t : Bool) → cond t (1 + prefix_len is_blank bytes) 0 ≡ 0 → cond t (1 + prefix_len is_blank (take n bytes)) 0 ≡ 0
    at true e = absurd (omega (arith, e))
    at false e = refl

-- ---- behind

-- a blank at the end goes
drop_last : (bytes : List ℕ) (b : ℕ) → is_blank b ≡ true → trimmed_behind (bytes ++ b ∷ []) ≡ trimmed_behind bytes
drop_last bytes b blank =
    let flipped : suffix_len is_blank (bytes ++ b ∷ []) ≡ 1 + suffix_len is_blank bytes = ap (λ (bs : List ℕ). prefix_len is_blank bs) (reverse-append bytes (b ∷ [])) ∙ ap (λ (t : Bool). cond t (1 + prefix_len is_blank (reverse bytes)) 0) blank in
    let len : length (bytes ++ b ∷ []) - suffix_len is_blank (bytes ++ b ∷ []) ≡ length bytes - suffix_len is_blank bytes = omega (arith, flipped, length-append bytes (b ∷ [])) in
    ap (λ (n : ℕ). take n (bytes ++ b ∷ [])) len ∙ take-append-le (length bytes - suffix_len is_blank bytes) bytes (b ∷ []) (omega arith)

-- so do more
pub drop_blanks : (bytes more : List ℕ) → are_blanks more ≡ true → trimmed_behind (bytes ++ more) ≡ trimmed_behind bytes
drop_blanks bytes [] blank = ap trimmed_behind (append_nil bytes)
  where
    append_nil : (xs : List ℕ) → xs ++ [] ≡ xs
    append_nil [] = refl
    append_nil (x ∷ xs) = ap (λ (ys : List ℕ). x ∷ ys) (append_nil xs)
drop_blanks bytes (b ∷ more) blank = at (drop_blanks (bytes ++ b ∷ []) more) (is_blank b) refl blank
  where
    at : (are_blanks more ≡ true → trimmed_behind ((bytes ++ b ∷ []) ++ more) ≡ trimmed_behind (bytes ++ b ∷ [])) → (t : Bool) → is_blank b ≡ t → (t && are_blanks more) ≡ true → trimmed_behind (bytes ++ b ∷ more) ≡ trimmed_behind bytes
    at later true e rest = ap trimmed_behind (sym (append_assoc bytes (b ∷ []) more)) ∙ later rest ∙ drop_last bytes b e
    at later false e rest = absurd (false≢true rest)

-- all pass where as many do in front
all_of : (bytes : List ℕ) → length bytes ≤ prefix_len is_blank bytes → are_blanks bytes ≡ true
all_of [] h = refl
all_of (b ∷ bytes) h = at (all_of bytes) (is_blank b) h
  where
    at : (length bytes ≤ prefix_len is_blank bytes → are_blanks bytes ≡ true) → (t : Bool) → suc (length bytes) ≤ cond t (1 + prefix_len is_blank bytes) 0 → (t && are_blanks bytes) ≡ true
    at later true e = later (omega (arith, e))
    at later false e = absurd (omega (arith, e))

all_flipped : (bytes : List ℕ) → are_blanks (reverse bytes) ≡ true → are_blanks bytes ≡ true
all_flipped [] h = refl
all_flipped (b ∷ bytes) h = at (all_flipped bytes) (is_blank b) refl (are_blanks (reverse bytes)) refl (sym (list_all-append is_blank (reverse bytes) (b ∷ [])) ∙ sym (ap are_blanks (reverse-append (b ∷ []) bytes)) ∙ h)
  where
    at : (are_blanks (reverse bytes) ≡ true → are_blanks bytes ≡ true) → (t : Bool) → is_blank b ≡ t → (u : Bool) → are_blanks (reverse bytes) ≡ u → (u && (is_blank b && true)) ≡ true → (is_blank b && are_blanks bytes) ≡ true
    at later true e true f g = ap (λ (t : Bool). t && are_blanks bytes) e ∙ later f
    at later true e false f g = absurd (false≢true g)
    at later false e true f g = absurd (false≢true (sym (ap (λ (t : Bool). t && true) e) ∙ g))
    at later false e false f g = absurd (false≢true g)

-- behind a byte that is no blank all stays
pub keeps_front : (bytes more : List ℕ) → are_blanks more ≡ false → length bytes < length (trimmed_behind (bytes ++ more))
keeps_front bytes more some = by_order (cases_lt (prefix_len is_blank (reverse more)) (length more))
  where
    flipped : suffix_len is_blank (bytes ++ more) ≡ cond (eqb (prefix_len is_blank (reverse more)) (length (reverse more))) (length (reverse more) + prefix_len is_blank (reverse bytes)) (prefix_len is_blank (reverse more))
    flipped = ap (λ (bs : List ℕ). prefix_len is_blank bs) (reverse-append bytes more) ∙ prefix_len-append is_blank (reverse more) (reverse bytes)

    by_order : (prefix_len is_blank (reverse more) < length more) ⊎ (length more ≤ prefix_len is_blank (reverse more)) → length bytes < length (trimmed_behind (bytes ++ more))
    by_order (inl h) =
        let same : suffix_len is_blank (bytes ++ more) ≡ prefix_len is_blank (reverse more) = flipped ∙ ap (λ (t : Bool). cond t (length (reverse more) + prefix_len is_blank (reverse bytes)) (prefix_len is_blank (reverse more))) (ne_eqb (prefix_len is_blank (reverse more)) (length (reverse more)) (λ e. omega (arith, e, h, length-reverse more))) in
        omega (arith, h, same, length-append bytes more, length-take-le (length (bytes ++ more) - suffix_len is_blank (bytes ++ more)) (bytes ++ more) (omega arith))
    by_order (inr h) = absurd (false≢true (sym some ∙ all_flipped more (all_of (reverse more) (omega (arith, h, length-reverse more)))))

-- ---- both, where a buffer holds as much as it can

-- only blanks are left out
pub same_trimmed : (size : ℕ) (pieces : List ℕ) → are_blanks (drop size (begun pieces)) ≡ true → trimmed (take size (begun pieces)) ≡ trimmed pieces
same_trimmed size pieces blank =
    ap (λ (n : ℕ). trimmed_behind (drop n (take size (begun pieces)))) (front_first size (begun pieces) (begun_first pieces))
    ∙ sym (drop_blanks (take size (begun pieces)) (drop size (begun pieces)) blank)
    ∙ ap trimmed_behind (take-append-drop size (begun pieces))

some_left : (n : ℕ) (bytes : List ℕ) → are_blanks (drop n bytes) ≡ false → n ≤ length bytes
some_left zero bytes h = omega arith
some_left (suc n) [] h = absurd (false≢true (sym h))
some_left (suc n) (b ∷ bytes) h = omega (arith, some_left n bytes h)

-- another byte is left out
pub long_trimmed : (size : ℕ) (pieces : List ℕ) → are_blanks (drop size (begun pieces)) ≡ false → size < length (trimmed pieces)
long_trimmed size pieces some =
    let kept = keeps_front (take size (begun pieces)) (drop size (begun pieces)) some in
    let whole = ap (λ (bs : List ℕ). length (trimmed_behind bs)) (take-append-drop size (begun pieces)) in
    omega (arith, kept, whole, length-take-le size (begun pieces) (some_left size (begun pieces) some))

-- ---- one piece more

-- a buffer that holds the front of all so far, and what is left out of it
abbrev pub Front : (size : ℕ) → (pieces : List ℕ) → (whole : Bool) → (held : List ℕ) → Type 0
Front size pieces whole held = (held ≡ take size (begun pieces)) × (are_blanks (drop size (begun pieces)) ≡ whole)

take_more : (n : ℕ) (xs ys : List ℕ) → take n xs ++ take (n - length (take n xs)) ys ≡ take n (xs ++ ys)
take_more zero xs ys = refl
take_more (suc n) [] ys = let all : suc n - 0 ≡ suc n = omega arith in ap (λ (k : ℕ). take k ys) all
take_more (suc n) (x ∷ xs) ys =
    let less : suc n - length (x ∷ take n xs) ≡ n - length (take n xs) = omega arith in
    ap (λ (k : ℕ). x ∷ (take n xs ++ take k ys)) less ∙ ap (λ (bs : List ℕ). x ∷ bs) (take_more n xs ys)

drop_more : (n : ℕ) (xs ys : List ℕ) → are_blanks (drop n (xs ++ ys)) ≡ (are_blanks (drop n xs) && are_blanks (drop (n - length (take n xs)) ys))
drop_more zero xs ys = list_all-append is_blank xs ys
drop_more (suc n) [] ys = let all : suc n - 0 ≡ suc n = omega arith in sym (ap (λ (k : ℕ). are_blanks (drop k ys)) all)
drop_more (suc n) (x ∷ xs) ys =
    let less : suc n - length (x ∷ take n xs) ≡ n - length (take n xs) = omega arith in
    drop_more n xs ys ∙ sym (ap (λ (k : ℕ). are_blanks (drop n xs) && are_blanks (drop k ys)) less)

pub take_none : (n : ℕ) → take {A = ℕ} n [] ≡ []
take_none zero = refl
take_none (suc n) = refl

pub drop_none : (n : ℕ) → drop {A = ℕ} n [] ≡ []
drop_none zero = refl
drop_none (suc n) = refl

-- where the buffer holds nothing, it has no room, or there was nothing but blanks
rest_of : (size : ℕ) (bytes piece : List ℕ) → 0 < length bytes
    → (are_blanks (drop (size - length (take size bytes)) (piece_behind (take size bytes) piece)) ≡ are_blanks (drop (size - length (take size bytes)) piece))
    × (take (size - length (take size bytes)) (piece_behind (take size bytes) piece) ≡ take (size - length (take size bytes)) piece)
rest_of zero bytes piece some = (blanks_of piece, refl)
rest_of (suc n) [] piece some = absurd (omega (arith, some))
rest_of (suc n) (b ∷ bytes) piece some = (refl, refl)

-- the buffer and what is left out after one piece more
pub put_more : (size : ℕ) (pieces piece held : List ℕ) (whole : Bool) → Front size pieces whole held
    → Front size (pieces ++ piece) (whole && are_blanks (drop (size - length held) (piece_behind held piece))) (held ++ take (size - length held) (piece_behind held piece))
put_more size pieces piece held whole front = by_case (behind pieces piece)
  where
    Goes_on : List ℕ → Type 0
    Goes_on h = Front size (pieces ++ piece) (whole && are_blanks (drop (size - length h) (piece_behind h piece))) (h ++ take (size - length h) (piece_behind h piece))

    empty : begun pieces ≡ [] → held ≡ []
    empty none = front.0 ∙ ap (λ (bs : List ℕ). take size bs) none ∙ take_none size

    all : begun pieces ≡ [] → whole ≡ true
    all none = sym front.1 ∙ ap (λ (bs : List ℕ). are_blanks (drop size bs)) none ∙ ap are_blanks (drop_none size)

    by_case : Behind pieces piece → Goes_on held
    by_case (inl (none, fresh)) =
        let room : size - 0 ≡ size = omega arith in
        subst Goes_on (sym (empty none)) (
          ap (λ (n : ℕ). take n (begun piece)) room ∙ sym (ap (λ (bs : List ℕ). take size bs) fresh),
          ap (λ (bs : List ℕ). are_blanks (drop size bs)) fresh ∙ sym (ap (λ (n : ℕ). are_blanks (drop n (begun piece))) room) ∙ sym (ap (λ (t : Bool). t && are_blanks (drop (size - 0) (begun piece))) (all none)),
        )
    by_case (inr (some, goes_on)) =
        subst Goes_on (sym front.0) (
          ap (λ (bs : List ℕ). take size (begun pieces) ++ bs) (rest_of size (begun pieces) piece some).1 ∙ take_more size (begun pieces) piece ∙ sym (ap (λ (bs : List ℕ). take size bs) goes_on),
          ap (λ (bs : List ℕ). are_blanks (drop size bs)) goes_on ∙ drop_more size (begun pieces) piece
              ∙ ap (λ (t : Bool). t && are_blanks (drop (size - length (take size (begun pieces))) piece)) front.1
              ∙ sym (ap (λ (t : Bool). whole && t) (rest_of size (begun pieces) piece some).0),
        )
