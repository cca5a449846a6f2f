-- Line feeds, and empty lines in front, of both kinds of heads.
use Rattle.std.proofs.Common.{◌≡◌, ◌≢◌, ℕ, ◌+◌, ◌<◌, ◌≤◌, true, false, Bool, List, [], ◌∷◌, ◌++◌, length, get_or, take, drop, refl, sym, ap, ◌∙◌, subst, zero-add, arith, append_assoc, length-append}
use Rattle.std.specs.Prelude.{◌==◌, codes, IsTrue, All, ◌&&◌, cond}
use Rattle.std.specs.List.{flat_map}
use Rattle.std.proofs.lemmas.List.Elements.{All-head, All-tail}
use Rattle.std.proofs.lemmas.List.Sums.{sum_by-append}
use Rattle.std.proofs.lemmas.List.{take-append-drop, take-append-le, drop-append-le}
use Rattle.std.proofs.Math.Seq.{take-append_seam}
use Rattle.std.proofs.lemmas.Bool.{false_from_ne_true, both_ways, eqb-true, eq-eqb, ne_eqb, and_parts, and_from}
use Rattle.httparse.specs.Grammar.{LineEnd, crlf, lf, print_end, print_blank, print_version, Field, print_field, IsField, AllPass, is_token_byte, is_value_byte}
use Rattle.h1_head.specs.Stream.{behind}
use Rattle.h1_head.specs.Decides.{is_line_feed}
use Rattle.h1_head.specs.Feeds.{feeds}

pub feeds-append : (xs ys : List ℕ) → feeds (xs ++ ys) ≡ feeds xs + feeds ys
feeds-append xs ys = sum_by-append (λ x. cond (is_line_feed x) 1 0) xs ys

-- a byte of a class that has no line feed is none
not_feed : (test : ℕ → Bool) → (test 10 ≡ false) → (x : ℕ) → test x ≡ true → is_line_feed x ≡ false
not_feed test never x pass =
    false_from_ne_true (is_line_feed x) (λ is. both_ways (test 10) never (subst (λ (b : ℕ). test b ≡ true) (eqb-true x 10 is) pass))

pub feeds-cons : (x : ℕ) (xs : List ℕ) → is_line_feed x ≡ false → feeds (x ∷ xs) ≡ feeds xs
feeds-cons x xs other =
    let none : feeds (x ∷ []) ≡ 0 = ap (λ b. 0 + cond b 1 0) other in
    feeds-append (x ∷ []) xs ∙ omega arith

-- bytes of a class that has no line feed
pub no_feeds : (test : ℕ → Bool) → (test 10 ≡ false) → (xs : List ℕ) → AllPass test xs → feeds xs ≡ 0
no_feeds test never [] pass = refl
no_feeds test never (x ∷ xs) pass =
    feeds-cons x xs (not_feed test never x (All-head (λ b. IsTrue (test b)) x xs pass))
    ∙ no_feeds test never xs (All-tail (λ b. IsTrue (test b)) x xs pass)

pub feeds-print_end : (end : LineEnd) → feeds (print_end end) ≡ 1
feeds-print_end crlf = refl
feeds-print_end lf = refl

pub feeds-print_version : (minor : ℕ) → minor ≤ 1 → feeds (print_version minor) ≡ 0
feeds-print_version minor h =
    feeds-append (codes "HTTP/1.") ((48 + minor) ∷ []) ∙ ap (λ b. 0 + (0 + cond b 1 0)) (ne_eqb (48 + minor) 10 (λ e. omega arith))

pub token_feeds : is_token_byte 10 ≡ false
unfolding is_token_byte
token_feeds = refl

feeds-print_field : (f : Field) → IsField f → feeds (print_field f) ≡ 1
feeds-print_field f is =
    feeds-append (f.name ++ 58 ∷ f.raw) (print_end f.end)
    ∙ ap (λ n. n + feeds (print_end f.end)) (feeds-append f.name (58 ∷ f.raw) ∙ ap (λ n. n + feeds (58 ∷ f.raw)) (no_feeds is_token_byte token_feeds f.name is.name.1)
    ∙ zero-add (feeds (58 ∷ f.raw)) ∙ feeds-cons 58 f.raw refl ∙ no_feeds is_value_byte refl f.raw is.raw)
    ∙ ap (λ n. 0 + n) (feeds-print_end f.end)

pub feeds-fields : (fs : List Field) → All IsField fs → feeds (flat_map print_field fs) ≡ length fs
feeds-fields [] is = refl
feeds-fields (f ∷ fs) is =
    let first : feeds (print_field f) ≡ 1 = feeds-print_field f (All-head IsField f fs is) in
    let rest : feeds (flat_map print_field fs) ≡ length fs = feeds-fields fs (All-tail IsField f fs is) in
    feeds-append (print_field f) (flat_map print_field fs) ∙ omega arith

ends_in_feed : (end : LineEnd) → (front : List ℕ) × (print_end end ≡ front ++ 10 ∷ [])
ends_in_feed crlf = (13 ∷ [], refl)
ends_in_feed lf = ([], refl)

pub tail_ends : (a f : List ℕ) (end : LineEnd) → (front : List ℕ) × (a ++ (f ++ print_end end) ≡ front ++ 10 ∷ [])
tail_ends a f end =
    let e = ends_in_feed end in
    (a ++ (f ++ e.0), ap (λ last. a ++ (f ++ last)) e.1 ∙ ap (λ last. a ++ last) (sym (append_assoc f e.0 (10 ∷ []))) ∙ sym (append_assoc a (f ++ e.0) (10 ∷ [])))

-- a text that ends in a line feed has more of them than each of its proper fronts
pub feeds-before : (text more whole rest front : List ℕ) → text ++ more ≡ whole ++ rest → whole ≡ front ++ 10 ∷ []
    → length text < length whole → feeds text < feeds whole
feeds-before text more whole rest front is e short =
    let n : ℕ = length text in
    let long : length whole ≡ length front + 1 = ap length e ∙ length-append front (10 ∷ []) in
    let same : take n whole ≡ text =
    sym (take-append-le n whole rest (omega arith)) ∙ sym (ap (take n) is) ∙ take-append_seam text more in
    let after : drop n whole ≡ drop n front ++ 10 ∷ [] = ap (drop n) e ∙ drop-append-le n front (10 ∷ []) (omega arith) in
    let split : feeds whole ≡ feeds (take n whole) + feeds (drop n whole) =
    ap feeds (sym (take-append-drop n whole)) ∙ feeds-append (take n whole) (drop n whole) in
    let last : feeds (drop n whole) ≡ feeds (drop n front) + 1 = ap feeds after ∙ feeds-append (drop n front) (10 ∷ []) in
    let first : feeds (take n whole) ≡ feeds text = ap feeds same in
    omega arith

-- a text whose front is longer than the window is cut in it
pub front_in : (text more whole rest : List ℕ) → text ++ more ≡ whole ++ rest → length whole ≤ length text → text ≡ whole ++ drop (length whole) text
front_in text more whole rest is long =
    let n : ℕ = length whole in
    let front : take n text ≡ whole = sym (take-append-le n text more long) ∙ ap (take n) is ∙ take-append_seam whole rest in
    sym (take-append-drop n text) ∙ ap (λ bytes. bytes ++ drop n text) front

single : (a : ℕ) (more : List ℕ) → (a == 10) ≡ false → (a == 13) ≡ false → behind (a ∷ more) ≡ a ∷ more
single a [] ten thirteen = ap (λ t. cond t [] (a ∷ [])) ten
single a (m ∷ more) ten thirteen =
    ap (λ t. cond t (behind (m ∷ more)) (cond (a == 13 && m == 10) (behind more) (a ∷ m ∷ more))) ten
    ∙ ap (λ t. cond (t && m == 10) (behind more) (a ∷ m ∷ more)) thirteen

choose : (t u : Bool) (x y z x' y' more : List ℕ) → (x ≢ [] → x ≢ 13 ∷ [] → x' ≡ x ++ more) → (y ≢ [] → y ≢ 13 ∷ [] → y' ≡ y ++ more)
    → cond t x (cond u y z) ≢ [] → cond t x (cond u y z) ≢ 13 ∷ [] → cond t x' (cond u y' (z ++ more)) ≡ cond t x (cond u y z) ++ more
choose true u x y z x' y' more ihx ihy some other = ihx some other
choose false true x y z x' y' more ihx ihy some other = ihy some other
choose false false x y z x' y' more ihx ihy some other = refl

-- what follows does not change where the empty lines end, unless a CR stands alone
pub behind-append : (window more : List ℕ) → behind window ≢ [] → behind window ≢ 13 ∷ [] → behind (window ++ more) ≡ behind window ++ more
behind-append [] more some other = absurd (some refl)
behind-append (a ∷ []) more some other =
    let ten = false_from_ne_true (a == 10) (λ is. some (ap (λ t. cond t [] (a ∷ [])) is)) in
    let here : behind (a ∷ []) ≡ a ∷ [] = single a [] ten (false_from_ne_true (a == 13) (λ is. other (ap (λ t. cond t [] (a ∷ [])) ten ∙ ap (λ x. x ∷ []) (eqb-true a 13 is)))) in
    single a more ten (false_from_ne_true (a == 13) (λ is. other (ap (λ t. cond t [] (a ∷ [])) ten ∙ ap (λ x. x ∷ []) (eqb-true a 13 is)))) ∙ ap (λ bytes. bytes ++ more) (sym here)
behind-append (a ∷ b ∷ bytes) more some other =
    choose (a == 10) (a == 13 && b == 10) (behind (b ∷ bytes)) (behind bytes) (a ∷ b ∷ bytes) (behind ((b ∷ bytes) ++ more)) (behind (bytes ++ more)) more
    (behind-append (b ∷ bytes) more) (behind-append bytes more) some other

-- one empty line less in front changes nothing
pub behind_lf : (xs : List ℕ) → 1 ≤ length xs → get_or xs 0 0 ≡ 10 → behind (drop 1 xs) ≡ behind xs
behind_lf [] n e = absurd (omega arith)
behind_lf (a ∷ []) n e = sym (ap (λ t. cond t [] (a ∷ [])) (eq-eqb a 10 e))
behind_lf (a ∷ b ∷ xs) n e = sym (ap (λ t. cond t (behind (b ∷ xs)) (cond (a == 13 && b == 10) (behind xs) (a ∷ b ∷ xs))) (eq-eqb a 10 e))

pub behind_crlf : (xs : List ℕ) → 2 ≤ length xs → get_or xs 0 0 ≡ 13 → get_or xs 1 0 ≡ 10 → behind (drop 2 xs) ≡ behind xs
behind_crlf [] n e f = absurd (omega arith)
behind_crlf (a ∷ []) n e f = absurd (omega arith)
behind_crlf (a ∷ b ∷ xs) n e f =
    sym (ap (λ t. cond t (behind (b ∷ xs)) (cond (a == 13 && b == 10) (behind xs) (a ∷ b ∷ xs))) (ne_eqb a 10 (λ ten. omega arith))
    ∙ ap (λ t. cond t (behind xs) (a ∷ b ∷ xs)) (and_from (a == 13) (b == 10) (eq-eqb a 13 e) (eq-eqb b 10 f)))

pub behind_stop : (xs : List ℕ) → (1 ≤ length xs → get_or xs 0 0 ≢ 10) → (2 ≤ length xs → get_or xs 0 0 ≡ 13 → get_or xs 1 0 ≢ 10) → behind xs ≡ xs
behind_stop [] one two = refl
behind_stop (a ∷ []) one two = ap (λ t. cond t [] (a ∷ [])) (ne_eqb a 10 (one (omega arith)))
behind_stop (a ∷ b ∷ xs) one two =
    ap (λ t. cond t (behind (b ∷ xs)) (cond (a == 13 && b == 10) (behind xs) (a ∷ b ∷ xs))) (ne_eqb a 10 (one (omega arith)))
    ∙ ap (λ t. cond t (behind xs) (a ∷ b ∷ xs)) (false_from_ne_true (a == 13 && b == 10)
    (λ is. let parts = and_parts (a == 13) (b == 10) is in two (omega arith) (eqb-true a 13 parts.0) (eqb-true b 10 parts.1)))

pub behind-le : (xs : List ℕ) → length (behind xs) ≤ length xs
behind-le [] = omega arith
behind-le (a ∷ []) = shorter (a == 10) [] (a ∷ []) 1 (omega arith) (omega arith)
  where
    shorter : (t : Bool) (x y : List ℕ) (n : ℕ) → length x ≤ n → length y ≤ n → length (cond t x y) ≤ n
    shorter true x y n p q = p
    shorter false x y n p q = q
behind-le (a ∷ b ∷ xs) =
    let one : length (behind (b ∷ xs)) ≤ length (a ∷ b ∷ xs) = let h : length (behind (b ∷ xs)) ≤ length (b ∷ xs) = behind-le (b ∷ xs) in omega arith in
    let two : length (behind xs) ≤ length (a ∷ b ∷ xs) = let h : length (behind xs) ≤ length xs = behind-le xs in omega arith in
    pick (a == 10) (a == 13 && b == 10) (behind (b ∷ xs)) (behind xs) (a ∷ b ∷ xs) (length (a ∷ b ∷ xs)) one two (omega arith)
  where
    pick : (t u : Bool) (x y z : List ℕ) (n : ℕ) → length x ≤ n → length y ≤ n → length z ≤ n → length (cond t x (cond u y z)) ≤ n
    pick true u x y z n p q r = p
    pick false true x y z n p q r = q
    pick false false x y z n p q r = r

pub no_blank : (text : List ℕ) (ends : List LineEnd) (bytes : List ℕ) → text ≡ print_blank ends ++ bytes → behind text ≡ text → ends ≡ []
no_blank text [] bytes is e = refl
no_blank text (lf ∷ ends) bytes is e =
    let tail : List ℕ = print_blank ends ++ bytes in
    let drops : behind (10 ∷ tail) ≡ behind tail = sym (behind_lf (10 ∷ tail) (omega arith) refl) in
    let less : length (behind tail) ≤ length tail = behind-le tail in
    let same : length (behind tail) ≡ length (10 ∷ tail) = ap length (sym drops ∙ sym (ap behind is) ∙ e ∙ is) in
    absurd (omega arith)
no_blank text (crlf ∷ ends) bytes is e =
    let tail : List ℕ = print_blank ends ++ bytes in
    let drops : behind (13 ∷ 10 ∷ tail) ≡ behind tail = sym (behind_crlf (13 ∷ 10 ∷ tail) (omega arith) refl refl) in
    let less : length (behind tail) ≤ length tail = behind-le tail in
    let same : length (behind tail) ≡ length (13 ∷ 10 ∷ tail) = ap length (sym drops ∙ sym (ap behind is) ∙ e ∙ is) in
    absurd (omega arith)
