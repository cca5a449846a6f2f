-- No byte of a spelled word ends a line.
use Rattle.std.proofs.Common.{◌≡◌, ◌≢◌, ℕ, zero, suc, ◌+◌, ◌-◌, ◌/◌, ◌%◌, ◌<◌, Bool, true, false, cond, List, [], ◌∷◌, ◌++◌, length, get_or, take, drop, All, refl, sym, ap, ◌∙◌, append_assoc, arith}
use Rattle.std.proofs.lemmas.Bool.{ne_eqb}
use Rattle.std.proofs.lemmas.Bool.Decides.{nat_tests}
use Rattle.std.proofs.lemmas.List.Splits.{slice_split_at, length-slice_split}
use Rattle.std.specs.Prelude.{◌==◌, ◌||◌, nat_lt, count_by}
use Rattle.std.specs.List.{list_all, flat_map, slice_split}
use Rattle.std.specs.Str.Lines.{lines, lines_of_parts, strip_carriage_return}
use Rattle.cfg_print.specs.Words.{is_plain, is_control, is_quotable, is_plain_word, escaped, by_digits, hex_digit, single_quoted, double_quoted, word_text, words_text, line_text}
use Rattle.cfg_laws.specs.Laws.Lines.{line_of}
use Rattle.cfg_laws.proofs.LawLemmas.Words.{both_left, both_right}

-- neither a line feed nor a carriage return
abbrev pub Inner : ℕ → Type 0
Inner b = (b ≢ 10) × (b ≢ 13)

-- all of a text are
abbrev pub AllInner : List ℕ → Type 0
AllInner [] = Unit {0}
AllInner (b ∷ text) = Inner b × AllInner text

both : (xs ys : List ℕ) → AllInner xs → AllInner ys → AllInner (xs ++ ys)
both [] ys h i = i
both (b ∷ xs) ys h i = (h.0, both xs ys h.1 i)

passing : (test : ℕ → Bool) (xs : List ℕ) → ((b : ℕ) → test b ≡ true → Inner b) → list_all test xs ≡ true → AllInner xs
passing test [] inner h = tt
passing test (b ∷ xs) inner h = (inner b (both_left (test b) (list_all test xs) h), passing test xs inner (both_right (test b) (list_all test xs) h))

inner_plain : (b : ℕ) → is_plain b ≡ true → Inner b
inner_plain b h = (λ e. grind (arith, nat_tests), λ e. grind (arith, nat_tests))

inner_quotable : (b : ℕ) → is_quotable b ≡ true → Inner b
inner_quotable b h = (λ e. grind (arith, nat_tests), λ e. grind (arith, nat_tests))

inner_digit : (n : ℕ) → Inner (hex_digit n)
inner_digit n = (λ e. grind (arith, nat_tests), λ e. grind (arith, nat_tests))

inner_if : (t : Bool) (xs ys : List ℕ) → AllInner xs → (t ≡ false → AllInner ys) → AllInner (cond t xs ys)
inner_if true xs ys h i = h
inner_if false xs ys h i = i refl

inner_number : (n : ℕ) → 13 < n → Inner n
inner_number n h = (λ e. omega arith, λ e. omega arith)

inner_escaped : (b : ℕ) → AllInner (escaped b)
unfolding escaped
inner_escaped b =
    let slash = inner_number 92 (omega arith) in
    inner_if (b == 10) (92 ∷ 110 ∷ []) _ (slash, (inner_number 110 (omega arith), tt)) (λ x.
    inner_if (b == 13) (92 ∷ 114 ∷ []) _ (slash, (inner_number 114 (omega arith), tt)) (λ y.
    let one : Inner b = (λ e. grind (arith, nat_tests), λ e. grind (arith, nat_tests)) in
    inner_if (b == 9) (92 ∷ 116 ∷ []) _ (slash, (inner_number 116 (omega arith), tt)) (λ z.
    inner_if (is_control b) (by_digits b) _ (slash, (inner_number 120 (omega arith), (inner_digit (b / 16), (inner_digit (b % 16), tt)))) (λ w.
    inner_if (b == 34 || (b == 36 || b == 92)) (92 ∷ b ∷ []) (b ∷ []) (slash, (one, tt)) (λ v. (one, tt))))))

inner_doubled : (word : List ℕ) → AllInner (flat_map escaped word)
inner_doubled [] = tt
inner_doubled (b ∷ word) = both (escaped b) (flat_map escaped word) (inner_escaped b) (inner_doubled word)

inner_by_tests : (word : List ℕ) (t u : Bool) → is_plain_word word ≡ t → list_all is_quotable word ≡ u → AllInner (cond t word (cond u (single_quoted word) (double_quoted word)))
inner_by_tests word true u h i = passing is_plain word inner_plain (both_right (nat_lt 0 (length word)) (list_all is_plain word) h)
inner_by_tests word false true h i =
    let quote = inner_number 39 (omega arith) in
    (quote, both word (39 ∷ []) (passing is_quotable word inner_quotable i) (quote, tt))
inner_by_tests word false false h i =
    let quote = inner_number 34 (omega arith) in
    (quote, both (flat_map escaped word) (34 ∷ []) (inner_doubled word) (quote, tt))

inner_word : (word : List ℕ) → AllInner (word_text word)
unfolding word_text
inner_word word = inner_by_tests word (is_plain_word word) (list_all is_quotable word) refl refl

pub inner_words : (words : List (List ℕ)) → AllInner (words_text words)
inner_words [] = tt
inner_words (word ∷ words) = (inner_number 32 (omega arith), both (word_text word) (words_text words) (inner_word word) (inner_words words))

inner_line : (words : List (List ℕ)) → AllInner (line_of words)
inner_line words =
    let space = inner_number 32 (omega arith) in
    (space, (space, (space, inner_words words)))

-- ---- lines

-- texts without line ends that stand in front of a line feed are the same, where all are
pub same_fronts : (text other rest more : List ℕ) → AllInner text → AllInner other → text ++ 10 ∷ rest ≡ other ++ 10 ∷ more → (text ≡ other) × (rest ≡ more)
same_fronts [] [] rest more h i e = (refl, ap (drop 1) e)
same_fronts [] (c ∷ other) rest more h i e = absurd (i.0.0 (sym (ap (λ l. get_or l 0 0) e)))
same_fronts (b ∷ text) [] rest more h i e = absurd (h.0.0 (ap (λ l. get_or l 0 0) e))
same_fronts (b ∷ text) (c ∷ other) rest more h i e =
    let front : b ≡ c = ap (λ l. get_or l 0 0) e in
    let behind = same_fronts text other rest more h.1 i.1 (ap (drop 1) e) in
    (ap (λ n. n ∷ text) front ∙ ap (λ l. c ∷ l) behind.0, behind.1)

no_feed : (text : List ℕ) → AllInner text → All (λ b. (b == 10) ≡ false) text
no_feed [] h k d within = absurd (omega arith)
no_feed (b ∷ text) h zero d within = ne_eqb b 10 h.0.0
no_feed (b ∷ text) h (suc k) d within = no_feed text h.1 k d (omega arith)

no_return : (text : List ℕ) (i : ℕ) → AllInner text → get_or text i 0 ≢ 13
no_return [] i h = λ e. omega (arith, e)
no_return (b ∷ text) zero h = h.0.1
no_return (b ∷ text) (suc i) h = no_return text i h.1

kept_end : (text : List ℕ) → AllInner text → strip_carriage_return text ≡ text
kept_end text h = ap (λ t. cond t (take (length text - 1) text) text) (ne_eqb (get_or text (length text - 1) 0) 13 (no_return text (length text - 1) h))

first_part : (text : List ℕ) (parts : List (List ℕ)) (n : ℕ) → length parts ≡ n + 1 → lines_of_parts (text ∷ parts) ≡ strip_carriage_return text ∷ lines_of_parts parts
first_part text [] n h = absurd (omega arith)
first_part text (part ∷ parts) n h = refl

-- a text without line ends is a line in front of a line feed
pub first_line : (text rest : List ℕ) → AllInner text → lines (text ++ 10 ∷ rest) ≡ text ∷ lines rest
first_line text rest h =
    let feed : ℕ → Bool = λ b. b == 10 in
    let parts = slice_split feed rest in
    ap lines_of_parts (slice_split_at feed text 10 rest (no_feed text h) refl)
    ∙ first_part text parts (count_by feed rest) (length-slice_split feed rest)
    ∙ ap (λ l. l ∷ lines_of_parts parts) (kept_end text h)

-- a line of the canonical text is read back
pub line_read : (words : List (List ℕ)) (rest : List ℕ) → lines (line_text words ++ rest) ≡ line_of words ∷ lines rest
line_read words rest = ap lines (append_assoc (line_of words) (10 ∷ []) rest) ∙ first_line (line_of words) rest (inner_line words)

-- a text that could be quoted is a line in front of a line feed
pub literal_line : (text rest : List ℕ) → list_all is_quotable text ≡ true → lines (text ++ 10 ∷ rest) ≡ text ∷ lines rest
literal_line text rest h = first_line text rest (passing is_quotable text inner_quotable h)
