-- Words as they are spelled, read item by item.
use Rattle.std.proofs.Common.{◌≡◌, ◌≢◌, ℕ, ◌+◌, ◌-◌, ◌*◌, ◌/◌, ◌%◌, ◌<◌, ◌≤◌, inl, inr, Bool, true, false, cond, List, [], ◌∷◌, ◌++◌, length, refl, sym, ap, ◌∙◌, subst, append_assoc, arith}
use Rattle.std.proofs.lemmas.Bool.{false≢true, cases_eq, le-ltb, and_parts}
use Rattle.std.proofs.lemmas.Bool.Decides.{nat_tests}
use Rattle.std.proofs.lemmas.List.{append-nil}
use Rattle.std.specs.Prelude.{◌==◌, ◌&&◌, ◌||◌, fold, Option, Some, None, option_to_list, nat_lt, is_ok, Result, Ok, Err}
use Rattle.std.specs.List.{list_all, flat_map}
use Rattle.cfg_lex.specs.declared.item.Quotes.{Quotes}
use Rattle.cfg_lex.specs.declared.item.Quotes.TheVariants.{Outside, Single, Double}
use Rattle.cfg_lex.specs.declared.item.Part.{Part}
use Rattle.cfg_lex.specs.declared.item.Part.TheVariants.{Gap, Quote, Byte}
use Rattle.cfg_lex.specs.declared.item.Item.{Item}
use Rattle.cfg_lex.specs.Items.{item_at, plain, behind_backslash, hex_escape, hex_of, by_digits}
use Rattle.cfg_lex.specs.Words.{parts_behind, Sofar, with_part, all_words, verdict, read_line, words_of}
use Rattle.cfg_lex.specs.declared.fault.LineFault.{LineFault}
use Rattle.cfg_lex.specs.declared.fault.LineFault.TheVariants as faults
use Rattle.cfg_laws.specs.Laws.Lines.{line_of}
use Rattle.cfg_print.specs.Words.{is_plain, is_control, is_quotable, is_plain_word, escaped, hex_digit, single_quoted, double_quoted, word_text, words_text, by_digits as spelled_by_digits}

-- ---- states

-- a word goes on behind whole ones
abbrev pub going : List (List ℕ) → List ℕ → Sofar
going whole word = record { whole = whole; begun = Some word; faulty = false }

-- no word goes on
abbrev pub apart : List (List ℕ) → Sofar
apart whole = record { whole = whole; begun = None; faulty = false }

-- what a line comes to from here on
abbrev pub read : Quotes → Sofar → List ℕ → Sofar
read quotes so_far line = fold with_part so_far (parts_behind 0 quotes line)

-- a part of one byte
abbrev pub one : Part → Quotes → Item
one part quotes = record { part = part; used = 1; quotes = quotes }

step : (quotes next : Quotes) (so_far : Sofar) (b : ℕ) (rest : List ℕ) (part : Part) → item_at quotes b rest ≡ one part next →
    read quotes so_far (b ∷ rest) ≡ read next (with_part so_far part) rest
step quotes next so_far b rest part h = ap (λ (item : Item). fold with_part so_far (item.part ∷ parts_behind (item.used - 1) item.quotes rest)) h

-- ---- bytes that stand for themselves

outside_item : (b : ℕ) (rest : List ℕ) → is_plain b ≡ true → item_at Outside b rest ≡ one (Byte b) Outside
unfolding item_at plain
outside_item b rest h = grind (arith, nat_tests)

single_item : (b : ℕ) (rest : List ℕ) → is_quotable b ≡ true → item_at Single b rest ≡ one (Byte b) Single
unfolding item_at plain
single_item b rest h = grind (arith, nat_tests)

single_end : (rest : List ℕ) → item_at Single 39 rest ≡ one Quote Outside
unfolding item_at
single_end rest = refl

double_item : (b : ℕ) (rest : List ℕ) → is_control b ≡ false → b ≢ 34 → b ≢ 36 → b ≢ 92 → item_at Double b rest ≡ one (Byte b) Double
unfolding item_at plain
double_item b rest text quote dollar slash = grind (arith, nat_tests)

-- ---- bytes by an escape

hex_of_digit : (n : ℕ) → n < 16 → hex_of (hex_digit n) ≡ Some n
hex_of_digit n h = grind (arith, nat_tests)

-- what stands between double quotes for a byte reads as that byte
abbrev IsByte : ℕ → List ℕ → Type 0
IsByte b text = (whole : List (List ℕ)) (word rest : List ℕ) → read Double (going whole word) (text ++ rest) ≡ read Double (going whole (word ++ b ∷ [])) rest

by_letter : (letter b : ℕ) → ((rest : List ℕ) → item_at Double 92 (letter ∷ rest) ≡ record { part = Byte b; used = 2; quotes = Double }) → IsByte b (92 ∷ letter ∷ [])
by_letter letter b h whole word rest = ap (λ (item : Item). fold with_part (going whole word) (item.part ∷ parts_behind (item.used - 1) item.quotes (letter ∷ rest))) (h rest)

digits_item : (b : ℕ) (rest : List ℕ) → b < 256 → item_at Double 92 (120 ∷ hex_digit (b / 16) ∷ hex_digit (b % 16) ∷ rest) ≡ record { part = Byte b; used = 4; quotes = Double }
unfolding item_at behind_backslash hex_escape
digits_item b rest h =
    let high = hex_of_digit (b / 16) (omega arith) in
    let low = hex_of_digit (b % 16) (omega arith) in
    let whole : 16 * (b / 16) + b % 16 ≡ b = omega arith in
    ap (λ x. by_digits Double x (hex_of (hex_digit (b % 16)))) high ∙ ap (λ x. by_digits Double (Some (b / 16)) x) low
    ∙ ap (λ (n : ℕ). record { part = Byte n; used = 4; quotes = Double }) whole

by_two_digits : (b : ℕ) → b < 256 → IsByte b (spelled_by_digits b)
by_two_digits b h whole word rest =
    ap (λ (item : Item). fold with_part (going whole word) (item.part ∷ parts_behind (item.used - 1) item.quotes (120 ∷ hex_digit (b / 16) ∷ hex_digit (b % 16) ∷ rest))) (digits_item b rest h)

by_itself : (b : ℕ) → is_control b ≡ false → b ≢ 34 → b ≢ 36 → b ≢ 92 → IsByte b (b ∷ [])
by_itself b text quote dollar slash whole word rest = step Double Double (going whole word) b rest (Byte b) (double_item b rest text quote dollar slash)

line_feed : IsByte 10 (92 ∷ 110 ∷ [])
unfolding item_at behind_backslash
line_feed = by_letter 110 10 (λ rest. refl)

carriage_return : IsByte 13 (92 ∷ 114 ∷ [])
unfolding item_at behind_backslash
carriage_return = by_letter 114 13 (λ rest. refl)

tab : IsByte 9 (92 ∷ 116 ∷ [])
unfolding item_at behind_backslash
tab = by_letter 116 9 (λ rest. refl)

quote : IsByte 34 (92 ∷ 34 ∷ [])
unfolding item_at behind_backslash
quote = by_letter 34 34 (λ rest. refl)

dollar : IsByte 36 (92 ∷ 36 ∷ [])
unfolding item_at behind_backslash
dollar = by_letter 36 36 (λ rest. refl)

backslash : IsByte 92 (92 ∷ 92 ∷ [])
unfolding item_at behind_backslash
backslash = by_letter 92 92 (λ rest. refl)

-- what is neither a line feed, a carriage return nor a tab
escaped_rest : (b : ℕ) → b ≢ 10 → b ≢ 13 → b ≢ 9 →
    escaped b ≡ cond (is_control b) (spelled_by_digits b) (cond (b == 34 || (b == 36 || b == 92)) (92 ∷ b ∷ []) (b ∷ []))
unfolding escaped
escaped_rest b x y z = grind (arith, nat_tests)

abbrev IsMarked : ℕ → Type 0
IsMarked b = IsByte b (cond (b == 34 || (b == 36 || b == 92)) (92 ∷ b ∷ []) (b ∷ []))

by_marks : (b : ℕ) (t : Bool) → is_control b ≡ t → IsByte b (cond t (spelled_by_digits b) (cond (b == 34 || (b == 36 || b == 92)) (92 ∷ b ∷ []) (b ∷ [])))
by_marks b true h = by_two_digits b (grind (arith, nat_tests))
by_marks b false h = elim (cases_eq b 34) [
  | inl e ↦ subst IsMarked (sym e) quote
  | inr x ↦ elim (cases_eq b 36) [
    | inl e ↦ subst IsMarked (sym e) dollar
    | inr y ↦ elim (cases_eq b 92) [
      | inl e ↦ subst IsMarked (sym e) backslash
      | inr z ↦
          let none : (b == 34 || (b == 36 || b == 92)) ≡ false = grind (arith, nat_tests) in
          let P : Bool → Type 0 = λ t. IsByte b (cond t (92 ∷ b ∷ []) (b ∷ [])) in
          subst P (sym none) (by_itself b h x y z)
    ]
  ]
]

-- a byte is read back
byte_back : (b : ℕ) → IsByte b (escaped b)
unfolding escaped
byte_back b = elim (cases_eq b 10) [
  | inl e ↦ subst (λ n. IsByte n (escaped n)) (sym e) line_feed
  | inr x ↦ elim (cases_eq b 13) [
    | inl e ↦ subst (λ n. IsByte n (escaped n)) (sym e) carriage_return
    | inr y ↦ elim (cases_eq b 9) [
      | inl e ↦ subst (λ n. IsByte n (escaped n)) (sym e) tab
      | inr z ↦ subst (IsByte b) (sym (escaped_rest b x y z)) (by_marks b (is_control b) refl)
    ]
  ]
]

-- ---- words

pub both_left : (a b : Bool) → (a && b) ≡ true → a ≡ true
both_left a b h = (and_parts a b h).0

pub both_right : (a b : Bool) → (a && b) ≡ true → b ≡ true
both_right a b h = (and_parts a b h).1

plain_bytes : (whole : List (List ℕ)) (word more rest : List ℕ) → list_all is_plain more ≡ true → read Outside (going whole word) (more ++ rest) ≡ read Outside (going whole (word ++ more)) rest
plain_bytes whole word [] rest h = ap (λ w. read Outside (going whole w) rest) (sym (append-nil word))
plain_bytes whole word (b ∷ more) rest h =
    step Outside Outside (going whole word) b (more ++ rest) (Byte b) (outside_item b (more ++ rest) (both_left (is_plain b) (list_all is_plain more) h))
    ∙ plain_bytes whole (word ++ b ∷ []) more rest (both_right (is_plain b) (list_all is_plain more) h)
    ∙ ap (λ w. read Outside (going whole w) rest) (append_assoc word (b ∷ []) more)

single_bytes : (whole : List (List ℕ)) (word more rest : List ℕ) → list_all is_quotable more ≡ true → read Single (going whole word) (more ++ 39 ∷ rest) ≡ read Outside (going whole (word ++ more)) rest
single_bytes whole word [] rest h = step Single Outside (going whole word) 39 rest Quote (single_end rest)
single_bytes whole word (b ∷ more) rest h =
    step Single Single (going whole word) b (more ++ 39 ∷ rest) (Byte b) (single_item b (more ++ 39 ∷ rest) (both_left (is_quotable b) (list_all is_quotable more) h))
    ∙ single_bytes whole (word ++ b ∷ []) more rest (both_right (is_quotable b) (list_all is_quotable more) h)
    ∙ ap (λ w. read Outside (going whole w) rest) (append_assoc word (b ∷ []) more)

double_end : (rest : List ℕ) → item_at Double 34 rest ≡ one Quote Outside
unfolding item_at
double_end rest = refl

double_bytes : (whole : List (List ℕ)) (word more rest : List ℕ) → read Double (going whole word) (flat_map escaped more ++ 34 ∷ rest) ≡ read Outside (going whole (word ++ more)) rest
double_bytes whole word [] rest = step Double Outside (going whole word) 34 rest Quote (double_end rest)
double_bytes whole word (b ∷ more) rest =
    ap (λ text. read Double (going whole word) text) (append_assoc (escaped b) (flat_map escaped more) (34 ∷ rest))
    ∙ byte_back b whole word (flat_map escaped more ++ 34 ∷ rest)
    ∙ double_bytes whole (word ++ b ∷ []) more rest
    ∙ ap (λ w. read Outside (going whole w) rest) (append_assoc word (b ∷ []) more)

-- what is spelled so reads as that word
abbrev IsWord : List ℕ → List ℕ → Type 0
IsWord word text = (whole : List (List ℕ)) (rest : List ℕ) → read Outside (apart whole) (text ++ rest) ≡ read Outside (going whole word) rest

open_single : (rest : List ℕ) → item_at Outside 39 rest ≡ one Quote Single
unfolding item_at
open_single rest = refl

open_double : (rest : List ℕ) → item_at Outside 34 rest ≡ one Quote Double
unfolding item_at
open_double rest = refl

plain_word : (word : List ℕ) → is_plain_word word ≡ true → IsWord word word
plain_word [] h whole rest = absurd (false≢true h)
plain_word (b ∷ more) h whole rest =
    let all = both_right (nat_lt 0 (length (b ∷ more))) (list_all is_plain (b ∷ more)) h in
    step Outside Outside (apart whole) b (more ++ rest) (Byte b) (outside_item b (more ++ rest) (both_left (is_plain b) (list_all is_plain more) all))
    ∙ plain_bytes whole (b ∷ []) more rest (both_right (is_plain b) (list_all is_plain more) all)

single_word : (word : List ℕ) → list_all is_quotable word ≡ true → IsWord word (single_quoted word)
single_word word h whole rest =
    step Outside Single (apart whole) 39 ((word ++ 39 ∷ []) ++ rest) Quote (open_single ((word ++ 39 ∷ []) ++ rest))
    ∙ ap (λ text. read Single (going whole []) text) (append_assoc word (39 ∷ []) rest)
    ∙ single_bytes whole [] word rest h

double_word : (word : List ℕ) → IsWord word (double_quoted word)
double_word word whole rest =
    step Outside Double (apart whole) 34 ((flat_map escaped word ++ 34 ∷ []) ++ rest) Quote (open_double ((flat_map escaped word ++ 34 ∷ []) ++ rest))
    ∙ ap (λ text. read Double (going whole []) text) (append_assoc (flat_map escaped word) (34 ∷ []) rest)
    ∙ double_bytes whole [] word rest

by_tests : (word : List ℕ) (t u : Bool) → is_plain_word word ≡ t → list_all is_quotable word ≡ u → IsWord word (cond t word (cond u (single_quoted word) (double_quoted word)))
by_tests word true u h i = plain_word word h
by_tests word false true h i = single_word word i
by_tests word false false h i = double_word word

-- a word is read back
word_back : (word : List ℕ) → IsWord word (word_text word)
unfolding word_text
word_back word = by_tests word (is_plain_word word) (list_all is_quotable word) refl refl

-- ---- lines

gap : (rest : List ℕ) → item_at Outside 32 rest ≡ one Gap Outside
unfolding item_at
gap rest = refl

-- without a fault so far
abbrev well : List (List ℕ) → Option (List ℕ) → Sofar
well whole begun = record { whole = whole; begun = begun; faulty = false }

-- a line comes to these words, and has no fault
abbrev ComesTo : Sofar → List (List ℕ) → Type 0
ComesTo so_far words = (all_words so_far ≡ words) × (so_far.faulty ≡ false)

words_back : (words whole : List (List ℕ)) (begun : Option (List ℕ)) → ComesTo (read Outside (well whole begun) (words_text words)) ((whole ++ option_to_list begun) ++ words)
words_back [] whole begun = (sym (append-nil (whole ++ option_to_list begun)), refl)
words_back (word ∷ words) whole begun =
    let before = whole ++ option_to_list begun in
    let front = step Outside Outside (well whole begun) 32 (word_text word ++ words_text words) Gap (gap (word_text word ++ words_text words)) ∙ word_back word before (words_text words) in
    let behind = words_back words before (Some word) in
    let P : Sofar → Type 0 = λ so_far. ComesTo so_far (before ++ word ∷ words) in
    subst P (sym front) (behind.0 ∙ append_assoc before (word ∷ []) words, behind.1)

-- words that are spelled alike are the same
pub same_words : (words others : List (List ℕ)) → words_text words ≡ words_text others → words ≡ others
same_words words others h =
    sym (words_back words [] None).0 ∙ ap (λ text. all_words (read Outside (well [] None) text)) h ∙ (words_back others [] None).0

spaces : (rest : List ℕ) → read Outside (apart []) (32 ∷ 32 ∷ 32 ∷ rest) ≡ read Outside (apart []) rest
unfolding item_at
spaces rest = refl

ok_verdict : (so_far : Sofar) (words : List (List ℕ)) → ComesTo so_far words → length words ≤ 64 → verdict so_far ≡ Ok words
unfolding verdict
ok_verdict so_far words h few =
    let short : nat_lt 64 (length (all_words so_far)) ≡ false = le-ltb 64 (length (all_words so_far)) (omega (arith, ap length h.0)) in
    ap (λ t. cond t (Err faults.Limit) (cond so_far.faulty (Err faults.Word) (Ok (all_words so_far)))) short
    ∙ ap (λ t. cond t (Err faults.Word) (Ok (all_words so_far))) h.1 ∙ ap Ok h.0

-- the words of a line are read back
pub line_back : (words : List (List ℕ)) → length (line_of words) ≤ 4096 → length words ≤ 64 → words_of (line_of words) ≡ Ok words
unfolding words_of
line_back words short few =
    let line = line_of words in
    let whole : ComesTo (read_line line) words = subst (λ so_far. ComesTo so_far words) (sym (spaces (words_text words))) (words_back words [] None) in
    ap (λ t. cond t (Err faults.Limit) (verdict (read_line line))) (le-ltb 4096 (length line) short) ∙ ok_verdict (read_line line) words whole few

-- what two tests let pass
passed_both : (long many : Bool) (words : List (List ℕ)) (first : LineFault) → is_ok (cond long (Err first) (cond many (Err faults.Limit) (Ok words))) ≡ true → cond long (Err first) (cond many (Err faults.Limit) (Ok words)) ≡ Ok words
passed_both true many words first h = absurd (false≢true h)
passed_both false true words first h = absurd (false≢true h)
passed_both false false words first h = refl

well_verdict : (so_far : Sofar) (words : List (List ℕ)) → ComesTo so_far words → verdict so_far ≡ cond (nat_lt 64 (length words)) (Err faults.Limit) (Ok words)
unfolding verdict
well_verdict so_far words h =
    ap (λ all. cond (nat_lt 64 (length all)) (Err faults.Limit) (cond so_far.faulty (Err faults.Word) (Ok all))) h.0
    ∙ ap (λ t. cond (nat_lt 64 (length words)) (Err faults.Limit) (cond t (Err faults.Word) (Ok words))) h.1

-- where a line has words, these are they
pub readable_line : (words : List (List ℕ)) → is_ok (words_of (line_of words)) ≡ true → words_of (line_of words) ≡ Ok words
unfolding words_of
readable_line words has =
    let line = line_of words in
    let whole : ComesTo (read_line line) words = subst (λ so_far. ComesTo so_far words) (sym (spaces (words_text words))) (words_back words [] None) in
    let is : cond (nat_lt 4096 (length line)) (Err faults.Limit) (verdict (read_line line)) ≡ cond (nat_lt 4096 (length line)) (Err faults.Limit) (cond (nat_lt 64 (length words)) (Err faults.Limit) (Ok words)) =
    ap (λ (v : Result (List (List ℕ)) LineFault). cond (nat_lt 4096 (length line)) (Err faults.Limit) v) (well_verdict (read_line line) words whole) in
    is ∙ passed_both (nat_lt 4096 (length line)) (nat_lt 64 (length words)) words faults.Limit (sym (ap is_ok is) ∙ has)
