-- The words and entries of a record that was written, read back.
use Rattle.std.proofs.Common.{◌≡◌, ℕ, ◌-◌, ◌<◌, ◌≤◌, ◌^◌, min, Bool, true, false, not, ◌&&◌, cond, List, [], ◌∷◌, ◌++◌, length, get_or, refl, sym, ap, ◌∙◌, arith, append_assoc, decimal, Some, None, Option}
use Rattle.std.specs.Prelude.{◌==◌, codes, option_map}
use Rattle.std.specs.Option.{option_and_then}
use Rattle.std.specs.List.{list_all}
use Rattle.std.specs.Char.{is_ascii_digit}
use Rattle.std.specs.Str.{bytes_eq, all_ascii_digits}
use Rattle.std.specs.Str.Parse.{digits_value}
use Rattle.std.proofs.lemmas.Fmt.{digits_decimal, digits_value-decimal, decimal_nonempty}
use Rattle.std.proofs.lemmas.Bool.{leb-true, ne_eqb}
use Rattle.std.proofs.Math.Seq.{take-append_seam, drop-append_seam}
use Rattle.http_model.specs.declared.Ending.{Ending}
use Rattle.http_model.specs.declared.Ending.TheVariants.{Closed, Broke}
use Rattle.session_model.specs.Stream.{Stream}
use Rattle.rec_format.specs.Pieces.{before, behind, begins_number, number_of, behind_lf, with_bytes, counted}
use Rattle.rec_format.specs.Entries.{ServerEntry, ending_of, takes_of, stream_of, client_entry, served, server_entry}
use Rattle.rec_format.specs.Written.{ending_word, takes_word, client_text, server_text, IsSmallServer}
use Rattle.rec_format.proofs.Digits.{own, both, and_true, each_digit, no_zero}

-- ---- words

-- no byte of the word is this one
abbrev pub free : ℕ → List ℕ → Bool
free b [] = true
free b (x ∷ w) = cond (x == b) false (free b w)

pub before_word : (b : ℕ) (w rest : List ℕ) → (b == b) ≡ true → free b w ≡ true → before b (w ++ b ∷ rest) ≡ w
before_word b [] rest same none = ap (λ (t : Bool). cond t [] (b ∷ before b rest)) same
before_word b (x ∷ w) rest same none = by (x == b) none (λ f. before_word b w rest same f)
  where
    by : (t : Bool) → cond t false (free b w) ≡ true → (free b w ≡ true → before b (w ++ b ∷ rest) ≡ w) → cond t [] (x ∷ before b (w ++ b ∷ rest)) ≡ x ∷ w
    by true none next = absurd (let clash : false ≡ true = none in cc clash)
    by false none next = ap (λ (l : List ℕ). x ∷ l) (next none)

pub behind_word : (b : ℕ) (w rest : List ℕ) → (b == b) ≡ true → free b w ≡ true → behind b (w ++ b ∷ rest) ≡ Some rest
behind_word b [] rest same none = ap (λ (t : Bool). cond t (Some rest) (behind b rest)) same
behind_word b (x ∷ w) rest same none = by (x == b) none (λ f. behind_word b w rest same f)
  where
    by : (t : Bool) → cond t false (free b w) ≡ true → (free b w ≡ true → behind b (w ++ b ∷ rest) ≡ Some rest) → cond t (Some (w ++ b ∷ rest)) (behind b (w ++ b ∷ rest)) ≡ Some rest
    by true none next = absurd (let clash : false ≡ true = none in cc clash)
    by false none next = next none

pub free_both : (b : ℕ) (u v : List ℕ) → free b u ≡ true → free b v ≡ true → free b (u ++ v) ≡ true
free_both b [] v f g = g
free_both b (x ∷ u) v f g = by (x == b) f (λ h. free_both b u v h g)
  where
    by : (t : Bool) → cond t false (free b u) ≡ true → (free b u ≡ true → free b (u ++ v) ≡ true) → cond t false (free b (u ++ v)) ≡ true
    by true f next = f
    by false f next = next f

-- ---- numbers

digit_free : (b : ℕ) (w : List ℕ) → b < 48 → all_ascii_digits w ≡ true → free b w ≡ true
digit_free b [] low all = refl
digit_free b (x ∷ w) low all =
    let parts = both (is_ascii_digit x) (all_ascii_digits w) all in
    let bounds = both _ _ parts.0 in
    let least : 48 ≤ x = leb-true 48 x bounds.0 in
    ap (λ (t : Bool). cond t false (free b w)) (ne_eqb x b (λ e. omega (arith, e))) ∙ digit_free b w low parts.1

pub number_free : (b n : ℕ) → b < 48 → n < 2 ^ 64 → free b (decimal n) ≡ true
number_free b n low fits = digit_free b (decimal n) low (digits_decimal own n fits)

begins : (w : List ℕ) → 0 < length w → (get_or w 0 0 ≡ 48 → length w ≡ 1) → begins_number w ≡ true
begins [] some one = absurd (omega arith)
begins (d ∷ []) some one = refl
begins (d ∷ e ∷ w) some one = ap not (ne_eqb d 48 (λ is. omega (arith, one is)))

pub number_back : (n : ℕ) → n < 2 ^ 64 → number_of (decimal n) ≡ Some n
number_back n fits =
    let front = begins (decimal n) (decimal_nonempty n fits) (no_zero n fits) in
    let all = each_digit (decimal n) ∙ digits_decimal own n fits in
    let value : digits_value 10 (decimal n) ≡ n = digits_value-decimal own n fits in
    let least : min (digits_value 10 (decimal n)) (2 ^ 64 - 1) ≡ n = omega (arith, value) in
    ap (λ (t : Bool). cond t (Some (min (digits_value 10 (decimal n)) (2 ^ 64 - 1))) None) (and_true (begins_number (decimal n)) (list_all is_ascii_digit (decimal n)) front all) ∙ ap Some least

-- a number is no other word
other_word : (w : List ℕ) (y : ℕ) (ys : List ℕ) → 57 < y → 0 < length w → all_ascii_digits w ≡ true → bytes_eq w (y ∷ ys) ≡ false
other_word [] y ys high some all = absurd (omega arith)
other_word (x ∷ w) y ys high some all =
    let parts = both (is_ascii_digit x) (all_ascii_digits w) all in
    let bounds = both _ _ parts.0 in
    let most : x ≤ 57 = leb-true x 57 bounds.1 in
    ap (λ (t : Bool). t && bytes_eq w ys) (ne_eqb x y (λ e. omega (arith, e)))

pub number_other : (n y : ℕ) (ys more : List ℕ) → n < 2 ^ 64 → 57 < y → bytes_eq (decimal n ++ more) (y ∷ ys) ≡ false
number_other n y ys more fits high = by (decimal n) (decimal_nonempty n fits) (digits_decimal own n fits)
  where
    by : (w : List ℕ) → 0 < length w → all_ascii_digits w ≡ true → bytes_eq (w ++ more) (y ∷ ys) ≡ false
    by [] some all = absurd (omega arith)
    by (x ∷ w) some all =
        let parts = both (is_ascii_digit x) (all_ascii_digits w) all in
        let bounds = both _ _ parts.0 in
        let most : x ≤ 57 = leb-true x 57 bounds.1 in
        ap (λ (t : Bool). t && bytes_eq (w ++ more) ys) (ne_eqb x y (λ e. omega (arith, e)))

-- ---- streams

ending_back : (e : Ending) → ending_of (ending_word e) ≡ Some e
ending_back Closed = refl
ending_back Broke = refl

ending_free : (e : Ending) → (free 32 (ending_word e) ≡ true) × (free 10 (ending_word e) ≡ true)
ending_free Closed = (refl, refl)
ending_free Broke = (refl, refl)

counted_back : (bytes rest : List ℕ) → counted (length bytes) (bytes ++ 10 ∷ rest) ≡ Some (bytes, rest)
counted_back bytes rest = λ i. with_bytes (take-append_seam bytes (10 ∷ rest) i) (behind_lf (drop-append_seam bytes (10 ∷ rest) i))

abbrev by_ending : ℕ → List ℕ → Ending → Option (Stream × List ℕ)
by_ending n text ending = option_map (λ parts. (record { bytes = parts.0; ending = ending }, parts.1)) (counted n text)

abbrev by_number : List ℕ → List ℕ → ℕ → Option (Stream × List ℕ)
by_number word text n = option_and_then (by_ending n text) (ending_of word)

stream_back : (s : Stream) (rest : List ℕ) → length s.bytes < 2 ^ 64 → stream_of (decimal (length s.bytes)) (ending_word s.ending) (s.bytes ++ 10 ∷ rest) ≡ Some (s, rest)
stream_back s rest fits =
    let text : List ℕ = s.bytes ++ 10 ∷ rest in
    ap (option_and_then (by_number (ending_word s.ending) text)) (number_back (length s.bytes) fits)
    ∙ ap (option_and_then (by_ending (length s.bytes) text)) (ending_back s.ending)
    ∙ ap (option_map (λ (parts : List ℕ × List ℕ). (record { bytes = parts.0; ending = s.ending }, parts.1))) (counted_back s.bytes rest)

-- a line of words and bytes behind it, taken apart
two_words : (d e b rest : List ℕ) → (d ++ 32 ∷ (e ++ 10 ∷ (b ++ 10 ∷ []))) ++ rest ≡ (d ++ 32 ∷ e) ++ 10 ∷ (b ++ 10 ∷ rest)
two_words d e b rest =
    append_assoc d (32 ∷ (e ++ 10 ∷ (b ++ 10 ∷ []))) rest
    ∙ ap (λ (l : List ℕ). d ++ 32 ∷ l) (append_assoc e (10 ∷ (b ++ 10 ∷ [])) rest ∙ ap (λ (l : List ℕ). e ++ 10 ∷ l) (append_assoc b (10 ∷ []) rest))
    ∙ sym (append_assoc d (32 ∷ e) (10 ∷ (b ++ 10 ∷ rest)))

three_words : (d e t b rest : List ℕ) → (d ++ 32 ∷ (e ++ 32 ∷ (t ++ 10 ∷ (b ++ 10 ∷ [])))) ++ rest ≡ (d ++ 32 ∷ (e ++ 32 ∷ t)) ++ 10 ∷ (b ++ 10 ∷ rest)
three_words d e t b rest =
    append_assoc d (32 ∷ (e ++ 32 ∷ (t ++ 10 ∷ (b ++ 10 ∷ [])))) rest
    ∙ ap (λ (l : List ℕ). d ++ 32 ∷ l) (two_words e t b rest)
    ∙ sym (append_assoc d (32 ∷ (e ++ 32 ∷ t)) (10 ∷ (b ++ 10 ∷ rest)))

pub client_back : (s : Stream) (rest : List ℕ) → length s.bytes < 2 ^ 64 → client_entry (before 10 (client_text s ++ rest)) (behind 10 (client_text s ++ rest)) ≡ Some (s, rest)
client_back s rest fits =
    let d = decimal (length s.bytes) in
    let e = ending_word s.ending in
    let after : List ℕ = s.bytes ++ 10 ∷ rest in
    let line : List ℕ = codes "client " ++ (d ++ 32 ∷ e) in
    let text : client_text s ++ rest ≡ line ++ 10 ∷ after = ap (λ (l : List ℕ). codes "client " ++ l) (two_words d e s.bytes rest) in
    let whole : free 10 line ≡ true = free_both 10 d (32 ∷ e) (number_free 10 (length s.bytes) (omega arith) fits) (ending_free s.ending).1 in
    let one : free 32 d ≡ true = number_free 32 (length s.bytes) (omega arith) fits in
    (λ i. client_entry (before 10 (text i)) (behind 10 (text i)))
    ∙ (λ i. client_entry (before_word 10 line after refl whole i) (behind_word 10 line after refl whole i))
    ∙ (λ i. option_and_then (λ (word : List ℕ). stream_of (before_word 32 d e refl one i) word after) (behind_word 32 d e refl one i))
    ∙ stream_back s rest fits

takes_back : (t : Option ℕ) (s : Stream) → IsSmallServer (Some (record { stream = s; takes = t })) → takes_of (takes_word t) ≡ Some t
takes_back None s small = refl
takes_back (Some n) s small =
    ap (λ (b : Bool). cond b (Some None) (option_map (λ n. Some n) (number_of (decimal n)))) (other_word (decimal n) 97 (codes "ll") (omega arith) (decimal_nonempty n small.1) (digits_decimal own n small.1))
    ∙ ap (option_map (λ (n : ℕ). Some n)) (number_back n small.1)

takes_free : (t : Option ℕ) (s : Stream) → IsSmallServer (Some (record { stream = s; takes = t })) → free 10 (takes_word t) ≡ true
takes_free None s small = refl
takes_free (Some n) s small = number_free 10 n (omega arith) small.1

served_back : (s : ServerEntry) (rest : List ℕ) → IsSmallServer (Some s) → served (decimal (length s.stream.bytes) ++ 32 ∷ (ending_word s.stream.ending ++ 32 ∷ takes_word s.takes)) (s.stream.bytes ++ 10 ∷ rest) ≡ Some (Some s, rest)
served_back s rest small =
    let d = decimal (length s.stream.bytes) in
    let e = ending_word s.stream.ending in
    let t = takes_word s.takes in
    let text : List ℕ = s.stream.bytes ++ 10 ∷ rest in
    let one : free 32 d ≡ true = number_free 32 (length s.stream.bytes) (omega arith) small.0 in
    let two : free 32 e ≡ true = (ending_free s.stream.ending).0 in
    let more : List ℕ = e ++ 32 ∷ t in
    (λ i. option_and_then (λ (m : List ℕ). option_and_then (λ (last : List ℕ). option_and_then (λ (takes : Option ℕ). option_map (λ parts. (Some (record { stream = parts.0; takes = takes }), parts.1)) (stream_of (before_word 32 d more refl one i) (before 32 m) text)) (takes_of last)) (behind 32 m)) (behind_word 32 d more refl one i))
    ∙ (λ i. option_and_then (λ (last : List ℕ). option_and_then (λ (takes : Option ℕ). option_map (λ parts. (Some (record { stream = parts.0; takes = takes }), parts.1)) (stream_of d (before_word 32 e t refl two i) text)) (takes_of last)) (behind_word 32 e t refl two i))
    ∙ (λ i. option_and_then (λ (takes : Option ℕ). option_map (λ parts. (Some (record { stream = parts.0; takes = takes }), parts.1)) (stream_of d e text)) (takes_back s.takes s.stream small i))
    ∙ ap (option_map (λ (parts : Stream × List ℕ). (Some (record { stream = parts.0; takes = s.takes }), parts.1))) (stream_back s.stream rest small.0)

pub server_back : (s : Option ServerEntry) (rest : List ℕ) → IsSmallServer s → server_entry (before 10 (server_text s ++ rest)) (behind 10 (server_text s ++ rest)) ≡ Some (s, rest)
server_back None rest small = refl
server_back (Some s) rest small =
    let d = decimal (length s.stream.bytes) in
    let e = ending_word s.stream.ending in
    let t = takes_word s.takes in
    let after : List ℕ = s.stream.bytes ++ 10 ∷ rest in
    let words : List ℕ = d ++ 32 ∷ (e ++ 32 ∷ t) in
    let line : List ℕ = codes "server " ++ words in
    let text : server_text (Some s) ++ rest ≡ line ++ 10 ∷ after = ap (λ (l : List ℕ). codes "server " ++ l) (three_words d e t s.stream.bytes rest) in
    let whole : free 10 line ≡ true = free_both 10 d (32 ∷ (e ++ 32 ∷ t)) (number_free 10 (length s.stream.bytes) (omega arith) small.0) (free_both 10 e (32 ∷ t) (ending_free s.stream.ending).1 (takes_free s.takes s.stream small)) in
    (λ i. server_entry (before 10 (text i)) (behind 10 (text i)))
    ∙ (λ i. server_entry (before_word 10 line after refl whole i) (behind_word 10 line after refl whole i))
    ∙ ap (λ (b : Bool). cond b (Some (None, after)) (served words after)) (number_other (length s.stream.bytes) 114 (codes "efused") (32 ∷ (e ++ 32 ∷ t)) small.0 (omega arith))
    ∙ served_back s rest small
