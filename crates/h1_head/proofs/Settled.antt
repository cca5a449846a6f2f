-- Whether a text begins with a piece of the grammar is known.
use Rattle.std.proofs.Common.{◌≡◌, ◌≢◌, ℕ, zero, suc, ◌<◌, ◌≤◌, ◌⊎◌, inl, inr, Bool, true, false, List, [], ◌∷◌, ◌++◌, length, refl, sym, ap, ◌∙◌, subst, arith, append_assoc, append-nil, length-append}
use Rattle.std.specs.Prelude.{Option, Some, None, ⊤}
use Rattle.std.specs.Char.{is_ascii_digit}
use Rattle.std.specs.List.{flat_map}
use Rattle.std.specs.Str.{IsUtf8, is_utf8}
use Rattle.std.proofs.lemmas.Bool.{cases_Bool}
use Rattle.std.proofs.lemmas.Bool.Decides.{eqb_tells}
use Rattle.std.proofs.lemmas.List.Elements.{All-head, All-tail, All-cons, All-nil}
use Rattle.std.proofs.lemmas.Str.{IsUtf8-from_is_utf8, is_utf8-from_IsUtf8}
use Rattle.httparse.specs.Grammar.{LineEnd, crlf, lf, print_end, print_version, Field, print_field, IsField, AllPass, is_uri_byte, is_value_byte, is_token_byte, print_reason, reason_phrase}
use Rattle.httparse.specs.Pieces.{Piece, Begins, Then, Stops, Bytes, Newline, Word, Method, Target, Version, Digit, Code, Text, Reason, FieldLine, FieldLines, Section}
use Rattle.httparse.proofs.PieceLemmas.{IsDeterministic, Bytes_deterministic, Word_deterministic, Digit_deterministic, Name_deterministic, print_field-append, Section_skip, Section_line, Stops_value, space_ends_token, colon_ends_token}

-- it is known whether the text begins with the piece
abbrev pub Settled : {A : Type 0} → Piece A → List ℕ → Type 0
Settled {A} G text = Begins G text ⊎ (¬ (Begins G text))

-- ---- pieces in a row, and pieces of which more is asked

pub then_settled : {A B : Type 0} (G : Piece A) (H : Piece B) → IsDeterministic G → ((text : List ℕ) → Settled G text) → ((text : List ℕ) → Settled H text)
    → (text : List ℕ) → Settled (Then G H) text
then_settled {A} {B} G H det g h text = by_first (g text)
  where
    behind : (a : A) (middle : List ℕ) → G a text middle → Settled H middle → Settled (Then G H) text
    behind a middle x (inl b) = inl ((a, b.0), b.1, (middle, x, b.2))
    behind a middle x (inr none) =
        inr (λ t. none (t.0.1, t.1, subst (λ (m : List ℕ). H t.0.1 m t.1) (det.unique t.0.0 a text t.2.0 middle t.2.1 x).1 t.2.2))

    by_first : Settled G text → Settled (Then G H) text
    by_first (inl b) = behind b.0 b.1 b.2 (h b.1)
    by_first (inr none) = inr (λ t. none (t.0.0, t.2.0, t.2.1))

-- the piece, of a tree of which P holds
abbrev Where : {A : Type 0} → Piece A → (A → Type 0) → Piece A
Where G P a text rest = G a text rest × P a

where_settled : {A : Type 0} (G : Piece A) (P : A → Type 0) → IsDeterministic G → ((a : A) → P a ⊎ (¬ (P a))) → (text : List ℕ) → Settled G text → Settled (Where G P) text
where_settled {A} G P det p text (inl b) = by (p b.0)
  where
    by : P b.0 ⊎ (¬ (P b.0)) → Settled (Where G P) text
    by (inl so) = inl (b.0, b.1, (b.2, so))
    by (inr other) = inr (λ t. other (subst P (det.unique t.0 b.0 text t.1 b.1 t.2.0 b.2).0 t.2.1))
where_settled {A} G P det p text (inr none) = inr (λ t. none (t.0, t.1, t.2.0))

-- ---- line ends and literal bytes

newline_at_feed : (c : ℕ) (text : List ℕ) → c ≢ 10 → ¬ (Begins Newline (13 ∷ c ∷ text))
newline_at_feed c text other t = no t.0 t.1 t.2
  where
    no : (end : LineEnd) (rest : List ℕ) → 13 ∷ c ∷ text ≡ print_end end ++ rest → ⊥
    no crlf rest e = other (cc)
    no lf rest e = cc

newline_other : (b : ℕ) (text : List ℕ) → b ≢ 10 → b ≢ 13 → ¬ (Begins Newline (b ∷ text))
newline_other b text feed cr t = no t.0 t.1 t.2
  where
    no : (end : LineEnd) (rest : List ℕ) → b ∷ text ≡ print_end end ++ rest → ⊥
    no crlf rest e = cr (cc)
    no lf rest e = feed (cc)

newline_nothing : ¬ (Begins Newline [])
newline_nothing t = no t.0 t.1 t.2
  where
    no : (end : LineEnd) (rest : List ℕ) → [] ≡ print_end end ++ rest → ⊥
    no crlf rest e = cc
    no lf rest e = cc

newline_return : (text : List ℕ) → Settled Newline (13 ∷ text)
newline_return [] = inr (λ t. no t.0 t.1 t.2)
  where
    no : (end : LineEnd) (rest : List ℕ) → 13 ∷ [] ≡ print_end end ++ rest → ⊥
    no crlf rest e = cc
    no lf rest e = cc
newline_return (c ∷ text) =
    elim (eqb_tells c 10) [
      | inl feed ↦ inl (crlf, text, ap (λ (x : ℕ). 13 ∷ x ∷ text) feed.1)
      | inr other ↦ inr (newline_at_feed c text other.1)
    ]

pub newline : (text : List ℕ) → Settled Newline text
newline [] = inr newline_nothing
newline (b ∷ text) =
    elim (eqb_tells b 10) [
      | inl feed ↦ inl (lf, text, ap (λ (x : ℕ). x ∷ text) feed.1)
      | inr other ↦ elim (eqb_tells b 13) [
        | inl cr ↦ subst (λ (x : ℕ). Settled Newline (x ∷ text)) (sym cr.1) (newline_return text)
        | inr neither ↦ inr (newline_other b text other.1 neither.1)
      ]
    ]

bytes_by : (x b : ℕ) (xs text : List ℕ) → b ≡ x → Settled (Bytes xs) text → Settled (Bytes (x ∷ xs)) (b ∷ text)
bytes_by x b xs text is (inl t) = inl (tt, t.1, let e = t.2 in cc)
bytes_by x b xs text is (inr none) = inr (λ t. none (tt, t.1, let e = t.2 in cc))

pub bytes : (xs text : List ℕ) → Settled (Bytes xs) text
bytes [] text = inl (tt, text, refl)
bytes (x ∷ xs) [] = inr (λ t. let e = t.2 in cc)
bytes (x ∷ xs) (b ∷ text) =
    elim (eqb_tells b x) [
      | inl same ↦ bytes_by x b xs text same.1 (bytes xs text)
      | inr other ↦ inr (λ t. other.1 (let e = t.2 in cc))
    ]

pub version : (text : List ℕ) → Settled Version text
version text = by (bytes (print_version 0) text) (bytes (print_version 1) text)
  where
    by : Settled (Bytes (print_version 0)) text → Settled (Bytes (print_version 1)) text → Settled Version text
    by (inl t) other = inl (0, t.1, (omega arith, t.2))
    by (inr n) (inl t) = inl (1, t.1, (omega arith, t.2))
    by (inr n) (inr m) = inr (λ t. no t.0 t.1 t.2.0 t.2.1)
      where
        no : (minor : ℕ) (rest : List ℕ) → minor ≤ 1 → text ≡ print_version minor ++ rest → ⊥
        no zero rest small e = n (tt, rest, e)
        no (suc zero) rest small e = m (tt, rest, e)
        no (suc (suc k)) rest small e = omega (arith, small)

-- ---- words

-- bytes that pass the test, and the byte stop
abbrev Upto : (ℕ → Bool) → ℕ → Piece (List ℕ)
Upto test stop word text rest = AllPass test word × (text ≡ word ++ stop ∷ rest)

upto_on : (test : ℕ → Bool) (stop b : ℕ) (text : List ℕ) → b ≢ stop → test b ≡ true → Settled (Upto test stop) text → Settled (Upto test stop) (b ∷ text)
upto_on test stop b text other passes (inl t) = inl (b ∷ t.0, t.1, (All-cons (λ v. test v ≡ true) b t.0 passes t.2.0, ap (λ (xs : List ℕ). b ∷ xs) t.2.1))
upto_on test stop b text other passes (inr none) = inr (λ t. no t.0 t.1 t.2.0 t.2.1)
  where
    no : (word rest : List ℕ) → AllPass test word → b ∷ text ≡ word ++ stop ∷ rest → ⊥
    no [] rest all e = other (cc)
    no (c ∷ word) rest all e = let tail : text ≡ word ++ stop ∷ rest = cc in none (word, rest, (All-tail (λ v. test v ≡ true) c word all, tail))

upto_never : (test : ℕ → Bool) (stop b : ℕ) (text : List ℕ) → b ≢ stop → test b ≡ false → ¬ (Begins (Upto test stop) (b ∷ text))
upto_never test stop b text other stops t = no t.0 t.1 t.2.0 t.2.1
  where
    no : (word rest : List ℕ) → AllPass test word → b ∷ text ≡ word ++ stop ∷ rest → ⊥
    no [] rest all e = other (cc)
    no (c ∷ word) rest all e = let passes = All-head (λ v. test v ≡ true) c word all in cc

upto_nothing : (test : ℕ → Bool) (stop : ℕ) → ¬ (Begins (Upto test stop) [])
upto_nothing test stop t = no t.0 t.1 t.2.1
  where
    no : (word rest : List ℕ) → [] ≡ word ++ stop ∷ rest → ⊥
    no [] rest e = cc
    no (c ∷ word) rest e = cc

upto : (test : ℕ → Bool) (stop : ℕ) (text : List ℕ) → Settled (Upto test stop) text
upto test stop [] = inr (upto_nothing test stop)
upto test stop (b ∷ text) =
    elim (eqb_tells b stop) [
      | inl same ↦ inl ([], text, (All-nil (λ v. test v ≡ true), ap (λ (x : ℕ). x ∷ text) same.1))
      | inr other ↦ elim (cases_Bool (test b)) [
        | inl passes ↦ upto_on test stop b text other.1 passes (upto test stop text)
        | inr stops ↦ inr (upto_never test stop b text other.1 stops)
      ]
    ]

pub word : (test : ℕ → Bool) (stop : ℕ) → test stop ≡ false → (text : List ℕ) → Settled (Word test stop) text
word test stop fails text = by (upto test stop text)
  where
    no : (w rest left : List ℕ) → 0 < length w → AllPass test w → stop ∷ left ≡ w ++ stop ∷ rest → ⊥
    no [] rest left some all e = omega (arith, some)
    no (c ∷ w) rest left some all e = let passes = All-head (λ v. test v ≡ true) c w all in let clash : test c ≡ false = subst (λ (x : ℕ). test x ≡ false) (head_is e) fails in cc
      where
        head_is : stop ∷ left ≡ c ∷ (w ++ stop ∷ rest) → stop ≡ c
        head_is e = cc

    some : (w rest : List ℕ) → AllPass test w → text ≡ w ++ stop ∷ rest → Settled (Word test stop) text
    some [] rest all e = inr (λ t. no t.0 t.1 rest t.2.0 t.2.1 (sym e ∙ t.2.2))
    some (b ∷ w) rest all e = inl (b ∷ w, rest, (omega arith, all, e))

    by : Settled (Upto test stop) text → Settled (Word test stop) text
    by (inl t) = some t.0 t.1 t.2.0 t.2.1
    by (inr none) = inr (λ t. none (t.0, t.1, (t.2.1, t.2.2)))

utf8_settled : (text : List ℕ) → IsUtf8 text ⊎ (¬ (IsUtf8 text))
utf8_settled text =
    elim (cases_Bool (is_utf8 text)) [
      | inl is ↦ inl (IsUtf8-from_is_utf8 text is)
      | inr other ↦ inr (λ is. let so = is_utf8-from_IsUtf8 text is in let clash : true ≡ false = sym so ∙ other in cc)
    ]

pub method : (text : List ℕ) → Settled Method text
method = word is_token_byte 32 space_ends_token

pub target : (text : List ℕ) → Settled Target text
target text = where_settled (Word is_uri_byte 32) IsUtf8 (Word_deterministic is_uri_byte 32 refl) utf8_settled text (word is_uri_byte 32 refl text)

-- ---- digits

digit : (text : List ℕ) → Settled Digit text
digit [] = inr (λ t. let e = t.2.1 in cc)
digit (b ∷ text) =
    elim (cases_Bool (is_ascii_digit b)) [
      | inl passes ↦ inl (b, text, (passes, refl))
      | inr stops ↦ inr (λ t. no t.0 t.1 t.2.0 t.2.1 stops)
    ]
  where
    no : (d : ℕ) (rest : List ℕ) → is_ascii_digit d ≡ true → b ∷ text ≡ d ∷ rest → is_ascii_digit b ≡ false → ⊥
    no d rest passes e stops =
        let same : b ≡ d = cc in
        let clash : true ≡ false = sym passes ∙ subst (λ (x : ℕ). is_ascii_digit x ≡ false) same stops in cc

pub code : (text : List ℕ) → Settled Code text
code = then_settled Digit (Then Digit Digit) Digit_deterministic digit (then_settled Digit Digit Digit_deterministic digit digit)

-- ---- values and reasons

text_on : (b : ℕ) (text : List ℕ) → is_value_byte b ≡ true → Settled Text text → Settled Text (b ∷ text)
text_on b text passes (inl t) = inl ((b ∷ t.0.0, t.0.1), t.1, (All-cons (λ v. is_value_byte v ≡ true) b t.0.0 passes t.2.0, ap (λ (xs : List ℕ). b ∷ xs) t.2.1))
text_on b text passes (inr none) = inr (λ t. no t.0.0 t.0.1 t.1 t.2.0 t.2.1)
  where
    no : (w : List ℕ) (end : LineEnd) (rest : List ℕ) → AllPass is_value_byte w → b ∷ text ≡ w ++ (print_end end ++ rest) → ⊥
    no [] end rest all e = let stops : is_value_byte b ≡ false = subst (Stops is_value_byte) (sym e) (Stops_value end rest) in let clash : true ≡ false = sym passes ∙ stops in cc
    no (c ∷ w) end rest all e = let tail : text ≡ w ++ (print_end end ++ rest) = cc in none ((w, end), rest, (All-tail (λ v. is_value_byte v ≡ true) c w all, tail))

text_ends : (text : List ℕ) → (text ≡ []) ⊎ Stops is_value_byte text → Settled Newline text → Settled Text text
text_ends text stops (inl t) = inl (([], t.0), t.1, (All-nil (λ v. is_value_byte v ≡ true), t.2))
text_ends text stops (inr none) = inr (λ t. no t.0.0 t.0.1 t.1 t.2.0 t.2.1)
  where
    first : (b : ℕ) (w more : List ℕ) → AllPass is_value_byte (b ∷ w) → text ≡ b ∷ more → (text ≡ []) ⊎ Stops is_value_byte text → ⊥
    first b w more all e (inl nothing) = let clash : [] ≡ b ∷ more = sym nothing ∙ e in cc
    first b w more all e (inr s) =
        let fails : is_value_byte b ≡ false = subst (Stops is_value_byte) e s in
        let passes : is_value_byte b ≡ true = All-head (λ v. is_value_byte v ≡ true) b w all in
        let clash : true ≡ false = sym passes ∙ fails in cc

    no : (w : List ℕ) (end : LineEnd) (rest : List ℕ) → AllPass is_value_byte w → text ≡ w ++ (print_end end ++ rest) → ⊥
    no [] end rest all e = none (end, rest, e)
    no (c ∷ w) end rest all e = first c w (w ++ (print_end end ++ rest)) all e stops

value_text : (text : List ℕ) → Settled Text text
value_text [] = text_ends [] (inl refl) (newline [])
value_text (b ∷ text) =
    elim (cases_Bool (is_value_byte b)) [
      | inl passes ↦ text_on b text passes (value_text text)
      | inr stops ↦ text_ends (b ∷ text) (inr stops) (newline (b ∷ text))
    ]

-- a space and a text
abbrev Spaced : Piece (⊤ × (List ℕ × LineEnd))
Spaced = Then (Bytes (32 ∷ [])) Text

spaced : (text : List ℕ) → Settled Spaced text
spaced = then_settled (Bytes (32 ∷ [])) Text (Bytes_deterministic (32 ∷ [])) (bytes (32 ∷ [])) value_text

pub reason : (text : List ℕ) → Settled Reason text
reason text = by (newline text) (spaced text)
  where
    by : Settled Newline text → Settled Spaced text → Settled Reason text
    by (inl t) other = inl ((None, t.0), t.1, (All-nil (λ v. is_value_byte v ≡ true), t.2))
    by (inr n) (inl t) = inl ((Some t.0.1.0, t.0.1.1), t.1, (t.2.2.0, t.2.1 ∙ ap (λ (xs : List ℕ). 32 ∷ xs) t.2.2.1))
    by (inr n) (inr m) = inr (λ t. no t.0.0 t.0.1 t.1 t.2.0 t.2.1)
      where
        no : (phrase : Option (List ℕ)) (end : LineEnd) (rest : List ℕ) → AllPass is_value_byte (reason_phrase phrase) → text ≡ print_reason phrase ++ (print_end end ++ rest) → ⊥
        no None end rest all e = n (end, rest, e)
        no (Some w) end rest all e = m ((tt, (w, end)), rest, (w ++ (print_end end ++ rest), e, (all, refl)))

-- ---- field lines and sections

abbrev NameAndText : Piece (List ℕ × (List ℕ × LineEnd))
NameAndText = Then (Word is_token_byte 58) Text

name_and_text : (text : List ℕ) → Settled NameAndText text
name_and_text = then_settled (Word is_token_byte 58) Text Name_deterministic (word is_token_byte 58 colon_ends_token) value_text

field_line : (text : List ℕ) → Settled FieldLine text
field_line text = by (name_and_text text)
  where
    by : Settled NameAndText text → Settled FieldLine text
    by (inl t) =
        let f : Field = record { name = t.0.0; raw = t.0.1.0; end = t.0.1.1 } in
        inl (f, t.1, (record { name = (t.2.1.0, t.2.1.1); raw = t.2.2.0 }, t.2.1.2 ∙ ap (λ (xs : List ℕ). t.0.0 ++ 58 ∷ xs) t.2.2.1 ∙ sym (print_field-append f t.1)))
    by (inr none) =
        inr (λ t. none (
          (t.0.name, (t.0.raw, t.0.end)),
          t.1,
          (t.0.raw ++ (print_end t.0.end ++ t.1), (t.2.0.name.0, t.2.0.name.1, t.2.1 ∙ print_field-append t.0 t.1), (t.2.0.raw, refl)),
        ))

field_shorter : (f : Field) (text rest : List ℕ) → FieldLine f text rest → length rest < length text
field_shorter f text rest line =
    let e : length text ≡ length (f.name ++ 58 ∷ (f.raw ++ (print_end f.end ++ rest))) = ap (λ (t : List ℕ). length t) (line.1 ∙ print_field-append f rest) in
    omega (arith, e, length-append f.name (58 ∷ (f.raw ++ (print_end f.end ++ rest))), length-append f.raw (print_end f.end ++ rest), length-append (print_end f.end) rest)

-- no line is there, so no section
section_never : (text : List ℕ) → ¬ (Begins Newline text) → ¬ (Begins FieldLine text) → ¬ (Begins Section text)
section_never text end line t = elim (Section_line t.0 text t.1 t.2) [ inl e ↦ end e | inr l ↦ line l ]

-- a field line, and what is known of what follows it
section_on : (f : Field) (text middle : List ℕ) → FieldLine f text middle → Settled Section middle → Settled Section text
section_on f text middle line (inl t) =
    inl (
      (f ∷ t.0.0, t.0.1),
      t.1,
      (
        All-cons IsField f t.0.0 line.0 t.2.0,
        line.1 ∙ ap (λ (xs : List ℕ). print_field f ++ xs) t.2.1
            ∙ sym (ap (λ (xs : List ℕ). xs ++ t.1) (append_assoc (print_field f) (flat_map print_field t.0.0) (print_end t.0.1))
            ∙ append_assoc (print_field f) (flat_map print_field t.0.0 ++ print_end t.0.1) t.1),
      ),
    )
section_on f text middle line (inr none) =
    let one : FieldLines (f ∷ []) text middle = (All-cons IsField f [] line.0 (All-nil IsField), line.1 ∙ ap (λ (xs : List ℕ). xs ++ middle) (sym (append-nil (print_field f)))) in
    inr (λ t. let s = Section_skip (f ∷ []) t.0.0 t.0.1 text middle t.1 one t.2 in none ((s.0, t.0.1), t.1, s.2))

section_within : (n : ℕ) (text : List ℕ) → length text < n → Settled Section text
section_within zero text short = absurd (omega (arith, short))
section_within (suc n) text short =
    elim (newline text) [
      | inl end ↦ inl (([], end.0), end.1, (All-nil IsField, end.2))
      | inr none ↦ elim (field_line text) [
        | inl f ↦ section_on f.0 text f.1 f.2 (section_within n f.1 (omega (arith, short, field_shorter f.0 text f.1 f.2)))
        | inr no_field ↦ inr (section_never text none no_field)
      ]
    ]

pub section : (text : List ℕ) → Settled Section text
section text = section_within (suc (length text)) text (omega arith)
