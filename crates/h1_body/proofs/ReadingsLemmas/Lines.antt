-- What the first line of a trailer section is, as far as it came.
use Rattle.std.proofs.Common.{◌≡◌, ◌≢◌, ℕ, ◌<◌, inl, inr, ◌⊎◌, Bool, true, false, List, [], ◌∷◌, ◌++◌, length, refl, sym, ap, ◌∙◌, subst, append_assoc, append-nil, arith}
use Rattle.std.proofs.lemmas.Bool.Decides.{eqb_tells}
use Rattle.std.proofs.lemmas.List.Elements.{All-head, All-cons, All-nil}
use Rattle.httparse.specs.Grammar.{LineEnd, crlf, lf, print_end, Field, IsToken, AllPass, is_token_byte, is_value_byte}
use Rattle.httparse.specs.Pieces.{Newline, FieldLine, BeginsLine, Stops, is_newline}
use Rattle.httparse.proofs.PieceLemmas.{print_field-append, Stops_token, newline_not_stopped, colon_ends_token, Stops_value}
use Rattle.httparse.proofs.RunLemmas.{run_unique}

-- whatever follows, no line stands there
pub record NoLine (text : List ℕ) : Type 0 where
  pub never : (more : List ℕ) → ¬ (BeginsLine (text ++ more))

-- the first line, or what is there of it
pub data Line (text : List ℕ) : Type 0 where
  Empty : (end : LineEnd) → (rest : List ℕ) → Newline end text rest → Line text
  Whole : (f : Field) → (rest : List ℕ) → FieldLine f text rest → Line text
  Nothing : text ≡ [] → Line text
  Return : text ≡ 13 ∷ [] → Line text
  InName : IsToken text → Line text
  InValue : (name raw : List ℕ) → IsToken name → AllPass is_value_byte raw → text ≡ name ++ 58 ∷ raw → Line text
  AtReturn : (name raw : List ℕ) → IsToken name → AllPass is_value_byte raw → text ≡ name ++ 58 ∷ (raw ++ 13 ∷ []) → Line text
  Never : NoLine text → Line text

-- ---- runs of bytes

-- the bytes in front that pass, and what follows them
record Span (test : ℕ → Bool) (text : List ℕ) : Type 0 where
  run : List ℕ
  rest : List ℕ
  all : AllPass test run
  is : text ≡ run ++ rest
  ends : (rest ≡ []) ⊎ Stops test rest

span_by : (test : ℕ → Bool) (b : ℕ) (text : List ℕ) (v : Bool) → test b ≡ v → Span test text → Span test (b ∷ text)
span_by test b text true e s = record { run = b ∷ s.run; rest = s.rest; all = All-cons (λ x. test x ≡ true) b s.run e s.all; is = ap (λ (t : List ℕ). b ∷ t) s.is; ends = s.ends }
span_by test b text false e s = record { run = []; rest = b ∷ text; all = All-nil (λ x. test x ≡ true); is = refl; ends = inr e }

span : (test : ℕ → Bool) (text : List ℕ) → Span test text
span test [] = record { run = []; rest = []; all = All-nil (λ x. test x ≡ true); is = refl; ends = inl refl }
span test (b ∷ text) = span_by test b text (test b) refl (span test text)

-- ---- no line

-- a text whose first byte is neither of a token nor of a line end
never_other : (b : ℕ) (text : List ℕ) → is_token_byte b ≡ false → b ≢ 13 → b ≢ 10 → NoLine (b ∷ text)
never_other b text token cr feed = record { never = no }
  where
    no_end : (end : LineEnd) (text rest : List ℕ) → b ∷ text ≡ print_end end ++ rest → ⊥
    no_end crlf text rest e = cr (cc)
    no_end lf text rest e = feed (cc)

    no_field : (name text rest : List ℕ) → 0 < length name → AllPass is_token_byte name → b ∷ text ≡ name ++ rest → ⊥
    no_field [] text rest some all e = absurd (omega arith)
    no_field (c ∷ name) text rest some all e = let passes = All-head (λ v. is_token_byte v ≡ true) c name all in cc

    no : (more : List ℕ) → ¬ (BeginsLine ((b ∷ text) ++ more))
    no more (inl (end, rest, e)) = no_end end (text ++ more) rest e
    no more (inr (f, rest, line)) = no_field f.name (text ++ more) (58 ∷ (f.raw ++ (print_end f.end ++ rest))) line.0.name.0 line.0.name.1 (line.1 ∙ print_field-append f rest)

-- CR and another byte than LF
never_return : (b : ℕ) (text : List ℕ) → b ≢ 10 → NoLine (13 ∷ b ∷ text)
never_return b text feed = record { never = no }
  where
    no_end : (end : LineEnd) (text rest : List ℕ) → 13 ∷ b ∷ text ≡ print_end end ++ rest → ⊥
    no_end crlf text rest e = feed (cc)
    no_end lf text rest e = cc

    no_stop : (xs : List ℕ) → Stops is_newline (13 ∷ b ∷ xs) → ⊥
    no_stop xs s = cc

    no : (more : List ℕ) → ¬ (BeginsLine ((13 ∷ b ∷ text) ++ more))
    no more (inl (end, rest, e)) = no_end end (text ++ more) rest e
    no more (inr (f, rest, line)) = no_stop (text ++ more) (subst (Stops is_newline) (sym (line.1 ∙ print_field-append f rest)) (Stops_token f.name (58 ∷ (f.raw ++ (print_end f.end ++ rest))) line.0.name.0 line.0.name.1))

-- a text that begins with a token begins with no line end
pub token_no_end : (name text rest : List ℕ) (end : LineEnd) → IsToken name → name ++ text ≡ print_end end ++ rest → ⊥
token_no_end name text rest end token e = newline_not_stopped end rest (name ++ text) (sym e) (Stops_token name text token.0 token.1)

-- a field whose line begins with a token and a byte that ends it has this name
pub name_is : (name text : List ℕ) (f : Field) (rest : List ℕ) → IsToken name → Stops is_token_byte text → FieldLine f (name ++ text) rest
    → (name ≡ f.name) × (text ≡ 58 ∷ (f.raw ++ (print_end f.end ++ rest)))
name_is name text f rest token stops line =
    run_unique is_token_byte name f.name text (58 ∷ (f.raw ++ (print_end f.end ++ rest))) token.1 line.0.name.1 stops colon_ends_token (line.1 ∙ print_field-append f rest)

-- and this value, where the byte behind it ends it
pub raw_is : (name raw text : List ℕ) (f : Field) (rest : List ℕ) → IsToken name → AllPass is_value_byte raw → Stops is_value_byte text → FieldLine f (name ++ 58 ∷ (raw ++ text)) rest
    → (name ≡ f.name) × (raw ≡ f.raw) × (text ≡ print_end f.end ++ rest)
raw_is name raw text f rest token all stops line =
    let n = name_is name (58 ∷ (raw ++ text)) f rest token colon_ends_token line in
    let e : raw ++ text ≡ f.raw ++ (print_end f.end ++ rest) = behind_colon _ _ n.1 in
    let r = run_unique is_value_byte raw f.raw text (print_end f.end ++ rest) all line.0.raw stops (Stops_value f.end rest) e in
    (n.0, r.0, r.1)
  where
    behind_colon : (xs ys : List ℕ) → 58 ∷ xs ≡ 58 ∷ ys → xs ≡ ys
    behind_colon xs ys e = cc

-- a token and another byte than the colon
never_name : (name : List ℕ) (b : ℕ) (text : List ℕ) → IsToken name → is_token_byte b ≡ false → b ≢ 58 → NoLine (name ++ b ∷ text)
never_name name b text token stops other = record { never = no }
  where
    colon : (xs ys : List ℕ) → b ∷ xs ≡ 58 ∷ ys → b ≡ 58
    colon xs ys e = cc

    begins : (xs : List ℕ) → ¬ (BeginsLine (name ++ b ∷ xs))
    begins xs (inl (end, rest, e)) = token_no_end name (b ∷ xs) rest end token e
    begins xs (inr (f, rest, line)) = other (colon xs _ (name_is name (b ∷ xs) f rest token stops line).1)

    no : (more : List ℕ) → ¬ (BeginsLine ((name ++ b ∷ text) ++ more))
    no more h = begins (text ++ more) (subst BeginsLine (append_assoc name (b ∷ text) more) h)

-- a field line whose value ends in what is no line end, whatever follows
never_value : (name raw : List ℕ) (b : ℕ) (text : List ℕ) → IsToken name → AllPass is_value_byte raw → is_value_byte b ≡ false
    → ((end : LineEnd) (more rest : List ℕ) → (b ∷ text) ++ more ≡ print_end end ++ rest → ⊥) → NoLine (name ++ 58 ∷ (raw ++ b ∷ text))
never_value name raw b text token all stops no_end = record { never = no }
  where
    joined : (more : List ℕ) → (name ++ 58 ∷ (raw ++ b ∷ text)) ++ more ≡ name ++ 58 ∷ (raw ++ ((b ∷ text) ++ more))
    joined more = append_assoc name (58 ∷ (raw ++ b ∷ text)) more ∙ ap (λ (t : List ℕ). name ++ 58 ∷ t) (append_assoc raw (b ∷ text) more)

    begins : (more : List ℕ) → ¬ (BeginsLine (name ++ 58 ∷ (raw ++ ((b ∷ text) ++ more))))
    begins more (inl (end, rest, e)) = token_no_end name (58 ∷ (raw ++ ((b ∷ text) ++ more))) rest end token e
    begins more (inr (f, rest, line)) = no_end f.end more rest (raw_is name raw ((b ∷ text) ++ more) f rest token all stops line).2

    no : (more : List ℕ) → ¬ (BeginsLine ((name ++ 58 ∷ (raw ++ b ∷ text)) ++ more))
    no more h = begins more (subst BeginsLine (joined more) h)

-- ---- the first line

field_of : (name raw : List ℕ) (end : LineEnd) (text rest : List ℕ) → IsToken name → AllPass is_value_byte raw → text ≡ name ++ 58 ∷ (raw ++ (print_end end ++ rest)) → Line text
field_of name raw end text rest token all e =
    let f : Field = record { name = name; raw = raw; end = end } in
    Whole f rest (record { name = token; raw = all }, e ∙ sym (print_field-append f rest))

-- behind a value and CR
by_feed : (name raw text : List ℕ) (q : List ℕ) → IsToken name → AllPass is_value_byte raw → text ≡ name ++ 58 ∷ (raw ++ 13 ∷ q) → Line text
by_feed name raw text [] token all e = AtReturn name raw token all e
by_feed name raw text (c ∷ q) token all e =
    elim (eqb_tells c 10) [
      | inl feed ↦ field_of name raw crlf text q token all (e ∙ ap (λ (x : ℕ). name ++ 58 ∷ (raw ++ 13 ∷ x ∷ q)) feed.1)
      | inr other ↦ Never (subst NoLine (sym e) (never_value name raw 13 (c ∷ q) token all refl (no_feed c q other.1)))
    ]
  where
    no_feed : (c : ℕ) (q : List ℕ) → c ≢ 10 → (end : LineEnd) (more rest : List ℕ) → (13 ∷ c ∷ q) ++ more ≡ print_end end ++ rest → ⊥
    no_feed c q other crlf more rest h = other (cc)
    no_feed c q other lf more rest h = cc

-- behind a value
by_end : (name raw text : List ℕ) (b : ℕ) (q : List ℕ) → IsToken name → AllPass is_value_byte raw → is_value_byte b ≡ false → text ≡ name ++ 58 ∷ (raw ++ b ∷ q) → Line text
by_end name raw text b q token all stops e =
    elim (eqb_tells b 10) [
      | inl feed ↦ field_of name raw lf text q token all (e ∙ ap (λ (x : ℕ). name ++ 58 ∷ (raw ++ x ∷ q)) feed.1)
      | inr other ↦ elim (eqb_tells b 13) [
        | inl cr ↦ by_feed name raw text q token all (e ∙ ap (λ (x : ℕ). name ++ 58 ∷ (raw ++ x ∷ q)) cr.1)
        | inr neither ↦ Never (subst NoLine (sym e) (never_value name raw b q token all stops (no_end b q other.1 neither.1)))
      ]
    ]
  where
    no_end : (b : ℕ) (q : List ℕ) → b ≢ 10 → b ≢ 13 → (end : LineEnd) (more rest : List ℕ) → (b ∷ q) ++ more ≡ print_end end ++ rest → ⊥
    no_end b q feed cr crlf more rest h = cr (cc)
    no_end b q feed cr lf more rest h = feed (cc)

-- behind a name and its colon
by_value : (name text q : List ℕ) → IsToken name → text ≡ name ++ 58 ∷ q → Span is_value_byte q → Line text
by_value name text q token e s = at s.rest s.is s.ends
  where
    at : (rest : List ℕ) → q ≡ s.run ++ rest → (rest ≡ []) ⊎ Stops is_value_byte rest → Line text
    at [] is ends = InValue name s.run token s.all (e ∙ ap (λ (t : List ℕ). name ++ 58 ∷ t) (is ∙ append-nil s.run))
    at (b ∷ rest) is (inl none) = absurd (cc)
    at (b ∷ rest) is (inr stops) = by_end name s.run text b rest token s.all stops (e ∙ ap (λ (t : List ℕ). name ++ 58 ∷ t) is)

-- behind a name
by_name : (name text rest : List ℕ) → IsToken name → text ≡ name ++ rest → (rest ≡ []) ⊎ Stops is_token_byte rest → Line text
by_name name text [] token e ends = InName (subst IsToken (sym (e ∙ append-nil name)) token)
by_name name text (b ∷ rest) token e (inl none) = absurd (cc)
by_name name text (b ∷ rest) token e (inr stops) =
    elim (eqb_tells b 58) [
      | inl colon ↦ by_value name text rest token (e ∙ ap (λ (x : ℕ). name ++ x ∷ rest) colon.1) (span is_value_byte rest)
      | inr other ↦ Never (subst NoLine (sym e) (never_name name b rest token stops other.1))
    ]

-- without a name
by_return : (text rest : List ℕ) → text ≡ 13 ∷ rest → Line text
by_return text [] e = Return e
by_return text (c ∷ rest) e =
    elim (eqb_tells c 10) [
      | inl feed ↦ Empty crlf rest (e ∙ ap (λ (x : ℕ). 13 ∷ x ∷ rest) feed.1)
      | inr other ↦ Never (subst NoLine (sym e) (never_return c rest other.1))
    ]

by_first : (text : List ℕ) (rest : List ℕ) → text ≡ rest → (rest ≡ []) ⊎ Stops is_token_byte rest → Line text
by_first text [] e ends = Nothing e
by_first text (b ∷ rest) e (inl none) = absurd (cc)
by_first text (b ∷ rest) e (inr stops) =
    elim (eqb_tells b 10) [
      | inl feed ↦ Empty lf rest (e ∙ ap (λ (x : ℕ). x ∷ rest) feed.1)
      | inr other ↦ elim (eqb_tells b 13) [
        | inl cr ↦ by_return text rest (e ∙ ap (λ (x : ℕ). x ∷ rest) cr.1)
        | inr neither ↦ Never (subst NoLine (sym e) (never_other b rest stops neither.1 other.1))
      ]
    ]

by_run : (text run rest : List ℕ) → AllPass is_token_byte run → text ≡ run ++ rest → (rest ≡ []) ⊎ Stops is_token_byte rest → Line text
by_run text [] rest all e ends = by_first text rest e ends
by_run text (b ∷ run) rest all e ends = by_name (b ∷ run) text rest (omega arith, all) e ends

pub line_of : (text : List ℕ) → Line text
line_of text = let s = span is_token_byte text in by_run text s.run s.rest s.all s.is s.ends
