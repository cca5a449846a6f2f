-- What a trailer section within limits is, and what its first line, where it came whole, says of it.
use Rattle.std.proofs.Common.{◌≡◌, ℕ, suc, ◌+◌, ◌-◌, ◌<◌, ◌≤◌, inl, inr, ◌⊎◌, List, [], ◌∷◌, ◌++◌, length, refl, sym, ap, ◌∙◌, subst, append_assoc, append-nil, length-append, arith}
use Rattle.std.specs.Prelude.{All}
use Rattle.std.specs.List.{flat_map}
use Rattle.std.proofs.lemmas.Bool.{cases_lt}
use Rattle.std.proofs.lemmas.List.Elements.{All-head, All-tail, All-cons, All-nil}
use Rattle.httparse.specs.Grammar.{LineEnd, crlf, lf, print_end, Field, print_field, print_section, IsField, ReadsSection}
use Rattle.httparse.specs.Pieces.{Newline, FieldLine, FieldLines}
use Rattle.httparse.proofs.PieceLemmas.{print_field-append, Section_skip, Section_line, FieldLine_deterministic, front-append}
use Rattle.httparse.proofs.GrammarLemmas.{section_unique}
use Rattle.h1_body.specs.Section.{HasShortName}
use Rattle.h1_body.proofs.ReadingsLemmas.Lines.{NoLine}

-- a section of at most n fields and so many bytes
pub record Within (n room : ℕ) (text : List ℕ) (fields : List Field) (rest : List ℕ) : Type 0 where
  pub last : LineEnd
  pub reads : ReadsSection text fields last rest
  pub few : length fields ≤ n
  pub named : All HasShortName fields
  pub short : length text ≤ room + length rest

abbrev pub HasNone : (n room : ℕ) → List ℕ → Type 0
HasNone n room text = (fields : List Field) (rest : List ℕ) → ¬ (Within n room text fields rest)

abbrev pub IsHopeless : (n room : ℕ) → List ℕ → Type 0
IsHopeless n room text = (more : List ℕ) → HasNone n room (text ++ more)

abbrev pub Known : (n room : ℕ) → List ℕ → Type 0
Known n room text =
    ((fields : List Field) × (rest : List ℕ) × Within n room text fields rest)
    ⊎ (HasNone n room text × (IsHopeless n room text ⊎ (¬ (IsHopeless n room text))))

-- ---- hopeless texts

none_where_hopeless : (n room : ℕ) (text : List ℕ) → IsHopeless n room text → HasNone n room text
none_where_hopeless n room text h fields rest w = h [] fields rest (subst (λ (t : List ℕ). Within n room t fields rest) (sym (append-nil text)) w)

pub dead : (n room : ℕ) (text : List ℕ) → IsHopeless n room text → Known n room text
dead n room text h = inr (none_where_hopeless n room text h, inl h)

pub no_line : (n room : ℕ) (text : List ℕ) → NoLine text → IsHopeless n room text
no_line n room text h more fields rest w = h.never more (Section_line (fields, w.last) (text ++ more) rest w.reads)

-- ---- lengths

pub end_some : (end : LineEnd) → 0 < length (print_end end)
end_some crlf = omega arith
end_some lf = omega arith

pub section_some : (fields : List Field) (last : LineEnd) → 0 < length (print_section fields last)
section_some fields last =
    let e = length-append (flat_map print_field fields) (print_end last) in
    let s = end_some last in
    omega (arith, e, s)

-- the first field of a section, and what follows it
pub record First (g : Field) (gs : List Field) (last : LineEnd) (text rest : List ℕ) : Type 0 where
  pub line : FieldLine g text (print_section gs last ++ rest)
  pub others : All IsField gs

pub first_field : (g : Field) (gs : List Field) (last : LineEnd) (text rest : List ℕ) → ReadsSection text (g ∷ gs) last rest → First g gs last text rest
first_field g gs last text rest x = record {
  line = (
    All-head IsField g gs x.0,
    x.1 ∙ ap (λ (t : List ℕ). t ++ rest) (append_assoc (print_field g) (flat_map print_field gs) (print_end last))
        ∙ append_assoc (print_field g) (flat_map print_field gs ++ print_end last) rest,
  );
  others = All-tail IsField g gs x.0;
}

pub field_length : (f : Field) → length (print_field f) ≡ length f.name + 1 + length f.raw + length (print_end f.end)
field_length f =
    let p : length (print_field f ++ []) ≡ length (f.name ++ 58 ∷ (f.raw ++ (print_end f.end ++ []))) = ap (λ (t : List ℕ). length t) (print_field-append f []) in
    let q = length-append (print_field f) [] in
    let a = length-append f.name (58 ∷ (f.raw ++ (print_end f.end ++ []))) in
    let b = length-append f.raw (print_end f.end ++ []) in
    let d = length-append (print_end f.end) [] in
    omega (arith, p, q, a, b, d)

pub line_length : (f : Field) (text rest : List ℕ) → FieldLine f text rest → length text ≡ length (print_field f) + length rest
line_length f text rest line = ap (λ (t : List ℕ). length t) line.1 ∙ length-append (print_field f) rest

-- ---- a line that is whole

empty_within : (n room : ℕ) (end : LineEnd) (text rest : List ℕ) → Newline end text rest → length (print_end end) ≤ room → Within n room text [] rest
empty_within n room end text rest e short =
    let l : length text ≡ length (print_end end) + length rest = ap (λ (t : List ℕ). length t) e ∙ length-append (print_end end) rest in
    record { last = end; reads = (All-nil IsField, e); few = omega arith; named = All-nil HasShortName; short = omega (arith, l, short) }

empty_hopeless : (n room : ℕ) (end : LineEnd) (text rest : List ℕ) → Newline end text rest → room < length (print_end end) → IsHopeless n room text
empty_hopeless n room end text rest e long more fields left w =
    let all : text ++ more ≡ print_end end ++ (rest ++ more) = front-append text (print_end end) rest more e in
    let same = section_unique (text ++ more) [] fields end w.last (rest ++ more) left (All-nil IsField, all) w.reads in
    let l : length (text ++ more) ≡ length (print_end end) + length (rest ++ more) = ap (λ (t : List ℕ). length t) all ∙ length-append (print_end end) (rest ++ more) in
    let r : length (rest ++ more) ≡ length left = ap (λ (t : List ℕ). length t) same.2 in
    let s = w.short in
    absurd (omega (arith, l, r, s, long))

pub by_empty : (n room : ℕ) (end : LineEnd) (text rest : List ℕ) → Newline end text rest → Known n room text
by_empty n room end text rest e =
    elim (cases_lt room (length (print_end end))) [
      | inl long ↦ dead n room text (empty_hopeless n room end text rest e long)
      | inr short ↦ inl ([], rest, empty_within n room end text rest e short)
    ]

-- a section of a text that begins with a field line has that field first
record Behind (f : Field) (middle : List ℕ) (fields : List Field) (last : LineEnd) (rest : List ℕ) : Type 0 where
  others : List Field
  are : fields ≡ f ∷ others
  reads : ReadsSection middle others last rest

behind : (f : Field) (text middle : List ℕ) (fields : List Field) (last : LineEnd) (rest : List ℕ) → FieldLine f text middle → ReadsSection text fields last rest → Behind f middle fields last rest
behind f text middle fields last rest line reads =
    let one : FieldLines (f ∷ []) text middle = (All-cons IsField f [] line.0 (All-nil IsField), line.1 ∙ ap (λ (t : List ℕ). t ++ middle) (sym (append-nil (print_field f)))) in
    let s = Section_skip (f ∷ []) fields last text middle rest one reads in
    record { others = s.0; are = s.1; reads = s.2 }

pub section_length : (text : List ℕ) (fields : List Field) (last : LineEnd) (rest : List ℕ) → ReadsSection text fields last rest → length rest < length text
section_length text fields last rest x =
    let l : length text ≡ length (print_section fields last) + length rest = ap (λ (t : List ℕ). length t) x.1 ∙ length-append (print_section fields last) rest in
    let s = section_some fields last in
    omega (arith, l, s)

uncons : (n room : ℕ) (f : Field) (text middle : List ℕ) (fields : List Field) (rest : List ℕ) → FieldLine f text middle → (w : Within n room text fields rest) → (b : Behind f middle fields w.last rest)
    → (m : ℕ) → n ≡ suc m → length (print_field f) ≤ room → Within m (room - length (print_field f)) middle b.others rest
uncons n room f text middle fields rest line w b m is fits =
    let l = line_length f text middle line in
    let s = w.short in
    let few : length (f ∷ b.others) ≤ suc m = subst (λ (k : ℕ). length (f ∷ b.others) ≤ k) is (subst (λ (gs : List Field). length gs ≤ n) b.are w.few) in
    record {
      last = w.last;
      reads = b.reads;
      few = omega (arith, few);
      named = All-tail HasShortName f b.others (subst (λ (gs : List Field). All HasShortName gs) b.are w.named);
      short = omega (arith, l, s, fits);
    }

cons : (n room : ℕ) (f : Field) (text middle : List ℕ) (fields : List Field) (rest : List ℕ) → FieldLine f text middle → HasShortName f → length (print_field f) ≤ room
    → Within n (room - length (print_field f)) middle fields rest → Within (suc n) room text (f ∷ fields) rest
cons n room f text middle fields rest line short fits w =
    let l = line_length f text middle line in
    let s = w.short in
    let few = w.few in
    record {
      last = w.last;
      reads = (
        All-cons IsField f fields line.0 w.reads.0,
        line.1 ∙ ap (λ (t : List ℕ). print_field f ++ t) w.reads.1
            ∙ sym (ap (λ (t : List ℕ). t ++ rest) (append_assoc (print_field f) (flat_map print_field fields) (print_end w.last))
            ∙ append_assoc (print_field f) (flat_map print_field fields ++ print_end w.last) rest),
      );
      few = omega (arith, few);
      named = All-cons HasShortName f fields short w.named;
      short = omega (arith, l, s, fits);
    }

-- what makes a line hopeless: no field may come, or its name or the line is too long
pub line_hopeless : (n room : ℕ) (f : Field) (text middle : List ℕ) → FieldLine f text middle
    → ((fields : List Field) (rest : List ℕ) (others : List Field) → fields ≡ f ∷ others → length fields ≤ n → All HasShortName fields → length (print_field f) ≤ room → ⊥) → IsHopeless n room text
line_hopeless n room f text middle line fails more fields rest w =
    let on = FieldLine_deterministic.append f text middle more line in
    let b = behind f (text ++ more) (middle ++ more) fields w.last rest on w.reads in
    let l = line_length f (text ++ more) (middle ++ more) on in
    let r = section_length (middle ++ more) b.others w.last rest b.reads in
    let s = w.short in
    fails fields rest b.others b.are w.few w.named (omega (arith, l, r, s))

pub by_line : (n room : ℕ) (f : Field) (text middle : List ℕ) → FieldLine f text middle → HasShortName f → length (print_field f) ≤ room → Known n (room - length (print_field f)) middle → Known (suc n) room text
by_line n room f text middle line short fits (inl (fields, rest, w)) = inl (f ∷ fields, rest, cons n room f text middle fields rest line short fits w)
by_line n room f text middle line short fits (inr (none, h)) = inr (none_of, may h)
  where
    none_of : HasNone (suc n) room text
    none_of fields rest w =
        let b = behind f text middle fields w.last rest line w.reads in
        none b.others rest (uncons (suc n) room f text middle fields rest line w b n refl fits)

    may : IsHopeless n (room - length (print_field f)) middle ⊎ (¬ (IsHopeless n (room - length (print_field f)) middle)) → IsHopeless (suc n) room text ⊎ (¬ (IsHopeless (suc n) room text))
    may (inl dead_on) = inl (λ more fields rest w.
        let on = FieldLine_deterministic.append f text middle more line in
        let b = behind f (text ++ more) (middle ++ more) fields w.last rest on w.reads in
        dead_on more b.others rest (uncons (suc n) room f (text ++ more) (middle ++ more) fields rest on w b n refl fits))
    may (inr alive) = inr (λ dead_on. alive (λ more fields rest w. dead_on more (f ∷ fields) rest (cons n room f (text ++ more) (middle ++ more) fields rest (FieldLine_deterministic.append f text middle more line) short fits w)))
