-- Whether bytes begin with a trailer section within the limits, and whether they may come to.
use Rattle.std.proofs.Common.{◌≡◌, ℕ, suc, zero, ◌+◌, ◌-◌, ◌<◌, ◌≤◌, inl, inr, ◌⊎◌, Bool, true, false, List, [], ◌∷◌, ◌++◌, length, refl, sym, ap, ◌∙◌, subst, append_assoc, append-nil, length-append, arith}
use Rattle.std.specs.Prelude.{All}
use Rattle.std.proofs.lemmas.Bool.{cases_lt}
use Rattle.std.proofs.lemmas.List.Elements.{All-head, All-tail, All-cons, All-nil}
use Rattle.httparse.specs.Grammar.{LineEnd, crlf, lf, print_end, Field, print_field, print_section, IsField, IsToken, AllPass, is_token_byte, is_value_byte, ReadsSection}
use Rattle.httparse.specs.Pieces.{FieldLine}
use Rattle.httparse.proofs.PieceLemmas.{print_field-append, Stops-FieldLine, colon_ends_token}
use Rattle.http_model.specs.Sizes.{most_name}
use Rattle.h1_body.specs.Numbers.{most_trailers}
use Rattle.h1_body.specs.Section.{HasShortName, BeginsSection, HasNoSectionWithin, IsHopelessSection}
use Rattle.h1_body.proofs.ReadingsLemmas.Lines.{Line, Empty, Whole, Nothing, Return, InName, InValue, AtReturn, Never, name_is, raw_is, token_no_end, line_of}
use Rattle.h1_body.proofs.ReadingsLemmas.FirstLines.{Within, HasNone, IsHopeless, Known, dead, no_line, end_some, section_some, first_field, field_length, line_length, by_empty, section_length, line_hopeless, by_line}

-- ---- a line that is still to come

-- what makes a section of a text that is none yet: fields and bytes, of which each section that comes of it has as many
record Partial (text : List ℕ) : Type 0 where
  fields : List Field
  more : List ℕ
  last : LineEnd
  reads : ReadsSection (text ++ more) fields last []
  some : 0 < length more
  named : All HasShortName fields ⊎ (¬ (All HasShortName fields))
  least : (other : List ℕ) (gs : List Field) (end : LineEnd) (rest : List ℕ) → ReadsSection (text ++ other) gs end rest
      → (length fields ≤ length gs) × (All HasShortName gs → All HasShortName fields) × (length text + length more + length rest ≤ length (text ++ other))

by_partial : (n room : ℕ) (text : List ℕ) → Partial text → Known n room text
by_partial n room text p = inr (none, by_few (cases_lt n (length p.fields)))
  where
    none : HasNone n room text
    none fields rest w =
        let l = p.least [] fields w.last rest (subst (λ (t : List ℕ). ReadsSection t fields w.last rest) (sym (append-nil text)) w.reads) in
        let s = p.some in
        let e : length (text ++ []) ≡ length text = ap (λ (t : List ℕ). length t) (append-nil text) in
        let bytes = l.2 in
        absurd (omega (arith, s, e, bytes))

    by_room : length p.fields ≤ n → All HasShortName p.fields → (room < length text + length p.more) ⊎ (length text + length p.more ≤ room) → IsHopeless n room text ⊎ (¬ (IsHopeless n room text))
    by_room few named (inl long) = inl (λ other gs rest w.
        let l = (p.least other gs w.last rest w.reads).2 in
        let s = w.short in
        absurd (omega (arith, l, s, long)))
    by_room few named (inr fits) =
        let e = length-append text p.more in
        inr (λ dead_on. dead_on p.more p.fields [] (record { last = p.last; reads = p.reads; few = few; named = named; short = omega (arith, e, fits) }))

    by_names : length p.fields ≤ n → All HasShortName p.fields ⊎ (¬ (All HasShortName p.fields)) → IsHopeless n room text ⊎ (¬ (IsHopeless n room text))
    by_names few (inl named) = by_room few named (cases_lt room (length text + length p.more))
    by_names few (inr long) = inl (λ other gs rest w. long ((p.least other gs w.last rest w.reads).1 w.named))

    by_few : (n < length p.fields) ⊎ (length p.fields ≤ n) → IsHopeless n room text ⊎ (¬ (IsHopeless n room text))
    by_few (inl many) = inl (λ other gs rest w.
        let l = (p.least other gs w.last rest w.reads).0 in
        let few = w.few in
        absurd (omega (arith, l, few, many)))
    by_few (inr few) = by_names few p.named

-- no field, and so many bytes
nothing_came : Partial []
nothing_came = record {
  fields = [];
  more = 10 ∷ [];
  last = lf;
  reads = (All-nil IsField, refl);
  some = omega arith;
  named = inl (All-nil HasShortName);
  least = λ other gs end rest x. (
    omega arith,
    λ all. All-nil HasShortName,
    (let s = section_length other gs end rest x in omega (arith, s)),
  );
}

return_came : Partial (13 ∷ [])
return_came = record {
  fields = [];
  more = 10 ∷ [];
  last = crlf;
  reads = (All-nil IsField, refl);
  some = omega arith;
  named = inl (All-nil HasShortName);
  least = λ other gs end rest x. (omega arith, λ all. All-nil HasShortName, bytes other gs end rest x);
}
  where
    by_end : (other : List ℕ) (end : LineEnd) (rest : List ℕ) → 13 ∷ other ≡ print_end end ++ rest → 2 + length rest ≤ length (13 ∷ other)
    by_end other crlf rest e =
        let l : length (13 ∷ other) ≡ length (13 ∷ 10 ∷ rest) = ap (λ (t : List ℕ). length t) e in
        omega (arith, l)
    by_end other lf rest e = absurd (cc)

    by_field : (other : List ℕ) (g : Field) (rest : List ℕ) → FieldLine g (13 ∷ other) rest → ⊥
    by_field other g rest line = let s = Stops-FieldLine g (13 ∷ other) rest line in cc

    bytes : (other : List ℕ) (gs : List Field) (end : LineEnd) (rest : List ℕ) → ReadsSection (13 ∷ other) gs end rest → 1 + 1 + length rest ≤ length (13 ∷ other)
    bytes other [] end rest x = by_end other end rest x.1
    bytes other (g ∷ gs) end rest x = absurd (by_field other g _ (first_field g gs end (13 ∷ other) rest x).line)

-- a run of passing bytes is no longer than what stands in front of a byte that fails
run_within : (test : ℕ → Bool) (xs ys : List ℕ) (more : List ℕ) (c : ℕ) (zs : List ℕ) → AllPass test xs → test c ≡ false → xs ++ more ≡ ys ++ c ∷ zs → length xs ≤ length ys
run_within test [] ys more c zs all stops e = omega arith
run_within test (x ∷ xs) [] more c zs all stops e = let passes = All-head (λ v. test v ≡ true) x xs all in absurd (cc)
run_within test (x ∷ xs) (y ∷ ys) more c zs all stops e =
    let tail : xs ++ more ≡ ys ++ c ∷ zs = cc in
    let l = run_within test xs ys more c zs (All-tail (λ v. test v ≡ true) x xs all) stops tail in
    omega (arith, l)

short_or_long : (f : Field) → All HasShortName (f ∷ []) ⊎ (¬ (All HasShortName (f ∷ [])))
short_or_long f =
    elim (cases_lt most_name (length f.name)) [
      | inl long ↦ inr (λ all. let s = All-head HasShortName f [] all in omega (arith, s, long))
      | inr short ↦ inl (All-cons HasShortName f [] short (All-nil HasShortName))
    ]

-- each section of a text has at least the field that its first line begins
record Leads (text : List ℕ) (name : List ℕ) (extra : ℕ) : Type 0 where
  no_end : (other : List ℕ) (end : LineEnd) (rest : List ℕ) → text ++ other ≡ print_end end ++ rest → ⊥
  longer : (other : List ℕ) (g : Field) (rest : List ℕ) → FieldLine g (text ++ other) rest → 0 < length rest
      → (length name ≤ length g.name) × (length text + extra + length rest ≤ 1 + length (text ++ other))

leads_least : (text name : List ℕ) (raw more : List ℕ) → Leads text name (length more) → (other : List ℕ) (gs : List Field) (end : LineEnd) (rest : List ℕ) → ReadsSection (text ++ other) gs end rest
    → (1 ≤ length gs) × (All HasShortName gs → All HasShortName (record { name = name; raw = raw; end = lf } ∷ [])) × (length text + length more + length rest ≤ length (text ++ other))
leads_least text name raw more h other [] end rest x = absurd (h.no_end other end rest x.1)
leads_least text name raw more h other (g ∷ gs) end rest x =
    let f = first_field g gs end (text ++ other) rest x in
    let s = section_some gs end in
    let e = length-append (print_section gs end) rest in
    let l = h.longer other g (print_section gs end ++ rest) f.line (omega (arith, s, e)) in
    let n = l.0 in
    let b = l.1 in (
      omega arith,
      λ all. (let short = All-head HasShortName g gs all in All-cons HasShortName (record { name = name; raw = raw; end = lf }) [] (omega (arith, n, short)) (All-nil HasShortName)),
      omega (arith, b, s, e),
    )

-- from what its first line has, to what makes a section of it
partial_by : (text name raw more : List ℕ) (last : LineEnd) → 0 < length more → ReadsSection (text ++ more) (record { name = name; raw = raw; end = lf } ∷ []) last [] → Leads text name (length more) → Partial text
partial_by text name raw more last some reads h = record {
  fields = record { name = name; raw = raw; end = lf } ∷ [];
  more = more;
  last = last;
  reads = reads;
  some = some;
  named = short_or_long (record { name = name; raw = raw; end = lf });
  least = leads_least text name raw more h;
}

-- a section of one field
one_section : (text name raw : List ℕ) → IsToken name → AllPass is_value_byte raw → text ≡ name ++ 58 ∷ (raw ++ 10 ∷ 10 ∷ []) → ReadsSection text (record { name = name; raw = raw; end = lf } ∷ []) lf []
one_section text name raw token all e =
    let f : Field = record { name = name; raw = raw; end = lf } in (
      All-cons IsField f [] (record { name = token; raw = all }) (All-nil IsField),
      e ∙ sym (ap (λ (t : List ℕ). t ++ []) (ap (λ (t : List ℕ). t ++ (10 ∷ [])) (append-nil (print_field f))) ∙ append-nil (print_field f ++ 10 ∷ []) ∙ print_field-append f (10 ∷ [])),
    )

-- ---- a name that came

name_leads : (text : List ℕ) → IsToken text → Leads text text 3
name_leads text token = record { no_end = λ other end rest e. token_no_end text other rest end token e; longer = longer }
  where
    longer : (other : List ℕ) (g : Field) (rest : List ℕ) → FieldLine g (text ++ other) rest → 0 < length rest → (length text ≤ length g.name) × (length text + 3 + length rest ≤ 1 + length (text ++ other))
    longer other g rest line some =
        let w = run_within is_token_byte text g.name other 58 (g.raw ++ (print_end g.end ++ rest)) token.1 colon_ends_token (line.1 ∙ print_field-append g rest) in
        let l = line_length g (text ++ other) rest line in
        let f = field_length g in
        let e = end_some g.end in
        (w, omega (arith, w, l, f, e))

name_came : (text : List ℕ) → IsToken text → Partial text
name_came text token = partial_by text text [] (58 ∷ 10 ∷ 10 ∷ []) lf (omega arith) (one_section _ text [] token (All-nil (λ v. is_value_byte v ≡ true)) refl) (name_leads text token)

-- ---- a part of a value that came

value_leads : (name raw : List ℕ) → IsToken name → AllPass is_value_byte raw → Leads (name ++ 58 ∷ raw) name 2
value_leads name raw token all = record { no_end = no_end; longer = longer }
  where
    on : (other : List ℕ) → (name ++ 58 ∷ raw) ++ other ≡ name ++ 58 ∷ (raw ++ other)
    on other = append_assoc name (58 ∷ raw) other

    no_end : (other : List ℕ) (end : LineEnd) (rest : List ℕ) → (name ++ 58 ∷ raw) ++ other ≡ print_end end ++ rest → ⊥
    no_end other end rest e = token_no_end name (58 ∷ (raw ++ other)) rest end token (sym (on other) ∙ e)

    behind_colon : (xs ys : List ℕ) → 58 ∷ xs ≡ 58 ∷ ys → xs ≡ ys
    behind_colon xs ys e = cc

    in_value : (end : LineEnd) (raw2 rest : List ℕ) (other : List ℕ) → raw ++ other ≡ raw2 ++ (print_end end ++ rest) → length raw ≤ length raw2
    in_value crlf raw2 rest other e = run_within is_value_byte raw raw2 other 13 (10 ∷ rest) all refl e
    in_value lf raw2 rest other e = run_within is_value_byte raw raw2 other 10 rest all refl e

    longer : (other : List ℕ) (g : Field) (rest : List ℕ) → FieldLine g ((name ++ 58 ∷ raw) ++ other) rest → 0 < length rest
        → (length name ≤ length g.name) × (length (name ++ 58 ∷ raw) + 2 + length rest ≤ 1 + length ((name ++ 58 ∷ raw) ++ other))
    longer other g rest line some =
        let n = name_is name (58 ∷ (raw ++ other)) g rest token colon_ends_token (subst (λ (t : List ℕ). FieldLine g t rest) (on other) line) in
        let v = in_value g.end g.raw rest other (behind_colon _ _ n.1) in
        let l = line_length g ((name ++ 58 ∷ raw) ++ other) rest line in
        let f = field_length g in
        let e = end_some g.end in
        let t = length-append name (58 ∷ raw) in
        let same : length name ≡ length g.name = ap (λ (t : List ℕ). length t) n.0 in
        (omega (arith, same), omega (arith, v, l, f, e, t, same))

value_came : (text name raw : List ℕ) → IsToken name → AllPass is_value_byte raw → text ≡ name ++ 58 ∷ raw → Partial text
value_came text name raw token all e =
    subst Partial (sym e)
    (partial_by (name ++ 58 ∷ raw) name raw (10 ∷ 10 ∷ []) lf (omega arith) (one_section _ name raw token all (append_assoc name (58 ∷ raw) (10 ∷ 10 ∷ []))) (value_leads name raw token all))

-- ---- a value and CR

return_leads : (name raw : List ℕ) → IsToken name → AllPass is_value_byte raw → Leads (name ++ 58 ∷ (raw ++ 13 ∷ [])) name 2
return_leads name raw token all = record { no_end = no_end; longer = longer }
  where
    on : (other : List ℕ) → (name ++ 58 ∷ (raw ++ 13 ∷ [])) ++ other ≡ name ++ 58 ∷ (raw ++ 13 ∷ other)
    on other = append_assoc name (58 ∷ (raw ++ 13 ∷ [])) other ∙ ap (λ (t : List ℕ). name ++ 58 ∷ t) (append_assoc raw (13 ∷ []) other)

    no_end : (other : List ℕ) (end : LineEnd) (rest : List ℕ) → (name ++ 58 ∷ (raw ++ 13 ∷ [])) ++ other ≡ print_end end ++ rest → ⊥
    no_end other end rest e = token_no_end name (58 ∷ (raw ++ 13 ∷ other)) rest end token (sym (on other) ∙ e)

    two : (end : LineEnd) (other rest : List ℕ) → 13 ∷ other ≡ print_end end ++ rest → length (print_end end) ≡ 2
    two crlf other rest e = refl
    two lf other rest e = absurd (cc)

    longer : (other : List ℕ) (g : Field) (rest : List ℕ) → FieldLine g ((name ++ 58 ∷ (raw ++ 13 ∷ [])) ++ other) rest → 0 < length rest
        → (length name ≤ length g.name) × (length (name ++ 58 ∷ (raw ++ 13 ∷ [])) + 2 + length rest ≤ 1 + length ((name ++ 58 ∷ (raw ++ 13 ∷ [])) ++ other))
    longer other g rest line some =
        let r = raw_is name raw (13 ∷ other) g rest token all refl (subst (λ (t : List ℕ). FieldLine g t rest) (on other) line) in
        let ends = two g.end other rest r.2 in
        let l = line_length g ((name ++ 58 ∷ (raw ++ 13 ∷ [])) ++ other) rest line in
        let f = field_length g in
        let t = length-append name (58 ∷ (raw ++ 13 ∷ [])) in
        let u = length-append raw (13 ∷ []) in
        let same : length name ≡ length g.name = ap (λ (t : List ℕ). length t) r.0 in
        let value : length raw ≡ length g.raw = ap (λ (t : List ℕ). length t) r.1 in
        (omega (arith, same), omega (arith, l, f, t, u, ends, same, value))

-- a section of one field that ends in CR LF
one_return : (name raw : List ℕ) → IsToken name → AllPass is_value_byte raw → ReadsSection ((name ++ 58 ∷ (raw ++ 13 ∷ [])) ++ 10 ∷ 10 ∷ []) (record { name = name; raw = raw; end = crlf } ∷ []) lf []
one_return name raw token all =
    let f : Field = record { name = name; raw = raw; end = crlf } in (
      All-cons IsField f [] (record { name = token; raw = all }) (All-nil IsField),
      append_assoc name (58 ∷ (raw ++ 13 ∷ [])) (10 ∷ 10 ∷ []) ∙ ap (λ (t : List ℕ). name ++ 58 ∷ t) (append_assoc raw (13 ∷ []) (10 ∷ 10 ∷ []))
          ∙ sym (ap (λ (t : List ℕ). t ++ []) (ap (λ (t : List ℕ). t ++ (10 ∷ [])) (append-nil (print_field f))) ∙ append-nil (print_field f ++ 10 ∷ []) ∙ print_field-append f (10 ∷ [])),
    )

return_least : (name raw : List ℕ) → Leads (name ++ 58 ∷ (raw ++ 13 ∷ [])) name 2 → (other : List ℕ) (gs : List Field) (end : LineEnd) (rest : List ℕ)
    → ReadsSection ((name ++ 58 ∷ (raw ++ 13 ∷ [])) ++ other) gs end rest
    → (1 ≤ length gs) × (All HasShortName gs → All HasShortName (record { name = name; raw = raw; end = crlf } ∷ [])) × (length (name ++ 58 ∷ (raw ++ 13 ∷ [])) + 2 + length rest ≤ length ((name ++ 58 ∷ (raw ++ 13 ∷ [])) ++ other))
return_least name raw h other gs end rest x =
    let l = leads_least (name ++ 58 ∷ (raw ++ 13 ∷ [])) name raw (10 ∷ 10 ∷ []) h other gs end rest x in
    let f : Field = record { name = name; raw = raw; end = lf } in
    (l.0, λ all. All-cons HasShortName (record { name = name; raw = raw; end = crlf }) [] (All-head HasShortName f [] (l.1 all)) (All-nil HasShortName), l.2)

value_returned : (text name raw : List ℕ) → IsToken name → AllPass is_value_byte raw → text ≡ name ++ 58 ∷ (raw ++ 13 ∷ []) → Partial text
value_returned text name raw token all e =
    subst Partial (sym e) (record {
      fields = record { name = name; raw = raw; end = crlf } ∷ [];
      more = 10 ∷ 10 ∷ [];
      last = lf;
      reads = one_return name raw token all;
      some = omega arith;
      named = short_or_long (record { name = name; raw = raw; end = crlf });
      least = return_least name raw (return_leads name raw token all);
    })

-- ---- all texts

by_fields : (n room : ℕ) (f : Field) (text middle : List ℕ) → FieldLine f text middle → Known n (room - length (print_field f)) middle → Known (suc n) room text
by_fields n room f text middle line known =
    elim (cases_lt most_name (length f.name)) [
      | inl long ↦ dead (suc n) room text (line_hopeless (suc n) room f text middle line (λ fields rest others are few named fits.
          let s = All-head HasShortName f others (subst (λ (gs : List Field). All HasShortName gs) are named) in omega (arith, s, long)))
      | inr short ↦ elim (cases_lt room (length (print_field f))) [
        | inl long ↦ dead (suc n) room text (line_hopeless (suc n) room f text middle line (λ fields rest others are few named fits. omega (arith, fits, long)))
        | inr fits ↦ by_line n room f text middle line short fits known
      ]
    ]

no_fields : (room : ℕ) (f : Field) (text middle : List ℕ) → FieldLine f text middle → Known 0 room text
no_fields room f text middle line =
    dead 0 room text (line_hopeless 0 room f text middle line (λ fields rest others are few named fits.
    let one : length (f ∷ others) ≤ 0 = subst (λ (gs : List Field). length gs ≤ 0) are few in omega (arith, one)))

known : (n room : ℕ) (text : List ℕ) → Line text → Known n room text
known n room text (Empty end rest e) = by_empty n room end text rest e
known zero room text (Whole f middle line) = no_fields room f text middle line
known (suc n) room text (Whole f middle line) = by_fields n room f text middle line (known n (room - length (print_field f)) middle (line_of middle))
known n room text (Nothing e) = by_partial n room text (subst Partial (sym e) nothing_came)
known n room text (Return e) = by_partial n room text (subst Partial (sym e) return_came)
known n room text (InName token) = by_partial n room text (name_came text token)
known n room text (InValue name raw token all e) = by_partial n room text (value_came text name raw token all e)
known n room text (AtReturn name raw token all e) = by_partial n room text (value_returned text name raw token all e)
known n room text (Never never) = dead n room text (no_line n room text never)

-- ---- in words of sections within the limits

within_of : (most : ℕ) (text : List ℕ) (fields : List Field) (rest : List ℕ) → BeginsSection most text fields rest → Within most_trailers most text fields rest
within_of most text fields rest b = record { last = b.begins.last; reads = b.begins.reads; few = b.begins.few; named = b.begins.named; short = b.short }

begins_of : (most : ℕ) (text : List ℕ) (fields : List Field) (rest : List ℕ) → Within most_trailers most text fields rest → BeginsSection most text fields rest
begins_of most text fields rest w = record { begins = record { last = w.last; reads = w.reads; few = w.few; named = w.named }; short = w.short }

told : (most : ℕ) (text : List ℕ) → Known most_trailers most text
    → ((fields : List Field) × (rest : List ℕ) × BeginsSection most text fields rest) ⊎ (HasNoSectionWithin most text × (IsHopelessSection most text ⊎ (¬ (IsHopelessSection most text))))
told most text (inl (fields, rest, w)) = inl (fields, rest, begins_of most text fields rest w)
told most text (inr (none, inl dead_on)) = inr (λ fields rest b. none fields rest (within_of most text fields rest b), inl (λ more fields rest b. dead_on more fields rest (within_of most (text ++ more) fields rest b)))
told most text (inr (none, inr alive)) =
    inr (λ fields rest b. none fields rest (within_of most text fields rest b), inr (λ dead_on. alive (λ more fields rest w. dead_on more fields rest (begins_of most (text ++ more) fields rest w))))

pub section_known : (most : ℕ) (text : List ℕ)
    → ((fields : List Field) × (rest : List ℕ) × BeginsSection most text fields rest) ⊎ (HasNoSectionWithin most text × (IsHopelessSection most text ⊎ (¬ (IsHopelessSection most text))))
section_known most text = told most text (known most_trailers most text (line_of text))
