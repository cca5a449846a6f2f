-- The sections that are read byte by byte are those of httparse's grammar.
use Rattle.std.proofs.Common.{◌≡◌, ℕ, zero, suc, ◌+◌, ◌<◌, ◌≤◌, Bool, true, false, cond, nat_eq, List, [], ◌∷◌, ◌++◌, Option, Some, None, refl, sym, ap, ◌∙◌, arith, length, take, drop, append_assoc, subst}
use Rattle.std.specs.Prelude.{map, All}
use Rattle.std.specs.List.{prefix_len, flat_map}
use Rattle.std.proofs.lemmas.Bool.{eqb-true}
use Rattle.std.proofs.lemmas.List.{length-append, take_at, drop_at, take-append-drop, get_or-take}
use Rattle.std.proofs.lemmas.List.Sums.{prefix_len_passes}
use Rattle.std.proofs.lemmas.List.Folds.{length-prefix_len}
use Rattle.httparse.specs.Grammar as grammar
use Rattle.httparse.specs.Grammar.{LineEnd, IsField, AllPass, print_end, print_field, print_section, ReadsSection, is_token_byte, is_value_byte, trim_ows}
use Rattle.httparse.specs.Spans.{name_and_value}
use Rattle.httparse.proofs.GrammarLemmas.{ReadsSection-append}
use Rattle.http_model.specs.Head.{Field}
use Rattle.fcgi_lane.specs.Answer.Section.{behind_feed, behind_end, with_rest, value_at, colon_at, named_at, field_at, in_front, more_fields, section_from, section_within, section_at}

abbrev pub Section : Type 0
Section = List Field × List ℕ

pub some_is : {A : Type 0} (x y : A) → Some x ≡ Some y → x ≡ y
some_is x y e = cc

-- ---- a text of the grammar is read

-- so many bytes in front of one that fails
prefix_stops : (p : ℕ → Bool) (xs : List ℕ) (y : ℕ) (ys : List ℕ) → AllPass p xs → p y ≡ false → prefix_len p (xs ++ y ∷ ys) ≡ length xs
prefix_stops p [] y ys all off = ap (λ (t : Bool). cond t (1 + prefix_len p ys) 0) off
prefix_stops p (x ∷ xs) y ys all off =
    let first : p x ≡ true = all 0 0 (omega arith) in
    let others : AllPass p xs = λ k d lt. all (suc k) d (omega (arith, lt)) in
    let later : prefix_len p (xs ++ y ∷ ys) ≡ length xs = prefix_stops p xs y ys others off in
    ap (λ (t : Bool). cond t (1 + prefix_len p (xs ++ y ∷ ys)) 0) first ∙ omega (arith, later)

other_by : (p : ℕ → Bool) (b c : ℕ) (t : Bool) → nat_eq b c ≡ t → p b ≡ true → p c ≡ false → t ≡ false
other_by p b c true is good bad =
    let same : b ≡ c = eqb-true b c is in
    let clash : true ≡ false = sym good ∙ ap p same ∙ bad in
    clash
other_by p b c false is good bad = refl

-- a byte that passes isn't one that doesn't
other : (p : ℕ → Bool) (b c : ℕ) → p b ≡ true → p c ≡ false → nat_eq b c ≡ false
other p b c good bad = other_by p b c (nat_eq b c) refl good bad

value_line : (name raw more tail : List ℕ) (b : ℕ) → AllPass is_value_byte raw → is_value_byte b ≡ false → behind_end (b ∷ tail) ≡ Some more
    → value_at name (raw ++ b ∷ tail) ≡ Some ((name, trim_ows raw), more)
value_line name raw more tail b all off end =
    let text : List ℕ = raw ++ b ∷ tail in
    ap (λ (n : ℕ). with_rest (name, trim_ows (take n text)) (behind_end (drop n text))) (prefix_stops is_value_byte raw b tail all off)
    ∙ ap (λ (t : List ℕ). with_rest (name, trim_ows t) (behind_end (drop (length raw) text))) (take_at raw (b ∷ tail) (length raw) refl)
    ∙ ap (λ (t : List ℕ). with_rest (name, trim_ows raw) (behind_end t)) (drop_at raw (b ∷ tail) (length raw) refl)
    ∙ ap (with_rest (name, trim_ows raw)) end

value_then : (name raw more : List ℕ) (end : LineEnd) → AllPass is_value_byte raw → value_at name (raw ++ (print_end end ++ more)) ≡ Some ((name, trim_ows raw), more)
value_then name raw more LineEnd.crlf all = value_line name raw more (10 ∷ more) 13 all refl refl
value_then name raw more LineEnd.lf all = value_line name raw more more 10 all refl refl

named_colon : (name bytes : List ℕ) → 0 < length name → named_at name bytes ≡ colon_at name bytes
named_colon [] bytes some = absurd (omega (arith, some))
named_colon (b ∷ name) bytes some = refl

no_token : is_token_byte 58 ≡ false
unfolding is_token_byte
no_token = refl

no_feed : is_token_byte 10 ≡ false
unfolding is_token_byte
no_feed = refl

no_return : is_token_byte 13 ≡ false
unfolding is_token_byte
no_return = refl

field_line : (name behind : List ℕ) → 0 < length name → AllPass is_token_byte name → field_at (name ++ 58 ∷ behind) ≡ value_at name behind
field_line name behind some all =
    let text : List ℕ = name ++ 58 ∷ behind in
    ap (λ (n : ℕ). named_at (take n text) (drop n text)) (prefix_stops is_token_byte name 58 behind all no_token)
    ∙ ap (λ (t : List ℕ). named_at t (drop (length name) text)) (take_at name (58 ∷ behind) (length name) refl)
    ∙ ap (named_at name) (drop_at name (58 ∷ behind) (length name) refl)
    ∙ named_colon name (58 ∷ behind) some

no_end : (name behind : List ℕ) → 0 < length name → AllPass is_token_byte name → behind_end (name ++ behind) ≡ None
no_end [] behind some all = absurd (omega (arith, some))
no_end (b ∷ name) behind some all =
    let token : is_token_byte b ≡ true = all 0 0 (omega arith) in
    ap (λ (t : Bool). cond t (Some (name ++ behind)) (cond (nat_eq b 13) (behind_feed (name ++ behind)) None)) (other is_token_byte b 10 token no_feed)
    ∙ ap (λ (t : Bool). cond t (behind_feed (name ++ behind)) None) (other is_token_byte b 13 token no_return)

-- the text of a field, in front of more
field_text : (f : grammar.Field) (more : List ℕ) → print_field f ++ more ≡ f.name ++ 58 ∷ (f.raw ++ (print_end f.end ++ more))
field_text f more = append_assoc (f.name ++ 58 ∷ f.raw) (print_end f.end) more ∙ append_assoc f.name (58 ∷ f.raw) (print_end f.end ++ more)

section_text : (f : grammar.Field) (fields : List grammar.Field) (last : LineEnd) (rest : List ℕ)
    → print_section (f ∷ fields) last ++ rest ≡ print_field f ++ (print_section fields last ++ rest)
section_text f fields last rest =
    append_assoc (print_field f ++ flat_map print_field fields) (print_end last) rest
    ∙ append_assoc (print_field f) (flat_map print_field fields) (print_end last ++ rest)
    ∙ ap (λ (t : List ℕ). print_field f ++ t) (sym (append_assoc (flat_map print_field fields) (print_end last) rest))

others_are : (f : grammar.Field) (fields : List grammar.Field) → All IsField (f ∷ fields) → All IsField fields
others_are f fields all = λ k d lt. all (suc k) d (omega (arith, lt))

-- a section of less than so many fields
within_so_many : (fields : List grammar.Field) (last : LineEnd) (rest : List ℕ) (n : ℕ) → All IsField fields → length fields < n
    → section_within n (print_section fields last ++ rest) ≡ Some (map name_and_value fields, rest)
within_so_many fields last rest zero all lt = absurd (omega (arith, lt))
within_so_many [] LineEnd.crlf rest (suc n) all lt = refl
within_so_many [] LineEnd.lf rest (suc n) all lt = refl
within_so_many (f ∷ fields) last rest (suc n) all lt =
    let more : List ℕ = print_section fields last ++ rest in
    let behind : List ℕ = f.raw ++ (print_end f.end ++ more) in
    let is : IsField f = all 0 f (omega arith) in
    ap (section_within (suc n)) (section_text f fields last rest ∙ field_text f more)
    ∙ ap (section_from (section_within n) (f.name ++ 58 ∷ behind)) (no_end f.name (58 ∷ behind) is.name.0 is.name.1)
    ∙ ap (more_fields (section_within n)) (field_line f.name behind is.name.0 is.name.1 ∙ value_then f.name f.raw more f.end is.raw)
    ∙ ap (in_front (name_and_value f)) (within_so_many fields last rest n (others_are f fields all) (omega (arith, lt)))

field_len : (f : grammar.Field) → 0 < length (print_field f)
field_len f =
    omega (arith, length-append (f.name ++ 58 ∷ f.raw) (print_end f.end), length-append f.name (58 ∷ f.raw))

fields_len : (fields : List grammar.Field) → length fields ≤ length (flat_map print_field fields)
fields_len [] = omega arith
fields_len (f ∷ fields) = omega (arith, length-append (print_field f) (flat_map print_field fields), field_len f, fields_len fields)

end_len : (last : LineEnd) → 0 < length (print_end last)
end_len LineEnd.crlf = omega arith
end_len LineEnd.lf = omega arith

few_fields : (fields : List grammar.Field) (last : LineEnd) (rest : List ℕ) → length fields < length (print_section fields last ++ rest)
few_fields fields last rest =
    omega (arith, length-append (print_section fields last) rest, length-append (flat_map print_field fields) (print_end last), fields_len fields, end_len last)

pub section_reads : (bytes : List ℕ) (fields : List grammar.Field) (last : LineEnd) (rest : List ℕ) → ReadsSection bytes fields last rest
    → section_at bytes ≡ Some (map name_and_value fields, rest)
section_reads bytes fields last rest reads =
    ap section_at reads.1
    ∙ within_so_many fields last rest (length (print_section fields last ++ rest)) reads.0 (few_fields fields last rest)

-- ---- what is read is a text of the grammar

feed_by : (b : ℕ) (bytes rest : List ℕ) (t : Bool) → nat_eq b 10 ≡ t → cond t (Some bytes) None ≡ Some rest → b ∷ bytes ≡ 10 ∷ rest
feed_by b bytes rest true is e = ap (λ (c : ℕ). c ∷ bytes) (eqb-true b 10 is) ∙ ap (λ (r : List ℕ). 10 ∷ r) (some_is bytes rest e)
feed_by b bytes rest false is e = absurd cc

feed_is : (bytes rest : List ℕ) → behind_feed bytes ≡ Some rest → bytes ≡ 10 ∷ rest
feed_is [] rest e = absurd cc
feed_is (b ∷ bytes) rest e = feed_by b bytes rest (nat_eq b 10) refl e

-- a line end stands in front of the rest
record EndIs (bytes rest : List ℕ) : Type 0 where
  pub last : LineEnd
  pub text : bytes ≡ print_end last ++ rest

end_by : (b : ℕ) (bytes rest : List ℕ) (t u : Bool) → nat_eq b 10 ≡ t → nat_eq b 13 ≡ u → cond t (Some bytes) (cond u (behind_feed bytes) None) ≡ Some rest → EndIs (b ∷ bytes) rest
end_by b bytes rest true u is or e =
    record { last = LineEnd.lf; text = ap (λ (c : ℕ). c ∷ bytes) (eqb-true b 10 is) ∙ ap (λ (r : List ℕ). 10 ∷ r) (some_is bytes rest e) }
end_by b bytes rest false true is or e =
    record { last = LineEnd.crlf; text = ap (λ (c : ℕ). c ∷ bytes) (eqb-true b 13 or) ∙ ap (λ (r : List ℕ). 13 ∷ r) (feed_is bytes rest e) }
end_by b bytes rest false false is or e = absurd cc

end_is : (bytes rest : List ℕ) → behind_end bytes ≡ Some rest → EndIs bytes rest
end_is [] rest e = absurd cc
end_is (b ∷ bytes) rest e = end_by b bytes rest (nat_eq b 10) (nat_eq b 13) refl refl e

-- the front of bytes that pass
pass_front : (p : ℕ → Bool) (xs : List ℕ) → AllPass p (take (prefix_len p xs) xs)
pass_front p xs = λ k d lt.
    let short : k < prefix_len p xs = omega (arith, lt, length-prefix_len p xs) in
    ap p (get_or-take (prefix_len p xs) xs k d short) ∙ prefix_len_passes p xs k d short

-- a value and the end of its line stand in front of the rest
record ValueIs (name bytes rest : List ℕ) (field : Field) : Type 0 where
  pub raw : List ℕ
  pub last : LineEnd
  pub passes : AllPass is_value_byte raw
  pub text : bytes ≡ raw ++ (print_end last ++ rest)
  pub is : (name, trim_ows raw) ≡ field

value_by : (name bytes raw behind rest : List ℕ) (field : Field) (o : Option (List ℕ)) → behind_end behind ≡ o → AllPass is_value_byte raw → bytes ≡ raw ++ behind
    → with_rest (name, trim_ows raw) o ≡ Some (field, rest) → ValueIs name bytes rest field
value_by name bytes raw behind rest field None is passes text e = absurd cc
value_by name bytes raw behind rest field (Some r) is passes text e =
    let end = end_is behind r is in
    let same = some_is ((name, trim_ows raw), r) (field, rest) e in
    record {
      raw = raw;
      last = end.last;
      passes = passes;
      text = text ∙ ap (λ (t : List ℕ). raw ++ t) end.text ∙ ap (λ (p : Field × List ℕ). raw ++ (print_end end.last ++ p.1)) same;
      is = ap (λ (p : Field × List ℕ). p.0) same;
    }

value_is : (name bytes rest : List ℕ) (field : Field) → value_at name bytes ≡ Some (field, rest) → ValueIs name bytes rest field
value_is name bytes rest field e =
    let n : ℕ = prefix_len is_value_byte bytes in
    value_by name bytes (take n bytes) (drop n bytes) rest field (behind_end (drop n bytes)) refl (pass_front is_value_byte bytes) (sym (take-append-drop n bytes)) e

-- a colon and a value stand in front of the rest
record ColonIs (name bytes rest : List ℕ) (field : Field) : Type 0 where
  pub some : 0 < length name
  pub behind : List ℕ
  pub text : bytes ≡ 58 ∷ behind
  pub value : ValueIs name behind rest field

colon_by : (name : List ℕ) (b : ℕ) (bytes rest : List ℕ) (field : Field) (t : Bool) → 0 < length name → nat_eq b 58 ≡ t → cond t (value_at name bytes) None ≡ Some (field, rest) → ColonIs name (b ∷ bytes) rest field
colon_by name b bytes rest field true some is e =
    record { some = some; behind = bytes; text = ap (λ (c : ℕ). c ∷ bytes) (eqb-true b 58 is); value = value_is name bytes rest field e }
colon_by name b bytes rest field false some is e = absurd cc

colon_is : (name bytes rest : List ℕ) (field : Field) → 0 < length name → colon_at name bytes ≡ Some (field, rest) → ColonIs name bytes rest field
colon_is name [] rest field some e = absurd cc
colon_is name (b ∷ bytes) rest field some e = colon_by name b bytes rest field (nat_eq b 58) some refl e

named_is : (name bytes rest : List ℕ) (field : Field) → named_at name bytes ≡ Some (field, rest) → ColonIs name bytes rest field
named_is [] bytes rest field e = absurd cc
named_is (b ∷ name) bytes rest field e = colon_is (b ∷ name) bytes rest field (omega arith) e

-- a field of the grammar stands in front of the rest
record FieldIs (bytes rest : List ℕ) (field : Field) : Type 0 where
  pub of : grammar.Field
  pub good : IsField of
  pub text : bytes ≡ print_field of ++ rest
  pub is : name_and_value of ≡ field

field_is : (bytes rest : List ℕ) (field : Field) → field_at bytes ≡ Some (field, rest) → FieldIs bytes rest field
field_is bytes rest field e =
    let n : ℕ = prefix_len is_token_byte bytes in
    let name : List ℕ = take n bytes in
    let c = named_is name (drop n bytes) rest field e in
    let f : grammar.Field = record { name = name; raw = c.value.raw; end = c.value.last } in
    record {
      of = f;
      good = record { name = (c.some, pass_front is_token_byte bytes); raw = c.value.passes };
      text = sym (take-append-drop n bytes) ∙ ap (λ (t : List ℕ). name ++ t) (c.text ∙ ap (λ (t : List ℕ). 58 ∷ t) c.value.text) ∙ sym (field_text f rest);
      is = c.value.is;
    }

-- a section of the grammar stands in front of the rest
pub record SectionIs (bytes : List ℕ) (section : Section) : Type 0 where
  pub fields : List grammar.Field
  pub last : LineEnd
  pub reads : ReadsSection bytes fields last section.1
  pub are : map name_and_value fields ≡ section.0

abbrev IsRead : ℕ → Type 0
IsRead n = (bytes : List ℕ) (s : Section) → section_within n bytes ≡ Some s → SectionIs bytes s

no_fields : (bytes rest : List ℕ) → EndIs bytes rest → SectionIs bytes ([], rest)
no_fields bytes rest end = record { fields = []; last = end.last; reads = (λ k d lt. absurd (omega (arith, lt)), end.text); are = refl }

all_are : (f : grammar.Field) (fields : List grammar.Field) → IsField f → All IsField fields → All IsField (f ∷ fields)
all_are f fields first others zero d lt = first
all_are f fields first others (suc k) d lt = others k d (omega (arith, lt))

one_more : (bytes more : List ℕ) (field : Field) (s : Section) → FieldIs bytes more field → SectionIs more s → SectionIs bytes (field ∷ s.0, s.1)
one_more bytes more field s f later = record {
  fields = f.of ∷ later.fields;
  last = later.last;
  reads = (
    all_are f.of later.fields f.good later.reads.0,
    f.text ∙ ap (λ (t : List ℕ). print_field f.of ++ t) later.reads.1 ∙ sym (section_text f.of later.fields later.last s.1),
  );
  are = ap (λ (x : Field). x ∷ map name_and_value later.fields) f.is ∙ ap (λ (xs : List Field). field ∷ xs) later.are;
}

front_by : (bytes more : List ℕ) (field : Field) (s : Section) (o : Option Section) → FieldIs bytes more field → ((t : Section) → o ≡ Some t → SectionIs more t)
    → in_front field o ≡ Some s → SectionIs bytes s
front_by bytes more field s None f later e = absurd cc
front_by bytes more field s (Some t) f later e =
    subst (λ (p : Section). SectionIs bytes p) (some_is (field ∷ t.0, t.1) s e) (one_more bytes more field t f (later t refl))

more_by : (n : ℕ) (bytes : List ℕ) (s : Section) (o : Option (Field × List ℕ)) → field_at bytes ≡ o → IsRead n → more_fields (section_within n) o ≡ Some s → SectionIs bytes s
more_by n bytes s None is read e = absurd cc
more_by n bytes s (Some (field, more)) is read e =
    front_by bytes more field s (section_within n more) (field_is bytes more field is) (λ t h. read more t h) e

from_by : (n : ℕ) (bytes : List ℕ) (s : Section) (o : Option (List ℕ)) → behind_end bytes ≡ o → IsRead n → section_from (section_within n) bytes o ≡ Some s → SectionIs bytes s
from_by n bytes s None is read e = more_by n bytes s (field_at bytes) refl read e
from_by n bytes s (Some rest) is read e =
    subst (λ (p : Section). SectionIs bytes p) (some_is ([], rest) s e) (no_fields bytes rest (end_is bytes rest is))

is_read : (n : ℕ) (bytes : List ℕ) (s : Section) → section_within n bytes ≡ Some s → SectionIs bytes s
is_read zero bytes s e = absurd cc
is_read (suc n) bytes s e = from_by n bytes s (behind_end bytes) refl (is_read n) e

pub section_is : (bytes : List ℕ) (s : Section) → section_at bytes ≡ Some s → SectionIs bytes s
section_is bytes s e = is_read (length bytes) bytes s e

-- ---- more behind a section

pub section_more : (bytes more : List ℕ) (s : Section) → section_at bytes ≡ Some s → section_at (bytes ++ more) ≡ Some (s.0, s.1 ++ more)
section_more bytes more s e =
    let is = section_is bytes s e in
    section_reads (bytes ++ more) is.fields is.last (s.1 ++ more) (ReadsSection-append bytes is.fields is.last s.1 more is.reads)
    ∙ ap (λ (fs : List Field). Some (fs, s.1 ++ more)) is.are
